-- `board::run_call` meets its contract: each way that the call can end is a law of Calls. Assumes nothing.
use mathlib.Core.Path.{sym, ap, ◌∙◌}
use Rattle.boundary.specs.World.{lending, watching}
use Rattle.saved.specs.Answers.{told_loaded}
use Rattle.board.specs.Board.{buffers}
use Rattle.board.proofs.Calls.{run_short, on_loaded, refused_2, ran_left}
use Rattle.board.proofs.run_call.Goals as goal

pub returns-then-res-size : goal.returns-then-res-size
returns-then-res-size c = let a = c.args in
    let t = watching a.session.now a.n a.watch in
    let b = buffers a.machine.now (lending a.image.now a.area.now a.output.now a.log.now) a.res.now in
    run_short a.leaping t b c.record_size-size.ensures c.if-res-size.true

pub returns-in-Ok : goal.returns-in-Ok
returns-in-Ok c = let a = c.args in
    let t = watching a.session.now a.n a.watch in
    let b = buffers a.machine.now (lending a.image.now a.area.now a.output.now a.log.now) a.res.now in
    let g = c.load.ensures in
    let e = c.in-Ok.is in
    let run = c.watch_either-e in
    ran_left a.leaping t b _ run.result (sym g ∙ ap told_loaded e) run.ensures
    c.save.ensures.fact_2 c.report.ensures
    ∙ on_loaded a.leaping t b c.record_size-size.ensures c.if-res-size.false g _ e

pub returns-in-Err-WrongLength : goal.returns-in-Err-WrongLength
returns-in-Err-WrongLength c = let a = c.args in
    let t = watching a.session.now a.n a.watch in
    let b = buffers a.machine.now (lending a.image.now a.area.now a.output.now a.log.now) a.res.now in
    on_loaded a.leaping t b c.record_size-size.ensures c.if-res-size.false
    c.load.ensures _ (rw c.in-Err-WrongLength.field-0-is at c.in-Err-WrongLength.is)

pub returns-in-Err-WrongVersion : goal.returns-in-Err-WrongVersion
returns-in-Err-WrongVersion c = let a = c.args in
    let t = watching a.session.now a.n a.watch in
    let b = buffers a.machine.now (lending a.image.now a.area.now a.output.now a.log.now) a.res.now in
    on_loaded a.leaping t b c.record_size-size.ensures c.if-res-size.false
    c.load.ensures _ (rw c.in-Err-WrongVersion.field-0-is at c.in-Err-WrongVersion.is)

pub returns-in-Err-NoMachine : goal.returns-in-Err-NoMachine
returns-in-Err-NoMachine c = let a = c.args in
    let t = watching a.session.now a.n a.watch in
    let b = buffers a.machine.now (lending a.image.now a.area.now a.output.now a.log.now) a.res.now in
    on_loaded a.leaping t b c.record_size-size.ensures c.if-res-size.false
    c.load.ensures _ (rw c.in-Err-NoMachine.field-0-is at c.in-Err-NoMachine.is)

pub returns-in-Err-WrongMachine : goal.returns-in-Err-WrongMachine
returns-in-Err-WrongMachine c = let a = c.args in
    let t = watching a.session.now a.n a.watch in
    let b = buffers a.machine.now (lending a.image.now a.area.now a.output.now a.log.now) a.res.now in
    refused_2 a.leaping t b c.unfit-number.ensures c.refuse.ensures
    ∙ on_loaded a.leaping t b c.record_size-size.ensures c.if-res-size.false
    c.load.ensures _ (rw c.in-Err-WrongMachine.field-0-is at c.in-Err-WrongMachine.is)
