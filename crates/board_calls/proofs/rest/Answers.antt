-- `board_calls::rest` meets its contract: each way that the call can end is a law of Calls. Assumes nothing.
use mathlib.Core.Path.{◌∙◌}
use Rattle.board_results.proofs.Returned.{returned_told}
use Rattle.board_calls.proofs.Calls.{rest_short, rest_left, rest_refused}
use Rattle.board_calls.proofs.rest.Goals as goal

pub returns-then-res-lt8 : goal.returns-then-res-lt8
returns-then-res-lt8 c = let a = c.args in
    rest_short a.session.now a.used.0 a.cycles.0 a.buffer.now a.res.now c.if-res-lt8.true

pub returns-in-Ok : goal.returns-in-Ok
returns-in-Ok c = let a = c.args in
    returned_told _ a.res.now _ _ c.tell.ensures
    ∙ rest_left a.session.now a.used.0 a.cycles.0 a.buffer.now a.res.now _
    c.if-res-lt8.false c.rest.ensures c.in-Ok.is

pub returns-in-Err-Bad : goal.returns-in-Err-Bad
returns-in-Err-Bad c = let a = c.args in
    let r = c.from-refusal in
    rest_refused _ a.res.now c.in-Err-Bad.fault r.result r.ensures
    c.number.ensures c.record.ensures c.tell-in-Err-Bad.ensures
    ∙ rest_left a.session.now a.used.0 a.cycles.0 a.buffer.now a.res.now _
    c.if-res-lt8.false c.rest.ensures (rw c.in-Err-Bad.field-0-is at c.in-Err-Bad.is)

pub returns-in-Err-TooFew : goal.returns-in-Err-TooFew
returns-in-Err-TooFew c = let a = c.args in
    rest_left a.session.now a.used.0 a.cycles.0 a.buffer.now a.res.now _
    c.if-res-lt8.false c.rest.ensures (rw c.in-Err-TooFew.field-0-is at c.in-Err-TooFew.is)

pub returns-in-Err-NoRoom : goal.returns-in-Err-NoRoom
returns-in-Err-NoRoom c = let a = c.args in
    rest_left a.session.now a.used.0 a.cycles.0 a.buffer.now a.res.now _
    c.if-res-lt8.false c.rest.ensures (rw c.in-Err-NoRoom.field-0-is at c.in-Err-NoRoom.is)
