-- `board_calls::power_on` meets its contract: each way that the call can end is a law of Calls. Assumes nothing.
use mathlib.Core.Path.{◌∙◌}
use Rattle.board_calls.proofs.Calls.{power_short, powered, power_saved}
use Rattle.board_calls.proofs.power_on.Goals as goal

pub returns-then-machine-ne42 : goal.returns-then-machine-ne42
returns-then-machine-ne42 c = let a = c.args in
    power_short a.image.now a.r a.machine.now c.if-machine-ne42.true

pub returns-in-Ok : goal.returns-in-Ok
returns-in-Ok c = let a = c.args in
    let long = c.if-machine-ne42.false in
    power_saved a.image.now a.r a.machine.now _ long c.save.ensures.fact_2
    ∙ powered a.image.now a.r a.machine.now _ long c.power_on.ensures c.in-Ok.is

pub returns-in-Err-WrongImage : goal.returns-in-Err-WrongImage
returns-in-Err-WrongImage c = let a = c.args in
    powered a.image.now a.r a.machine.now _
    c.if-machine-ne42.false c.power_on.ensures (rw c.in-Err-WrongImage.field-0-is at c.in-Err-WrongImage.is)

pub returns-in-Err-WrongStart : goal.returns-in-Err-WrongStart
returns-in-Err-WrongStart c = let a = c.args in
    powered a.image.now a.r a.machine.now _
    c.if-machine-ne42.false c.power_on.ensures (rw c.in-Err-WrongStart.field-0-is at c.in-Err-WrongStart.is)
