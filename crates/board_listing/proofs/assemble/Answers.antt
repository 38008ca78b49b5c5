-- `board_listing::assemble` meets its contract: each way that the call can end is a law of Calls. Assumes nothing.
use mathlib.Core.Path.{ap, ◌∙◌}
use Rattle.board_results.specs.Returned.{returned}
use Rattle.board_results.proofs.Returned.{returned_told}
use Rattle.board_listing.proofs.Calls.{assemble_short, assemble_left}
use Rattle.board_listing.proofs.assemble.Goals as goal

pub returns-then-res-lt16 : goal.returns-then-res-lt16
returns-then-res-lt16 c = let a = c.args in assemble_short a.text.now a.buffer.now a.res.now c.if-res-lt16.true

pub returns-in-Ok-Some : goal.returns-in-Ok-Some
returns-in-Ok-Some c = let a = c.args in
    ap (returned 0 _) c.tell_span.ensures
    ∙ assemble_left a.text.now a.buffer.now a.res.now _
    c.if-res-lt16.false c.assemble.ensures (rw c.in-Ok-Some.field-0-is at c.in-Ok-Some.is)

pub returns-in-Ok-None : goal.returns-in-Ok-None
returns-in-Ok-None c = let a = c.args in
    ap (returned 0 _) c.tell_span-in-Ok-None.ensures
    ∙ assemble_left a.text.now a.buffer.now a.res.now _
    c.if-res-lt16.false c.assemble.ensures (rw c.in-Ok-None.field-0-is at c.in-Ok-None.is)

pub returns-in-Err-Malformed : goal.returns-in-Err-Malformed
returns-in-Err-Malformed c = let a = c.args in
    returned_told _ a.res.now _ _ c.tell.ensures
    ∙ assemble_left a.text.now a.buffer.now a.res.now _
    c.if-res-lt16.false c.assemble.ensures (rw c.in-Err-Malformed.field-0-is at c.in-Err-Malformed.is)

pub returns-in-Err-TooFar : goal.returns-in-Err-TooFar
returns-in-Err-TooFar c = let a = c.args in
    returned_told _ a.res.now _ _ c.tell-in-Err-TooFar.ensures
    ∙ assemble_left a.text.now a.buffer.now a.res.now _
    c.if-res-lt16.false c.assemble.ensures (rw c.in-Err-TooFar.field-0-is at c.in-Err-TooFar.is)

pub returns-in-Err-NoRoom : goal.returns-in-Err-NoRoom
returns-in-Err-NoRoom c = let a = c.args in
    assemble_left a.text.now a.buffer.now a.res.now _
    c.if-res-lt16.false c.assemble.ensures (rw c.in-Err-NoRoom.field-0-is at c.in-Err-NoRoom.is)
