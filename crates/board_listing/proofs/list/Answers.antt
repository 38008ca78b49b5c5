-- `board_listing::list` meets its contract: each way that the call can end is a law of Calls. Assumes nothing.
use mathlib.Core.Path.{sym, ap, ◌∙◌}
use Rattle.board_results.proofs.Returned.{returned_told}
use Rattle.board_listing.specs.Calls.{on_list}
use Rattle.board_listing.proofs.Calls.{list_short, list_left}
use Rattle.board_listing.proofs.list.Goals as goal

pub returns-then-res-lt8 : goal.returns-then-res-lt8
returns-then-res-lt8 c = let a = c.args in list_short a.image.now a.first a.last a.buffer.now a.res.now c.if-res-lt8.true

pub returns-in-Ok : goal.returns-in-Ok
returns-in-Ok c = let a = c.args in
    returned_told _ a.res.now _ _ c.tell.ensures
    ∙ list_left a.image.now a.first a.last a.buffer.now a.res.now _
    c.if-res-lt8.false c.list.ensures c.in-Ok.is

pub returns-in-Err : goal.returns-in-Err
returns-in-Err c = let a = c.args in
    ap (on_list _ a.res.now) (sym c.number.ensures)
    ∙ list_left a.image.now a.first a.last a.buffer.now a.res.now _
    c.if-res-lt8.false c.list.ensures c.in-Err.is
