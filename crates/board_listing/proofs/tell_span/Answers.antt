-- `board_listing::tell_span` meets its contract: two numbers, one after the other. Assumes nothing.
use native.Mathlib.Omega.{arith}
use Rattle.numbers.proofs.Laws.{laid_none, laid_more}
use Rattle.board_listing.proofs.tell_span.Goals as goal

pub returns : goal.returns
returns c = let b = c.requires in
    let l = laid_more (laid_none c.args.res.now) 8 _ (omega arith) c.put.ensures in
    (laid_more l 8 _ (omega arith) c.put-2.ensures).same
