-- `board_results::write_head` meets its contract: four numbers, one after the other. Assumes nothing.
use native.Mathlib.Omega.{arith}
use Rattle.numbers.proofs.Laws.{laid_none, laid_more}
use Rattle.board_results.specs.Results.{head_bytes}
use Rattle.board_results.proofs.write_head.Goals as goal

pub returns : goal.returns
unfolding head_bytes
returns c = let b = c.requires in
    let l1 = laid_more (laid_none c.args.res.now) 4 _ (omega arith) c.put.ensures in
    let l2 = laid_more l1 4 _ (omega arith) c.put-2.ensures in
    let l3 = laid_more l2 4 _ (omega arith) c.put-3.ensures in
    (laid_more l3 4 _ (omega arith) c.put-4.ensures).same
