-- `board_results::write` meets its contract: three numbers after the first 16 bytes. Assumes nothing.
use native.Mathlib.Omega.{arith}
use Rattle.numbers.proofs.Laws.{laid_more}
use Rattle.board_results.specs.Results.{result_bytes}
use Rattle.board_results.proofs.Laws.{laid_head}
use Rattle.board_results.proofs.write.Goals as goal

pub returns : goal.returns
unfolding result_bytes
returns c = let b = c.requires in
    let l0 = laid_head c.args.res.now _ _ c.write_head.ensures in
    let l1 = laid_more l0 8 _ (omega arith) c.put.ensures in
    let l2 = laid_more l1 8 _ (omega arith) c.put-2.ensures in
    (laid_more l2 8 _ (omega arith) c.put-3.ensures).same
