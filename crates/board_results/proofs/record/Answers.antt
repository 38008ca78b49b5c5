-- `board_results::record` meets its contract: the leaps after the 40 bytes, or nothing. Assumes nothing.
use native.Mathlib.Omega.{arith}
use Rattle.numbers.proofs.Laws.{laid_more}
use Rattle.board_results.proofs.Laws.{size_leaping, laid_result}
use Rattle.board_results.proofs.record.Goals as goal

pub returns-then-leaping : goal.returns-then-leaping
returns-then-leaping c = let h = size_leaping c.if-leaping.true in
    let p = c.requires in
    let o = laid_result c.args.res.now _ _ _ c.write.ensures in
    let l = laid_more o 4 _ (omega arith) c.put.ensures in
    rw c.if-leaping.true l.same
