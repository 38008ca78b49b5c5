-- `wake_log::put_row` meets its contract: four numbers, one after the other. Assumes nothing.
use borrow.Author.Rules.{rules}
use native.Mathlib.Omega.{arith}
use Prim.Native.Nat.{◌<◌}
use mathlib.Core.Path.{ap, ◌∙◌}
use Rattle.numbers.specs.Numbers.{over}
use Rattle.numbers.proofs.Laws.{laid_none}
use Rattle.wake_log.proofs.Laws.{put_after, row_put}
use Rattle.wake_log.proofs.put_row.Goals as goal

pub returns : goal.returns
returns c = let b = c.requires in
    let row = c.args.row in
    let l1 = put_after (laid_none c.args.part.now) _ _ c.put.ensures (omega arith) in
    let l2 = put_after l1 _ _ c.put-2.ensures (omega arith) in
    let l3 = put_after l2 _ _ c.put-3.ensures (omega arith) in
    let l4 = put_after l3 _ _ c.put-4.ensures (omega arith) in
    let h : row.cause < 256 = search rules in
    let g : row.behind < 256 = search rules in
    l4.same ∙ ap (λ p. over p c.args.part.now) (row_put row h g)
