-- `numbers::put` meets its contract: each turn puts one byte more. Assumes nothing.
use native.Mathlib.Omega.{arith}
use mathlib.Core.Path.{sym, ◌∙◌}
use lib.ListN.{length}
use Rattle.numbers.proofs.Laws.{bytes_more, bytes_all}
use Rattle.numbers.proofs.put.Goals as goal

pub loop-byte-preserved : goal.loop-byte-preserved
loop-byte-preserved c =
    let l = c.loop-byte in
    let e = l.auto.part in
    let t = c.loop-byte-test.true in
    l.invariant ∙ bytes_more l.part l.byte-index (length c.args.part.now) l.rest (omega arith) t

pub returns : goal.returns
returns c =
    let l = c.loop-byte in
    let e = l.auto.part in
    let t = c.loop-byte-test.false in
    sym (l.invariant ∙ bytes_all l.part l.byte-index (length c.args.part.now) l.rest (omega arith) t)
