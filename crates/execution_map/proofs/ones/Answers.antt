-- `execution_map::ones` meets its contract: what is summed and what is left make the ones of the whole map. Assumes nothing.
use native.Mathlib.Omega.{arith}
use lib.Count.{ones-le}
use Rattle.execution_map.proofs.Laws.{ones_from, ones_end}
use Rattle.execution_map.proofs.ones.Goals as goal

pub loop-byte-preserved : goal.loop-byte-preserved
loop-byte-preserved c =
    let h = ones-le 8 _ (c.type_inv.map c.loop-byte.byte-index).fits in
    let f = ones_from c.args.map.now c.loop-byte.byte-index c.loop-byte-test.true in
    (omega arith, omega arith)

pub returns : goal.returns
returns c = let e = ones_end c.args.map.now c.loop-byte.byte-index c.loop-byte-test.false in omega arith
