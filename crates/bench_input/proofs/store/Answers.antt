-- `bench_input::store` meets its contract: each turn stores one byte more. Assumes nothing.
use Prim.Native.Nat.{◌+◌}
use native.Mathlib.Omega.{arith}
use mathlib.Core.Path.{sym, ap, ◌∙◌}
use lib.ListN.{drop}
use Rattle.bench_input.specs.Input.{stored_at}
use Rattle.bench_input.proofs.Laws.{stored_more, stored_all}
use Rattle.bench_input.proofs.store.Goals as goal

pub loop-byte-preserved : goal.loop-byte-preserved
loop-byte-preserved c = let l = c.loop-byte in
    let b = c.args.bytes.now in
    let e = l.invariant.at_is in
    record {
      at_is = omega (arith, e);
      same_length = c.store_byte.auto.image ∙ l.invariant.same_length;
      same = l.invariant.same
          ∙ stored_more b l.image l.at l.byte-index c.loop-byte-test.true
          ∙ ap (λ x. stored_at x (l.at + 1) (drop (l.byte-index + 1) b)) (sym c.store_byte.ensures);
    }

pub returns : goal.returns
returns c = let l = c.loop-byte in
    sym (l.invariant.same ∙ stored_all c.args.bytes.now l.image l.at l.byte-index c.loop-byte-test.false)
