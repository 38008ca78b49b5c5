-- `bench_input::store` meets its contract: each turn stores one byte more. Assumes nothing.
use Prim.Native.Nat.{◌+◌}
use mathlib.Core.Path.{◌≡◌}
use lib.ListN.{length, drop}
use Rattle.bench_input.specs.Input.{stored_at}
use Rattle.bench_input.proofs.store.Given as goal

abbrev pub invariant-loop-byte : goal.invariant-loop-byte
invariant-loop-byte l = record {
  at_is : l.at ≡ l.address + l.byte-index;
  same_length : length l.image ≡ length l.initial.image;
  same : stored_at l.initial.image l.address l.bytes ≡ stored_at l.image l.at (drop l.byte-index l.bytes);
}
