-- `listing_codes::keys` meets its contract: each opcode's key is at its place. Assumes nothing.
use Prim.Native.Nat.{ℕ, ◌<◌}
use mathlib.Core.Path.{◌≡◌}
use lib.ListN.{length, get_or}
use Rattle.listing_codes.specs.Keys.{key_at}
use Rattle.listing_codes.proofs.keys.Given as goal

abbrev pub invariant-loop-op : goal.invariant-loop-op
invariant-loop-op l = (length l.keys ≡ 256) × ((k : ℕ) → k < l.op → get_or l.keys k 0 ≡ key_at k)
