-- `execution_map::ones` meets its contract: what is summed and what is left make the ones of the whole map. Assumes nothing.
use Prim.Native.Nat.{◌+◌, ◌*◌, ◌≤◌}
use mathlib.Core.Path.{◌≡◌}
use lib.ListN.{drop}
use Rattle.execution_map.specs.Map.{ones_of}
use Rattle.execution_map.proofs.ones.Given as goal

abbrev pub invariant-loop-byte : goal.invariant-loop-byte
invariant-loop-byte l = (l.sum ≤ 8 * l.byte-index) × (ones_of l.map ≡ l.sum + ones_of (drop l.byte-index l.map))
