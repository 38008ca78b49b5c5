-- `bench_input::store_loads` meets its contract: each turn stores one load record more. Assumes nothing.
use Prim.Native.Nat.{◌-◌, ◌≤◌}
use mathlib.Core.Path.{◌≡◌}
use lib.ListN.{length}
use Rattle.bench_input.specs.Input.{loads_of}
use Rattle.bench_input.proofs.store_loads.Given as goal

abbrev pub invariant-loop-next : goal.invariant-loop-next
invariant-loop-next l = (l.at ≤ length l.input) × (length l.image ≡ length l.initial.image) × (loads_of l.input 0 l.initial.image ≡ loads_of l.input l.at l.image)

abbrev pub decreases-loop-next : goal.decreases-loop-next
decreases-loop-next l = length l.input - l.at
