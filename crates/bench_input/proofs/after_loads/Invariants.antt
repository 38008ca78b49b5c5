-- `bench_input::after_loads` meets its contract: each turn passes one load record. Assumes nothing.
use Prim.Native.Nat.{◌-◌, ◌≤◌}
use mathlib.Core.Path.{◌≡◌}
use lib.ListN.{length}
use Rattle.bench_input.specs.Input.{after_loads}
use Rattle.bench_input.proofs.after_loads.Given as goal

abbrev pub invariant-loop-at : goal.invariant-loop-at
invariant-loop-at l = (l.at ≤ length l.input) × (after_loads l.input 0 ≡ after_loads l.input l.at)

abbrev pub decreases-loop-at : goal.decreases-loop-at
decreases-loop-at l = length l.input - l.at
