-- `execution_map::first_unrun` meets its contract: the full search is what is left of it at each turn, and its first is found there. Assumes nothing.
use Prim.Native.Nat.{◌+◌, ◌-◌}
use mathlib.Core.Path.{◌≡◌}
use Rattle.execution_map.specs.Map.{unrun_from}
use Rattle.execution_map.proofs.first_unrun.Given as goal

abbrev pub invariant-loop-at : goal.invariant-loop-at
invariant-loop-at l = unrun_from l.map l.first (l.last + 1 - l.first) ≡ unrun_from l.map l.at (l.last + 1 - l.at)
