-- `night_names::last_at` meets its contract: each turn looks at one byte more. Assumes nothing.
use Prim.Native.Nat.{◌≤◌}
use mathlib.Core.Path.{◌≡◌}
use lib.ListN.{drop}
use Rattle.night_names.specs.Names.{last_at, last_from}
use Rattle.night_names.proofs.last_at.Given as goal

abbrev pub invariant-loop-i : goal.invariant-loop-i
invariant-loop-i l = record { within : l.at ≤ l.i; same : last_at l.name ≡ last_from l.i l.at (drop l.i l.name) }
