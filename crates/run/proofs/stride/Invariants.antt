use Prim.Native.Nat.{◌+◌, ◌-◌, ◌≤◌}
use mathlib.Core.Path.{◌≡◌}
use lib.ListN.{length}
use Rattle.boundary.specs.World.{terms_of}
use Rattle.run.specs.Leaps.{strode_of, Goes}
use Rattle.run.proofs.stride.Given as goal

abbrev pub invariant-loop-cycles : goal.invariant-loop-cycles
invariant-loop-cycles l = Goes (terms_of l.terms) l.s l.initial.image (strode_of l.s l.c l.cycles l.instructions) l.image
    × (l.instructions ≤ l.cycles) × (l.cycles ≤ l.room + 12) × (length l.image ≡ length l.initial.image)

abbrev pub decreases-loop-cycles : goal.decreases-loop-cycles
decreases-loop-cycles l = l.room - l.cycles
