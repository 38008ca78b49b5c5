use Prim.Native.Nat.{◌-◌}
use mathlib.Core.Path.{◌≡◌}
use lib.ListN.{length}
use Rattle.boundary.specs.World.{lending, terms_of, world_of}
use Rattle.boundary.specs.Boundary.{run_of}
use Rattle.boundary.specs.Counts.{Fine}
use Rattle.run.proofs.run.Given as goal

abbrev pub invariant-loop-stop : goal.invariant-loop-stop
invariant-loop-stop l = Fine l.s
    × (run_of (terms_of l.terms) (world_of l.initial.s (lending l.initial.image l.initial.area l.initial.output l.initial.log))
    ≡ run_of (terms_of l.terms) (world_of l.s (lending l.image l.area l.output l.log)))
    × (length l.image ≡ length l.initial.image) × (length l.area ≡ length l.initial.area) × (length l.output ≡ length l.initial.output) × (length l.log ≡ length l.initial.log)

abbrev pub decreases-loop-stop : goal.decreases-loop-stop
decreases-loop-stop l = l.terms.limit - l.s.cycles.0
