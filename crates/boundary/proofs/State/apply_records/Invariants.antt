use Rattle.std.proofs.Common.{◌≡◌, ◌-◌, ◌≤◌, length}
use Rattle.bus.specs.Access.{memories}
use Rattle.boundary.specs.Boundary.{records_of}
use Rattle.boundary.proofs.State.apply_records.Given as goal

abbrev pub invariant-loop-s : goal.invariant-loop-s
invariant-loop-s l = (l.s.used.0 ≤ l.s.place) × (records_of l.session (memories l.image l.area) l.initial.s ≡ records_of l.session (memories l.image l.area) l.s)

abbrev pub decreases-loop-s : goal.decreases-loop-s
decreases-loop-s l = length l.session - l.s.place
