-- `session::check` meets its contract: each turn of its loop is a turn of the definition's. Assumes nothing.
use Prim.Native.Nat.{◌-◌, ◌≤◌}
use mathlib.Core.Path.{◌≡◌}
use lib.ListN.{length}
use Rattle.session.specs.Session.{check_from, check_of}
use Rattle.session.proofs.check.Given as goal

abbrev pub invariant-loop-at : goal.invariant-loop-at
invariant-loop-at l = (l.number ≤ l.at) × (l.at ≤ length l.session) × (check_of l.session ≡ check_from l.session l.number l.before l.at)

abbrev pub decreases-loop-at : goal.decreases-loop-at
decreases-loop-at l = length l.session - l.at
