-- `night_commit::finish` ends: there is a file less to make after each, and no operation refuses with another number. Assumes nothing.
use mathlib.Core.Bool.{true}
use mathlib.Core.Path.{◌≡◌}
use Rattle.night_steps.specs.Steps.{tells_refusal}
use Rattle.night_steps.proofs.Ahead.{to_make}
use Rattle.night_commit.proofs.finish.Given as goal

abbrev pub invariant-loop-places : goal.invariant-loop-places
invariant-loop-places g l = tells_refusal l.op ≡ true

abbrev pub decreases-loop-places : goal.decreases-loop-places
decreases-loop-places g l = to_make l.files l.op
