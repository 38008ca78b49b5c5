-- `night_commit::carry` ends, as less is ahead after each operation; where the first refuses with one of the three numbers or not at all, so does each. Assumes
-- nothing.
use mathlib.Core.Bool.{true}
use mathlib.Core.Path.{◌≡◌}
use Rattle.night_steps.specs.Steps.{tells_refusal}
use Rattle.night_steps.proofs.Ahead.{ahead}
use Rattle.night_commit.proofs.carry.Given as goal

abbrev pub invariant-loop-places : goal.invariant-loop-places
invariant-loop-places g l = tells_refusal l.fn.first ≡ true → tells_refusal l.op ≡ true

abbrev pub decreases-loop-places : goal.decreases-loop-places
decreases-loop-places g l = ahead l.files l.op
