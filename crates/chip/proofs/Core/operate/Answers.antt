use mathlib.Core.Path.{refl, sym, ◌∙◌}
use Rattle.chip.proofs.ActLaws.{ends}
use Rattle.chip.proofs.Shapes.{operated}
use Rattle.chip.specs.Shapes.{shaped}
use Rattle.chip.proofs.Core.operate.Goals as goal

pub returns-in-Nothing : goal.returns-in-Nothing
unfolding shaped
returns-in-Nothing c = operated _ _ _ _ _ _ (sym c.in-Nothing.is ∙ c.shape_of.ensures) (rw c.quiet.ensures (ends _ _ _ refl))
