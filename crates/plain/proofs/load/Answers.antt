use Rattle.plain.proofs.Hopping.{is_made, is_left}
use mathlib.Core.Path.{sym}
use Rattle.plain.proofs.Accesses.{after, ends, reads}
use Rattle.chip.specs.Shapes.{loads}
use Rattle.plain.proofs.load.Goals as goal

pub returns-then-from-floor : goal.returns-then-from-floor
unfolding loads
returns-then-from-floor c = λ s. is_left _ _ _ _

pub returns : goal.returns
unfolding loads
returns c = λ s. is_made _ _ _ _ _ _ (after _ _ _ _ _
    (reads _ _ (rw c.address-from.ensures at c.if-from-floor.false)
    (rw c.address-from.ensures at c.peek.ensures))
    (ends _ _ _ (sym c.loaded.ensures)))
