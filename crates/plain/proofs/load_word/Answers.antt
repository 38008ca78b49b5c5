use Rattle.plain.proofs.Hopping.{is_made, is_left}
use mathlib.Core.Path.{sym}
use Rattle.plain.proofs.Accesses.{after, ends, reads2}
use Rattle.chip.specs.Shapes.{loads_word}
use Rattle.plain.proofs.load_word.Goals as goal

pub returns-then-from-floor : goal.returns-then-from-floor
unfolding loads_word
returns-then-from-floor c = λ s. is_left _ _ _ _

pub returns : goal.returns
unfolding loads_word
returns c = λ s. is_made _ _ _ _ _ _ (after _ _ _ _ _
    (reads2 _ _ (rw c.address-from.ensures at c.if-from-floor.false)
    (rw (c.plus.ensures, c.address-from.ensures) at c.if-plus-floor.false)
    (rw c.address-from.ensures at c.word.ensures))
    (ends _ _ _ (sym c.loaded_word.ensures)))
