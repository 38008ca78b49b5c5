use mathlib.Core.Path.{refl, sym}
use mathlib.Core.Logic.{inl, inr}
use Rattle.plain.proofs.Accesses.{after, ends, reads, reads2}
use Rattle.chip.specs.Instructions.{operand}
use Rattle.plain.proofs.locate.Goals as goal

pub returns-in-Inherent : goal.returns-in-Inherent
unfolding operand
returns-in-Inherent c = λ s. elim c.in-Inherent.is [
  | inl e ↦ rw e (ends _ _ _ refl)
  | inr o ↦ elim o [ inl e ↦ rw e (ends _ _ _ refl) | inr e ↦ rw e (ends _ _ _ refl) ]
]

pub returns-in-ImmediateByte : goal.returns-in-ImmediateByte
unfolding operand
returns-in-ImmediateByte c = λ s. rw c.in-ImmediateByte.is (ends _ _ _ (sym c.spot.ensures))

pub returns-in-ImmediateWord : goal.returns-in-ImmediateWord
unfolding operand
returns-in-ImmediateWord c = λ s. rw c.in-ImmediateWord.is (ends _ _ _ (sym c.spot-in-ImmediateWord.ensures))

pub returns-in-Direct : goal.returns-in-Direct
unfolding operand
returns-in-Direct c = λ s. rw c.in-Direct.is (after _ _ _ _ _
    (reads _ _ c.requires.0 c.peek.ensures)
    (ends _ _ _ (sym c.spot-in-Direct.ensures)))

pub returns-in-Indexed : goal.returns-in-Indexed
unfolding operand
returns-in-Indexed c = λ s. rw c.in-Indexed.is
    (after _ _ _ _ _
    (reads _ _ c.requires.0 c.peek-in-Indexed.ensures)
    (ends _ _ _ (sym (rw c.plus.ensures at c.spot-in-Indexed.ensures))))

pub returns-in-Extended : goal.returns-in-Extended
unfolding operand
returns-in-Extended c = λ s. rw c.in-Extended.is (after _ _ _ _ _
    (reads2 _ _ c.requires.0
    c.requires.1 c.word.ensures)
    (ends _ _ _ (sym c.spot-in-Extended.ensures)))

pub returns-in-Relative : goal.returns-in-Relative
unfolding operand
returns-in-Relative c = λ s. rw c.in-Relative.is
    (after _ _ _ _ _
    (reads _ _ c.requires.0
    c.peek-in-Relative.ensures)
    (ends _ _ _ (sym (rw (c.plus-at.ensures, c.plus-in-Relative.ensures, c.offset_of.ensures) at
    c.spot-in-Relative.ensures))))
