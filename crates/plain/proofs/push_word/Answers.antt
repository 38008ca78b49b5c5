use Rattle.plain.proofs.Hopping.{is_made, is_left}
use mathlib.Core.Path.{sym}
use Rattle.plain.proofs.Accesses.{after, ends, pushes2}
use Rattle.chip.specs.Shapes.{pushes_word}
use Rattle.plain.proofs.push_word.Goals as goal

pub returns-then-c-floor : goal.returns-then-c-floor
unfolding pushes_word
returns-then-c-floor c = is_left _ _ _ _

pub returns : goal.returns
unfolding pushes_word
returns c = is_made _ _ _ _ _ _ (after _ _ _ _ _
    (pushes2 _ _ _ _ _ c.if-c-floor.false
    (rw c.minus-next.ensures at
    c.if-next-floor.false)
    (rw (
      c.lower.ensures,
      c.word-w.ensures,
    ) at
    c.write_plain.ensures)
    (rw (
      c.minus-next.ensures,
      c.upper.ensures,
      c.word-w.ensures,
    ) at
    c.write_plain-2.ensures))
    (ends _ _ _ (sym (rw (
      c.with_sp.ensures,
      c.minus.ensures,
      c.minus-next.ensures,
    ) at
    c.pushed.ensures))))
