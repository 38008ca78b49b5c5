use Rattle.plain.proofs.Hopping.{is_made, is_left}
use mathlib.Core.Path.{sym}
use Rattle.plain.proofs.Accesses.{after, ends, writes2}
use Rattle.chip.specs.Shapes.{stores_word}
use Rattle.plain.proofs.store_word.Goals as goal

pub returns-then-at-floor : goal.returns-then-at-floor
unfolding stores_word
returns-then-at-floor c = is_left _ _ _ _

pub returns : goal.returns
unfolding stores_word
returns c = is_made _ _ _ _ _ _ (after _ _ _ _ _
    (writes2 _ _ _ _ c.if-at-floor.false
    (rw c.plus-next.ensures at
    c.if-next-floor.false)
    (rw (
      c.upper.ensures,
      c.stored-w.ensures,
    ) at
    c.write_plain.ensures)
    (rw (
      c.plus-next.ensures,
      c.lower.ensures,
      c.stored-w.ensures,
    ) at
    c.write_plain-2.ensures))
    (ends _ _ _ (sym c.stored_word.ensures)))
