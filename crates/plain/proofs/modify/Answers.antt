use Rattle.plain.proofs.Hopping.{is_made, is_left}
use Rattle.plain.proofs.Accesses.{after, ends, reads, writes}
use Rattle.chip.specs.Shapes.{modifies}
use Rattle.plain.proofs.modify.Goals as goal

pub returns-then-at-floor : goal.returns-then-at-floor
unfolding modifies
returns-then-at-floor c = is_left _ _ _ _

pub returns : goal.returns
unfolding modifies
returns c = is_made _ _ _ _ _ _ (after _ _ _ _ _
    (reads _ _ c.if-at-floor.false
    c.peek.ensures)
    (after _ _ _ _ _
    (writes _ _ _ _ c.if-at-floor.false
    (rw c.monadic-r.ensures at c.write_plain.ensures))
    (ends _ _ _ (rw (c.with_codes.ensures, c.monadic-r.ensures)))))
