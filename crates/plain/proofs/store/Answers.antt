use Rattle.plain.proofs.Hopping.{is_made, is_left}
use mathlib.Core.Path.{sym}
use Rattle.plain.proofs.Accesses.{after, ends, writes}
use Rattle.chip.specs.Shapes.{stores}
use Rattle.plain.proofs.store.Goals as goal

pub returns-then-to-floor : goal.returns-then-to-floor
unfolding stores
returns-then-to-floor c = is_left _ _ _ _

pub returns : goal.returns
unfolding stores
returns c = is_made _ _ _ _ _ _ (after _ _ _ _ _
    (writes _ _ _ _ (rw c.address-to.ensures at c.if-to-floor.false)
    (rw (c.address-to.ensures, c.byte.ensures) at c.write_plain.ensures))
    (ends _ _ _ (sym c.stored.ensures)))
