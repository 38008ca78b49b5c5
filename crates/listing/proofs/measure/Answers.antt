-- `listing::measure` meets its contract: each turn counts one line more. Assumes nothing.
use native.Mathlib.Omega.{arith}
use mathlib.Core.Path.{sym, ◌∙◌}
use Rattle.listing_lines.proofs.Laws.{item_size_lem}
use Rattle.listing.proofs.Laws.{found, counts_more, counts_done}
use Rattle.listing.proofs.measure.Goals as goal

pub loop-address-preserved : goal.loop-address-preserved
loop-address-preserved c = let l = c.loop-address in
    let a = c.args in
    let shown = c.shown_at-shown.ensures in
    let size = c.item_size.ensures in
    let bytes = c.bytes_of.ensures in
    let t = found a.image.now a.last l.address c.loop-address-test.true shown.0 bytes (item_size_lem _ _ _ _ _ ∙ sym size.0) in
    (omega (arith, shown.1, bytes), omega (arith, shown.1, bytes, size.1), counts_more a.image.now a.last l.n t l.invariant.2)

pub returns : goal.returns
returns c = let l = c.loop-address in
    let a = c.args in
    counts_done a.image.now a.last l.n c.loop-address-test.false l.invariant.2
