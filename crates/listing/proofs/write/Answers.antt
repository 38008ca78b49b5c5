-- `listing::write` meets its contract: each turn writes one line more. Assumes nothing.
use native.Mathlib.Omega.{arith}
use mathlib.Core.Path.{refl, sym, ap, ◌∙◌}
use lib.ListN.{length}
use Rattle.listing.proofs.Laws.{found, listing_split, writes_more, writes_done}
use Rattle.listing.proofs.write.Goals as goal

pub put-requires : goal.put-requires
put-requires c = let l = c.loop-address in
    let a = c.args in
    let line = c.line_at-text.ensures in
    let t = found a.image.now a.last l.address c.loop-address-test.true c.shown_at-shown.ensures.0 refl (ap length (sym line.0)) in
    let s = listing_split a.image.now a.last t in
    omega (arith, s, l.invariant.1, l.invariant.2)

pub loop-address-preserved : goal.loop-address-preserved
loop-address-preserved c = let l = c.loop-address in
    let a = c.args in
    let shown = c.shown_at-shown.ensures in
    let line = c.line_at-text.ensures in
    let put = c.put in
    let t = found a.image.now a.last l.address c.loop-address-test.true shown.0 c.bytes_of.ensures line.1 in
    let s = listing_split a.image.now a.last t in (
      omega (arith, shown.3, c.bytes_of.ensures),
      put.auto.buffer ∙ l.invariant.1,
      omega (arith, s, l.invariant.2),
      l.invariant.3 ∙ writes_more a.image.now a.last l.at l.buffer t (rw line.0 at put.ensures),
    )

pub returns : goal.returns
returns c = let l = c.loop-address in
    let a = c.args in
    sym (l.invariant.3 ∙ writes_done a.image.now a.last l.at l.buffer c.loop-address-test.false)
