-- `listing_marks::write` meets its contract: each turn writes one line more. Assumes nothing.
use native.Mathlib.Omega.{arith}
use mathlib.Core.Path.{sym, ◌∙◌}
use Rattle.listing_marks.proofs.Laws.{Turn, counts_more, counts_done, writes_more, writes_done}
use Rattle.listing_marks.proofs.write.Goals as goal

pub loop-address-preserved : goal.loop-address-preserved
loop-address-preserved c = let l = c.loop-address in
    let a = c.args in
    let shown = c.shown_at-shown.ensures in
    let put = c.put_line-n in
    let bytes = c.bytes_of.ensures in
    let t : Turn a.map.now a.image.now a.last l.address put.result c.bytes_of.result c.shown_at-shown.result =
    record { there = c.loop-address-test.true; same = shown.0; long = put.ensures.1; wide = bytes } in (
      omega (arith, shown.3, bytes),
      put.auto.buffer ∙ l.invariant.1,
      omega (arith, shown.1, shown.3, bytes, put.ensures.2, l.invariant.2),
      counts_more a.map.now a.image.now a.last l.at t l.invariant.3,
      l.invariant.4 ∙ writes_more a.map.now a.image.now a.last l.at l.buffer t put.ensures.0,
    )

pub returns : goal.returns
returns c = let l = c.loop-address in
    let a = c.args in (
      sym (l.invariant.4 ∙ writes_done a.map.now a.image.now a.last l.at l.buffer c.loop-address-test.false),
      counts_done a.map.now a.image.now a.last l.at c.loop-address-test.false l.invariant.3,
      omega (arith, l.invariant.2),
    )
