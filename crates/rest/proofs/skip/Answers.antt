-- `rest::skip` meets its contract: each turn is at the place after one record more. Assumes nothing.
use native.Mathlib.Omega.{arith}
use mathlib.Core.Path.{◌≡◌, refl, sym, ap, ◌∙◌}
use Rattle.session.specs.Session.{next_at}
use Rattle.rest.specs.Rest.{place_of}
use Rattle.rest.proofs.Places.{sound_start, sound_next, place_next, skip_fewer, skip_at}
use Rattle.rest.proofs.skip.Goals as goal

pub loop-init : goal.loop-init
unfolding place_of
loop-init c = (refl, sound_start _ c.requires)

pub returns-then-session-at : goal.returns-then-session-at
returns-then-session-at c =
    let a = c.args in
    let l = c.loop in
    skip_fewer a.session.now l.counter a.used.0 (rw l.invariant.0 c.if-session-at.true) c.loop-test.true

pub loop-preserved : goal.loop-preserved
loop-preserved c =
    let s = c.args.session.now in
    let l = c.loop in (
      place_next s l.counter ∙ ap (next_at s) l.invariant.0 ∙ sym c.next_at-at.ensures,
      rw c.next_at-at.ensures (sound_next s l.at c.if-session-at.false l.invariant.1),
    )

pub returns : goal.returns
returns c =
    let l = c.loop in
    let m = l.auto.counter-end in
    let i : l.counter ≡ c.args.used.0 = let t = c.loop-test.false in omega arith in
    skip_at _ _ l.at (ap (place_of _) (sym i) ∙ l.invariant.0) l.invariant.1.within
