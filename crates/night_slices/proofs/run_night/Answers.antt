-- `night_slices::run_night` meets its contract: the slices, one after another. Assumes nothing.
use Rattle.std.proofs.Common.{◌≡◌, ◌<◌, true, false, length, sym, ap, ◌∙◌, subst, arith}
use Rattle.boundary.specs.World.{lending}
use Rattle.night_slices.specs.declared.Night.{Night}
use Rattle.night_slices.specs.Slices.{Standing, standing, slice_of, slices_of, goes_on}
use Rattle.night_slices.proofs.Going.{slice_falls, slices_more, slices_done, night_refused, night_runs}
use Rattle.night_slices.proofs.run_night.Goals as goal

pub returns-then-spare-size : goal.returns-then-spare-size
returns-then-spare-size g c =
    let a = c.args in
    let given = lending a.image.now a.area.now a.output.now a.log.now in
    ap (λ (n : Night). standing n given a.session.now) c.start.ensures
    ∙ night_refused a.session.now a.size a.n a.watch a.m given (length a.spare.now) c.min-size.ensures c.if-spare-size.true

pub returns-then-not-goes_on : goal.returns-then-not-goes_on
returns-then-not-goes_on g c =
    let a = c.args in
    let l = c.loop-night in
    let s = c.slice-night in
    let began = standing l.night (lending l.image l.area l.output l.log) l.session in
    let goes : goes_on (slice_of began) ≡ false = sym (ap goes_on s.ensures.0) ∙ sym c.goes_on.ensures ∙ c.if-not-goes_on.true in
    let given = lending a.image.now a.area.now a.output.now a.log.now in
    s.ensures.0
    ∙ sym (slices_done began goes)
    ∙ sym l.invariant.0
    ∙ ap (λ (n : Night). slices_of (standing n given a.session.now)) c.start-night.ensures
    ∙ night_runs a.session.now a.size a.n a.watch a.m given (length a.spare.now) c.min-size.ensures c.if-spare-size.false

pub loop-night-smaller : goal.loop-night-smaller
loop-night-smaller g c =
    let a = c.args in
    let l = c.loop-night in
    let s = c.slice-night in
    let began = standing l.night (lending l.image l.area l.output l.log) l.session in
    let goes : goes_on (slice_of began) ≡ true = sym (ap goes_on s.ensures.0) ∙ sym c.goes_on.ensures ∙ c.if-not-goes_on.false in
    subst (λ (t : Standing). t.left < began.left) (sym s.ensures.0) (slice_falls began goes)

pub loop-night-preserved : goal.loop-night-preserved
loop-night-preserved g c =
    let a = c.args in
    let l = c.loop-night in
    let s = c.slice-night in
    let began = standing l.night (lending l.image l.area l.output l.log) l.session in
    let goes : goes_on (slice_of began) ≡ true = sym (ap goes_on s.ensures.0) ∙ sym c.goes_on.ensures ∙ c.if-not-goes_on.false in
    let i = l.invariant in
    let f = s.ensures.1 in (
      i.0 ∙ slices_more began goes ∙ sym (ap slices_of s.ensures.0),
      s.auto.image ∙ i.1,
      s.auto.area ∙ i.2,
      s.auto.session ∙ i.3,
      s.auto.output ∙ i.4,
      s.auto.log ∙ i.5,
      s.auto.spare ∙ i.6,
      (let x = s.auto.session in let z = i.7 in omega (arith, x, f, z)),
      (let x = s.auto.spare in let z = i.8 in omega (arith, x, f, z)),
      (let x = s.auto.output in let y = s.ensures.2 in omega (arith, x, y)),
      (let x = s.auto.log in let y = s.ensures.3 in omega (arith, x, y)),
    )
