use Rattle.std.proofs.Common.{sym, ap, ◌∙◌, arith}
use Rattle.session.proofs.Laws.{next_after, due_there}
use Rattle.boundary.specs.Boundary.{record_taken, records_of}
use Rattle.boundary.specs.declared.State.{State}
use Rattle.boundary.proofs.Feeding.{records_more, records_done}
use Rattle.boundary.proofs.State.apply_records.Goals as goal

pub take-s-requires : goal.take-s-requires
take-s-requires c = ((due_there _ _ _ (sym c.is_due.ensures ∙ c.loop-s-test.true)).0, c.loop-s.invariant.0)

pub loop-s-smaller : goal.loop-s-smaller
unfolding record_taken
loop-s-smaller c =
    let h = ap (λ (z : State). z.place) c.take-s.ensures in
    let d = (due_there _ _ _ (sym c.is_due.ensures ∙ c.loop-s-test.true)).0 in
    let n = next_after c.args.session.now c.loop-s.s.place in
    omega arith

pub loop-s-preserved : goal.loop-s-preserved
unfolding record_taken
loop-s-preserved c = (
  let h = ap (λ (z : State). z.place) c.take-s.ensures in
      let g = ap (λ (z : State). z.used.0) c.take-s.ensures in
      let n = next_after c.args.session.now c.loop-s.s.place in
      omega (arith, c.loop-s.invariant.0),
  c.loop-s.invariant.1 ∙ records_more _ _ _ (sym c.is_due.ensures ∙ c.loop-s-test.true) ∙ ap (records_of _ _) (sym c.take-s.ensures),
)

pub returns : goal.returns
returns c = sym (c.loop-s.invariant.1 ∙ records_done _ _ _ (sym c.is_due.ensures ∙ c.loop-s-test.false))
