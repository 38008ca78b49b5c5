use Rattle.std.proofs.Common.{sym, ap, ◌∙◌}
use Rattle.boundary.specs.World.{lending, terms_of, world_of}
use Rattle.boundary.specs.Boundary.{send_of}
use Rattle.boundary.specs.declared.State.{State}
use Rattle.boundary.proofs.Cases.{at_limit, below_limit, records_ready}
use Rattle.boundary.proofs.State.boundary.Goals as goal

pub returns-then-terms-self : goal.returns-then-terms-self
returns-then-terms-self c = let a = c.args in
    sym
    (at_limit a.self (lending a.image.now a.area.now a.output.now a.log.now) (terms_of a.terms)
    c.if-terms-self.true)

pub send-requires : goal.send-requires
send-requires c = let p = c.requires in
    records_ready _ _ c.apply_records.ensures p.0 c.if-terms-self.false p.1

pub returns : goal.returns
returns c = let a = c.args in
    let l = lending a.image.now a.area.now a.output.now a.log.now in
    c.send.ensures
    ∙ ap (λ (x : State). send_of a.terms.watch (world_of x l)) c.apply_records.ensures
    ∙ sym (below_limit a.self l (terms_of a.terms) c.if-terms-self.false)
