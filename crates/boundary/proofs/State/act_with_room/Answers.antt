-- `State::act_with_room` is steps 4 to 6, where there is room for a row. Assumes nothing.
use Rattle.std.proofs.Common.{sym, ap, ◌∙◌}
use Rattle.turns.specs.Turn.{more}
use Rattle.boundary.specs.World.{lending, world_of}
use Rattle.boundary.specs.declared.State.{State}
use Rattle.boundary.specs.declared.Watch.{Watch}
use Rattle.boundary.proofs.Cases.{act_accepts, act_waits, act_steps}
use Rattle.boundary.proofs.State.act_with_room.Goals as goal

pub returns-then-idles : goal.returns-then-idles
returns-then-idles c = let a = c.args in
    let watch : Watch = record { log = a.logs; since = a.since } in
    let none = sym c.pending.ensures ∙ c.in_default.is in
    let idle = sym c.idles.ensures ∙ c.if-idles.true in
    λ o.
    let l = lending a.image.now a.area.now o a.log.now in
    ap (λ (x : State). more (world_of x l)) c.wait.ensures ∙ sym (act_waits a.self l watch none idle)

pub returns-in-Some : goal.returns-in-Some
returns-in-Some c = let a = c.args in
    let watch : Watch = record { log = a.logs; since = a.since } in
    let due = sym c.pending.ensures ∙ c.in-Some.is in
    λ o. c.accept.ensures o ∙ sym (act_accepts a.self (lending a.image.now a.area.now o a.log.now) watch due)

pub returns : goal.returns
returns c = let a = c.args in
    let watch : Watch = record { log = a.logs; since = a.since } in
    let none = sym c.pending.ensures ∙ c.in_default.is in
    let busy = sym c.idles.ensures ∙ c.if-idles.false in
    λ o.
    let l = lending a.image.now a.area.now o a.log.now in
    c.step.ensures l ∙ sym (act_steps a.self l watch none busy)
