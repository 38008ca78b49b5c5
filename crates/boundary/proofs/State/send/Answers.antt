-- `State::send` is steps 3 to 6: 9, or the byte; then the rest. Assumes nothing.
use Rattle.std.proofs.Common.{Bool, sym, ap, ◌∙◌}
use Rattle.counts.specs.declared.Cycles.{Cycles}
use Rattle.boundary.specs.World.{lending, world_of}
use Rattle.boundary.specs.Boundary.{sent_output, act_of}
use Rattle.boundary.specs.declared.State.{State}
use Rattle.boundary.specs.declared.Watch.{Watch}
use Rattle.boundary.proofs.Cases.{send_full, send_byte, send_rests, sent_ready}
use Rattle.boundary.proofs.State.send.Goals as goal

abbrev watch_by : Bool → Cycles → Watch
watch_by logs since = record { log = logs; since = since }

pub returns-then-output-at : goal.returns-then-output-at
returns-then-output-at c = let a = c.args in
    let sends = sym c.wants_to_send.ensures ∙ c.if-wants_to_send.true in
    sym (send_full a.self (lending a.image.now a.area.now a.output.now a.log.now) (watch_by a.logs a.since) sends c.if-output-at.true)

pub act-requires : goal.act-requires
act-requires c = sent_ready c.after_sending-sent.ensures c.requires

pub returns-then-wants_to_send : goal.returns-then-wants_to_send
returns-then-wants_to_send c = let a = c.args in
    let o = sent_output a.self a.output.now in
    let watch = watch_by a.logs a.since in
    let sends = sym c.wants_to_send.ensures ∙ c.if-wants_to_send.true in
    c.act.ensures o
    ∙ ap (λ (x : State). act_of watch (world_of x (lending a.image.now a.area.now o a.log.now))) c.after_sending-sent.ensures
    ∙ sym (send_byte a.self (lending a.image.now a.area.now a.output.now a.log.now) watch sends c.if-output-at.false)

pub returns : goal.returns
returns c = let a = c.args in
    let rests = sym c.wants_to_send.ensures ∙ c.if-wants_to_send.false in
    c.act-2.ensures a.output.now
    ∙ sym (send_rests a.self (lending a.image.now a.area.now a.output.now a.log.now) (watch_by a.logs a.since) rests)
