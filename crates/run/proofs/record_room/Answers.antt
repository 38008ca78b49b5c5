use Rattle.laws.proofs.Orders.{leb_shifted}
use Rattle.run.proofs.Rooms.{first_never, first_same}
use Rattle.run.proofs.Waiting.{no_record, a_record}
use mathlib.Core.Path.{◌∙◌}
use Rattle.run.proofs.record_room.Goals as goal

pub returns-then-session-at : goal.returns-then-session-at
returns-then-session-at c = let a = c.args in first_never _ _ (no_record a.session.now a.count.0 a.at c.if-session-at.true)

pub returns : goal.returns
returns c = let a = c.args in
    first_same
    (λ j. a_record a.session.now a.count.0 a.at c.if-session-at.false j
    ∙ rw (c.saturating_sub.ensures, ← c.time_at-time.ensures) (leb_shifted _ a.count.0 j))
    c.least.ensures
