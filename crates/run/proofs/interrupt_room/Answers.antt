use Rattle.run.proofs.Rooms.{first_now, first_never, first_same}
use Rattle.run.proofs.Waiting.{later}
use mathlib.Core.Path.{◌∙◌}
use Rattle.run.proofs.interrupt_room.Goals as goal

pub returns-then-m : goal.returns-then-m
returns-then-m c = first_now _ _ (later 0 c.args.m ∙ rw c.if-m.true)

pub returns-then-m-2 : goal.returns-then-m-2
returns-then-m-2 c = first_never _ _ (λ j. later j c.args.m ∙ rw (c.if-m.false, c.if-m-2.true))

pub returns-then-m-t : goal.returns-then-m-t
returns-then-m-t c = let m = c.args.m in
    let quiet = c.if-m.false in
    let unmasked = c.if-m-2.false in
    first_now _ _ (later 0 m ∙ rw (quiet, unmasked, ← c.requests.ensures, c.if-m-t.true))

pub returns : goal.returns
returns c = let m = c.args.m in
    let quiet = c.if-m.false in
    let unmasked = c.if-m-2.false in
    first_same (λ j. later j m ∙ rw (quiet, unmasked, ← c.requests.ensures, c.if-m-t.false)) c.timer_room.ensures
