-- `admit` makes the tests in their order. Assumes nothing.
use mathlib.Core.Option.{some}
use mathlib.Core.Path.{◌≡◌, sym, ap, ◌∙◌}
use Rattle.std.proofs.lemmas.Result.{err_from_is_err_and}
use Rattle.replies.specs.Replies.{told_check}
use Rattle.bus.specs.Access.{memories}
use Rattle.boundary.specs.World.{Lent, with_memories, terms_of}
use Rattle.cabinet.specs.Answers.{refusal_of}
use Rattle.cabinet.proofs.Ends.{refuses_1, refuses_12, refuses_2, refuses_3, session_decides}
use Rattle.cabinet.proofs.admit.Goals as goal
use Rattle.cabinet.proofs.admit.Goals.{After-check}

pub returns-then-image-ne65536 : goal.returns-then-image-ne65536
returns-then-image-ne65536 c = λ l. let a = c.args in
    sym (refuses_1 (terms_of a.terms) a.m (with_memories l (memories a.image.now a.area.now)) c.if-image-ne65536.true)

pub returns-then-area-ne128 : goal.returns-then-area-ne128
returns-then-area-ne128 c = λ l. let a = c.args in
    sym (refuses_12 (terms_of a.terms) a.m (with_memories l (memories a.image.now a.area.now)) c.if-image-ne65536.false c.if-area-ne128.true)

pub returns-then-not-in_ranges : goal.returns-then-not-in_ranges
returns-then-not-in_ranges c = λ l. let a = c.args in
    sym
    (refuses_2 (terms_of a.terms) a.m (with_memories l (memories a.image.now a.area.now)) (c.if-image-ne65536.false, c.if-area-ne128.false)
    (sym c.in_ranges.ensures ∙ c.if-not-in_ranges.true))

pub returns-then-terms-gt1000000000 : goal.returns-then-terms-gt1000000000
returns-then-terms-gt1000000000 c = λ l. let a = c.args in
    sym
    (refuses_3 (terms_of a.terms) a.m (with_memories l (memories a.image.now a.area.now)) (c.if-image-ne65536.false, c.if-area-ne128.false)
    (sym c.in_ranges.ensures ∙ c.if-not-in_ranges.false) c.if-terms-gt1000000000.true)

-- past the four tests the session decides
decided : (c : After-check) → let a = c.args in
    (l : Lent) → told_check c.check.result ≡ refusal_of (terms_of a.terms) a.m (with_memories l (memories a.image.now a.area.now))
decided c = let a = c.args in
    λ l.
    ap told_check c.check.ensures
    ∙ sym
    (session_decides (terms_of a.terms) a.m (with_memories l (memories a.image.now a.area.now)) (c.if-image-ne65536.false, c.if-area-ne128.false)
    (sym c.in_ranges.ensures ∙ c.if-not-in_ranges.false) c.if-terms-gt1000000000.false)

pub returns-in_err-check : goal.returns-in_err-check
returns-in_err-check c = λ l.
    let p = err_from_is_err_and c.from_residual.result c.from_residual.ensures.1 in
    rw p.1 (ap some p.2 ∙ ap told_check (sym c.in_err-check.was) ∙ decided (goal.at.returns-in_err-check c).After-check l)

pub returns : goal.returns
returns c = λ l. ap told_check (sym c.in_ok-check.was) ∙ decided (goal.at.returns c).After-check l
