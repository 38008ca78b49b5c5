-- `session::check` meets its contract: each turn of its loop is a turn of the definition's. Assumes nothing.
use Prim.Native.Nat.{ℕ, ◌+◌, ◌≤◌, ◌<◌}
use native.Mathlib.Omega.{arith}
use mathlib.Core.Path.{◌≡◌, sym, subst, ◌∙◌}
use mathlib.Core.List.{List}
use lib.ListN.{length}
use Rattle.std.specs.Prelude.{Ok, Err}
use Rattle.std.proofs.lemmas.Result.{err_from_is_err_and}
use Rattle.session.specs.Session.{time_at, next_at, fault_at, check_from, check_of}
use Rattle.session.specs.declared.Fault.{Fault}
use Rattle.session.proofs.Laws.{Refusal, next_within, fault_told, check_past, check_stops, check_ends}
use Rattle.session.proofs.check.Goals as goal
use Rattle.session.proofs.check.Goals.{After-next_at-at}

-- what a turn past a record without fault comes to
abbrev Passed : List ℕ → ℕ → ℕ → ℕ → ℕ → Type 0
Passed s number at time next = (at < next) × (number + 1 ≤ next) × (next ≤ length s) × (check_of s ≡ check_from s (number + 1) time next)

pass : (s : List ℕ) (number before at time next : ℕ) → at < length s → number ≤ at → check_of s ≡ check_from s number before at
    → fault_at s number before at ≡ Ok tt → time ≡ time_at s at → next ≡ next_at s at → Passed s number at time next
pass s number before at time next h l e f t n =
    let w = next_within s at h (fault_told s number before at (Ok tt) f).0 in
    (omega arith, omega arith, omega arith, rw (t, n) (e ∙ check_past s number before at h f))

passed : (c : After-next_at-at) → let l = c.loop-at in
    let s = c.args.session.now in
    Passed s l.number l.at c.time_at-before.result c.next_at-at.result
passed c =
    let l = c.loop-at in
    let f = sym c.fault_at.ensures ∙ c.in_ok-fault_at.was in
    let s = c.args.session.now in
    pass s l.number l.before l.at _ _ c.loop-at-test.true l.invariant.0 l.invariant.2
    f c.time_at-before.ensures c.next_at-at.ensures

pub loop-at-smaller : goal.loop-at-smaller
loop-at-smaller c = let p = passed (goal.at.loop-at-smaller c).After-next_at-at in omega arith

pub loop-at-preserved : goal.loop-at-preserved
loop-at-preserved c = let p = passed (goal.at.loop-at-preserved c).After-next_at-at in (p.1, p.2, p.3)

-- a record's fault is the whole session's
stops : (s : List ℕ) (number before at : ℕ) (f : Fault) → at < length s → check_of s ≡ check_from s number before at
    → fault_at s number before at ≡ Err f → Err f ≡ check_of s
stops s number before at f h e g = sym (e ∙ check_stops s number before at h (subst Refusal (sym g) tt) ∙ g)

pub returns-in_err-fault_at : goal.returns-in_err-fault_at
returns-in_err-fault_at c =
    let l = c.loop-at in
    let p = err_from_is_err_and c.from_residual.result c.from_residual.ensures.1 in
    rw (p.1, p.2) (stops _ l.number l.before l.at _ c.loop-at-test.true l.invariant.2 (sym c.fault_at.ensures ∙ c.in_err-fault_at.was))

pub returns : goal.returns
returns c = sym (c.loop-at.invariant.2 ∙ check_ends _ _ _ _ c.loop-at-test.false)
