-- A run, and a run with a limit no lower: the second passes where the limit stopped the first, and ends as the first did where anything else
-- stopped it. Assumes nothing.
use Prim.Native.Nat.{ℕ, ◌≤◌}
use native.Mathlib.Omega.{arith}
use mathlib.Core.List.{List}
use mathlib.Core.Path.{◌≡◌, refl, sym, subst, ◌∙◌}
use mathlib.Core.Bool.{Bool, true, false}
use lib.Dec.{leb}
use lib.ListN.{length}
use borrow.Author.Tests.{leb-true, leb-false}
use Rattle.turns.specs.Turn.{Turn, more, done, Then}
use Rattle.laws.proofs.Apart.{apart}
use Rattle.laws.proofs.Conds.{cases}
use Rattle.boundary.specs.declared.Stop.TheVariants.{Limit, Undefined, Full, LogFull}
use Rattle.boundary.specs.declared.Watch.{Watch}
use Rattle.boundary.specs.World.{World, Ended, Terms, watching}
use Rattle.boundary.specs.Boundary.{fed_world, sends_of, sent_world, act_of, send_of, boundary_of, run_of}
use Rattle.boundary.proofs.Cases.{at_limit, below_limit}
use Rattle.boundary.proofs.Runs.{act_cases, run_more, run_done, run_keeps}

-- steps 3 to 6 do not stop a run for its limit
abbrev Other : Ended → Type 0
Other e = e.stop ≡ Limit → ⊥

not_undefined : Undefined ≡ Limit → ⊥
not_undefined e = apart cc

not_full : Full ≡ Limit → ⊥
not_full e = apart cc

pub not_log_full : LogFull ≡ Limit → ⊥
not_log_full e = apart cc

abbrev OtherThen : Turn World Ended → Type 0
OtherThen = Then (λ (v : World). Unit {0}) Other

module _ (watch : Watch) where
  act_other : (w : World) → OtherThen (act_of watch w)
  act_other w = act_cases OtherThen watch w (λ cause e f. not_log_full) (λ cause e f. tt) (λ e f. tt) not_undefined (λ i f e. tt)

  send_other : (w : World) → OtherThen (send_of watch w)
  unfolding send_of
  send_other w =
      cases OtherThen (sends_of w.state)
      (λ _. cases OtherThen (leb (length w.lent.output) w.state.sent.0) (λ _. not_full) (λ _. act_other (sent_world w)))
      (λ _. act_other w)

module _ (session : List ℕ) (watch : Watch) (n₁ n : ℕ) (l : n₁ ≤ n) (w₀ : World) where
  abbrev one : Terms
  one = watching session n₁ watch

  abbrev other : Terms
  other = watching session n watch

  abbrev Passes : World → Type 0
  Passes w = run_of other w₀ ≡ run_of other w

  abbrev Stops : Ended → Type 0
  Stops e = (e.stop ≡ Limit → Passes e.world) × (Other e → run_of other w₀ ≡ e)

  turn_passes : (w : World) → Passes w → Then Passes Stops (boundary_of one w)
  turn_passes w p = by (leb n₁ w.state.cycles.0) refl
    where
      here : World
      here = fed_world session w

      on : (t : Turn World Ended) → send_of watch here ≡ t → boundary_of other w ≡ send_of watch here → OtherThen t → Then Passes Stops t
      on (more v) e f o = p ∙ run_more other w (f ∙ e)
      on (done x) e f o = ((λ q. absurd (o q)), (λ _. p ∙ run_done other w (f ∙ e)))

      by : (b : Bool) → leb n₁ w.state.cycles.0 ≡ b → Then Passes Stops (boundary_of one w)
      by true e = subst (Then Passes Stops) (sym (at_limit w.state w.lent one (leb-true _ _ e))) ((λ _. p), (λ o. absurd (o refl)))
      by false e =
          let h = leb-false n₁ w.state.cycles.0 e in
          subst (Then Passes Stops) (sym (below_limit w.state w.lent one h))
          (on (send_of watch here) refl (below_limit w.state w.lent other (omega arith)) (send_other watch here))

  run_stops : Stops (run_of one w₀)
  run_stops = run_keeps one Passes Stops turn_passes w₀ refl

  pub run_further : (run_of one w₀).stop ≡ Limit → run_of other w₀ ≡ run_of other (run_of one w₀).world
  run_further = run_stops.0

  pub run_same : ((run_of one w₀).stop ≡ Limit → ⊥) → run_of other w₀ ≡ run_of one w₀
  run_same = run_stops.1
