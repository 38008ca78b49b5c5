-- Two runs of one session and limit from one world, that differ in whether the log is asked for or in the log lent: where the second has room
-- for the first's rows, it goes as the first does, with the rows of the first in its own log. Assumes nothing.
use Rattle.std.specs.Prelude.{Option, None, Some}
use Prim.Native.Nat.{ℕ, ◌*◌, ◌≤◌}
use native.Mathlib.Omega.{arith}
use mathlib.Core.Path.{◌≡◌, refl, sym, ap, subst, ◌∙◌}
use mathlib.Core.Bool.{Bool, true}
use mathlib.Core.List.{List, [], ◌++◌, append_assoc, append-nil}
use lib.ListN.{length}
use Rattle.turns.specs.Turn.{Turn, more, done, Then}
use Rattle.turns.proofs.Recorded.{rows_more, rows_done, rows_keep}
use Rattle.laws.proofs.Apart.{apart}
use Rattle.machine.specs.declared.Cause.{Cause}
use Rattle.machine.specs.Interrupts.{pending_of}
use Rattle.wake_log.specs.declared.Row.{Row}
use Rattle.boundary.specs.declared.State.{State}
use Rattle.boundary.specs.declared.Stop.{Stop}
use Rattle.boundary.specs.declared.Stop.TheVariants.{Limit, Undefined, Full, LogFull}
use Rattle.boundary.specs.World.{Terms, World, Ended, ended_of}
use Rattle.boundary.specs.Boundary.{boundary_of, cycles_left, run_of}
use Rattle.boundary.proofs.Runs.{run_falls, run_more, run_done}
use Rattle.boundary.proofs.Kept.{counts_grow}
use Rattle.boundary_theorems.specs.Trace.{ready_state, if_going}
use Rattle.log_theorems.specs.Wakes.{row_by, wake_of, wakes_at, wakes_of, logged_rows, logging, relogged, ended_with}
use Rattle.log_theorems.proofs.Ready.{Ready, ready_again}
use Rattle.log_theorems.proofs.Boundaries.{Written, Stops, Goes, turn_goes, logged_none, start_written}

-- the rows of a run: those of a boundary, and then of the run
pub wakes_more : (t : Terms) (v : World) {u : World} → boundary_of t v ≡ more u → wakes_of t v ≡ wakes_at t v ++ wakes_of t u
unfolding wakes_of
wakes_more t v e = rows_more (boundary_of t) (λ (x : World). ended_of Limit x) (cycles_left t) (run_falls t) (wakes_at t) e

pub wakes_done : (t : Terms) (v : World) {e : Ended} → boundary_of t v ≡ done e → wakes_of t v ≡ []
unfolding wakes_of wakes_at
wakes_done t v e =
    rows_done (boundary_of t) (λ (x : World). ended_of Limit x) (cycles_left t) (run_falls t) (wakes_at t) e
    ∙ ap (λ (x : Turn World Ended). if_going x (wake_of t.watch (ready_state t.session v))) e

-- two worlds from which the boundary is the same, and so is its row
same_on : (t : Terms) (v u : World) → boundary_of t v ≡ boundary_of t u → wakes_at t v ≡ wakes_at t u
    → (run_of t v ≡ run_of t u) × (wakes_of t v ≡ wakes_of t u)
same_on t v u e d = by (boundary_of t u) refl
  where
    by : (x : Turn World Ended) → boundary_of t u ≡ x → (run_of t v ≡ run_of t u) × (wakes_of t v ≡ wakes_of t u)
    by (more z) f = (
      run_more t v (e ∙ f) ∙ sym (run_more t u f),
      wakes_more t v (e ∙ f) ∙ ap (λ (l : List Row). l ++ wakes_of t z) d ∙ sym (wakes_more t u f),
    )
    by (done z) f = (run_done t v (e ∙ f) ∙ sym (run_done t u f), wakes_done t v (e ∙ f) ∙ sym (wakes_done t u f))

-- The second run, with this log, beside the first.
module _ (t : Terms) (b₁ b₂ : Bool) (w : World) (l₂ : List ℕ) where
  abbrev first : Terms
  first = logging b₁ t

  abbrev second : Terms
  second = logging b₂ t

  -- its log where the first has these rows
  abbrev log_then : List Row → List ℕ
  log_then rows = logged_rows b₂ w.state.entries.0 rows l₂

  -- it passes a world of the first run, with these rows before; it ends as the first does
  abbrev pub Passes : List Row → World → Type 0
  Passes rows v =
      (run_of second (relogged l₂ w) ≡ run_of second (relogged (log_then rows) v))
      × (wakes_of second (relogged l₂ w) ≡ rows ++ wakes_of second (relogged (log_then rows) v))

  abbrev pub Ends : List Row → Ended → Type 0
  Ends rows e = (run_of second (relogged l₂ w) ≡ ended_with (log_then rows) e) × (wakes_of second (relogged l₂ w) ≡ rows)

  pub record Follows (rows : List Row) (e : Ended) : Type 0 where
    pub written : Written b₁ w.state.entries.0 w.lent.log rows e.world
    pub ended : (e.stop ≡ LogFull → ⊥) → Ends rows e
    pub passed : e.stop ≡ LogFull → Passes rows e.world × Ready t.session t.limit e.world.state

  module _ (fits : b₂ ≡ true → 8 * (run_of first w).world.state.entries.0 ≤ length l₂) where
    record So (rows : List Row) (v : World) : Type 0 where
      written : Written b₁ w.state.entries.0 w.lent.log rows v
      here : run_of first w ≡ run_of first v
      passes : Passes rows v

    turn_follows : (rows : List Row) (v : World) → So rows v → let all = rows ++ wakes_at first v in Then (So all) (Follows all) (boundary_of first v)
    unfolding wakes_at
    turn_follows rows v h =
        by (boundary_of first v) refl (turn_goes t b₁ b₂ w.state.entries.0 w.lent.log l₂ rows v h.written)
      where
        s : State
        s = ready_state t.session v

        v₂ : World
        v₂ = relogged (log_then rows) v

        same_row : (p : Option Cause) → row_by second.watch p s ≡ row_by first.watch p s
        same_row (Some cause) = refl
        same_row None = refl

        goes : (u : World) → boundary_of first v ≡ more u → boundary_of second v₂ ≡ more (relogged (log_then (rows ++ wake_of first.watch s)) u)
            → Written b₁ w.state.entries.0 w.lent.log (rows ++ wake_of first.watch s) u → So (rows ++ wake_of first.watch s) u
        goes u e y g =
            let wake = wake_of first.watch s in
            let u₂ = relogged (log_then (rows ++ wake)) u in
            let d : wakes_at second v₂ ≡ wake =
            ap (λ (x : Turn World Ended). if_going x (wake_of second.watch s)) y ∙ same_row (pending_of s.machine) in
            record {
              written = g;
              here = h.here ∙ run_more first v e;
              passes = (
                h.passes.0 ∙ run_more second v₂ y,
                h.passes.1
                    ∙ ap (λ (l : List Row). rows ++ l) (wakes_more second v₂ y ∙ ap (λ (l : List Row). l ++ wakes_of second u₂) d)
                    ∙ sym (append_assoc rows wake (wakes_of second u₂)),
              );
            }

        ends : (k : Stop) (v₃ : World) → boundary_of second v₂ ≡ done (ended_of k (relogged (log_then rows) v₃)) → Ends rows (ended_of k v₃)
        ends k v₃ y = (
          h.passes.0 ∙ run_done second v₂ y,
          h.passes.1 ∙ ap (λ (l : List Row). rows ++ l) (wakes_done second v₂ y) ∙ append-nil rows,
        )

        stops : (k : Stop) (v₃ : World) → Stops t b₁ b₂ w.state.entries.0 w.lent.log l₂ rows s k v₃ (boundary_of second v₂)
            → ((k ≡ LogFull → ⊥) → Ends rows (ended_of k v₃)) × (k ≡ LogFull → Passes rows v₃ × Ready t.session t.limit v₃.state)
        stops Limit v₃ y = (λ _. ends Limit v₃ y, λ q. apart cc)
        stops Undefined v₃ y = (λ _. ends Undefined v₃ y, λ q. apart cc)
        stops Full v₃ y = (λ _. ends Full v₃ y, λ q. apart cc)
        stops LogFull v₃ y =
            let u₂ = relogged (log_then rows) v₃ in
            let d : wakes_at second v₂ ≡ wakes_at second u₂ =
            ap (λ (x : Turn World Ended). if_going x (wake_of second.watch s)) y.0
            ∙ ap (λ (x : State). if_going (boundary_of second u₂) (wake_of second.watch x)) (sym (ready_again second u₂ y.1 ∙ y.2)) in
            let o = same_on second v₂ u₂ y.0 d in
            (λ n. absurd (n refl), λ _. ((h.passes.0 ∙ o.0, h.passes.1 ∙ ap (λ (l : List Row). rows ++ l) o.1), y.1))

        by : (x : Turn World Ended) → boundary_of first v ≡ x
            → Goes t b₁ b₂ w.state.entries.0 w.lent.log l₂ rows (wake_of first.watch s) s x (boundary_of second v₂)
            → let all = rows ++ if_going x (wake_of first.watch s) in Then (So all) (Follows all) x
        by (more u) e g =
            let grow = (counts_grow first u).entries in
            let here = ap (λ (z : Ended). z.world.state.entries.0) (h.here ∙ run_more first v e) in
            let y = g (λ a. let z = fits a in omega (arith, z, here, grow)) in
            goes u e y.1 y.0
        by (done z) e g =
            let a = stops z.stop z.world g.1 in
            subst (λ (r : List Row). Follows r z) (sym (append-nil rows)) (record { written = g.0; ended = a.0; passed = a.1 })

    pub follows : (b₁ ≡ true → 8 * w.state.entries.0 ≤ length w.lent.log) → Follows (wakes_of first w) (run_of first w)
    unfolding wakes_of run_of
    follows room =
        rows_keep (boundary_of first) _ _ (run_falls first) (wakes_at first) So Follows turn_follows [] w
        (record {
          written = start_written b₁ w room;
          here = refl;
          passes =
              let e = sym (logged_none b₂ w.state.entries.0 l₂) in
              (ap (λ (l : List ℕ). run_of second (relogged l w)) e, ap (λ (l : List ℕ). wakes_of second (relogged l w)) e);
        })
