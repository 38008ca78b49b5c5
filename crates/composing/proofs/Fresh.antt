-- A run, and the same run with a fresh log behind the first's rows: the second ends as the first did where anything but 11 stopped it, and
-- passes where 11 stopped it. A run with a limit no lower passes where 0 or 11 stopped the first. Assumes nothing.
use Prim.Native.Nat.{ℕ, ◌*◌, ◌≤◌}
use native.Mathlib.Omega.{arith}
use mathlib.Core.List.{List, ◌++◌}
use mathlib.Core.Path.{◌≡◌, refl, sym, ap, subst, ◌∙◌}
use mathlib.Core.Bool.{Bool, true, false, cond}
use lib.ListN.{length, take, drop, length-append}
use lib.Seq.{length-take-le, take_at, drop_at}
use Rattle.machine.specs.declared.Machine.{Machine}
use Rattle.wake_log.specs.declared.Row.{Row}
use Rattle.boundary.specs.declared.Stop.{Stop}
use Rattle.boundary.specs.declared.Stop.TheVariants.{Limit, Undefined, Full, LogFull}
use Rattle.boundary.specs.declared.Watch.{Watch}
use Rattle.boundary.specs.World.{Lent, with_log, Terms, watching, logged_bytes, World, Ended, ended_of}
use Rattle.boundary.specs.Boundary.{run_of}
use Rattle.boundary.specs.Start.{start_world, ran_of}
use Rattle.log_theorems.specs.Wakes.{rows_bytes, logged_rows, relogged, ended_with, wakes_of}
use Rattle.log_theorems.proofs.Bytes.{rows_long}
use Rattle.log_theorems.proofs.Beside.{Follows, follows}
use Rattle.log_theorems.proofs.Log.{rows_entries, log_left, log_room}
use Rattle.cabinet_theorems.proofs.Left.{log_part}
use Rattle.composing.proofs.Further.{not_log_full, run_further, run_same}

-- rows in a log, and in another log that is fresh behind them
fresh_rows : (asked : Bool) (rows : List Row) (log fresh : List ℕ) (n : ℕ) → 8 * n ≡ length (rows_bytes rows) → (asked ≡ true → 8 * n ≤ length log)
    → logged_rows asked 0 rows (take (cond asked (8 * n) 0) log ++ fresh) ≡ take (cond asked (8 * n) 0) (logged_rows asked 0 rows log) ++ fresh
fresh_rows true rows log fresh n e h =
    rw (
      ← e,
      drop_at (take (8 * n) log) fresh (8 * n) (length-take-le (8 * n) log (h refl)),
      take_at (rows_bytes rows) (drop (8 * n) log) (8 * n) (sym e),
    )
fresh_rows false rows log fresh n e h = refl

module _ (t : Terms) (m : Machine) (given : Lent) where
  abbrev end : Ended
  end = ran_of t m given

  abbrev asked : Bool
  asked = t.watch.log

  abbrev rows : List Row
  rows = wakes_of t (start_world m given)

  -- how many bytes of the log are filled
  abbrev logged : ℕ
  logged = logged_bytes t.watch end.world.state.entries.0

  module _ (fresh : List ℕ) where
    -- the log in whose room the first run goes as it did, and that log where the first run ended
    abbrev pub fresh_log : List ℕ
    fresh_log = take logged given.log ++ fresh

    abbrev pub fresh_world : World
    fresh_world = relogged (take logged end.world.lent.log ++ fresh) end.world

    fresh_room : asked ≡ true → 8 * end.world.state.entries.0 ≤ length fresh_log
    fresh_room a =
        let e = ap (λ (b : Bool). cond b (8 * end.world.state.entries.0) 0) a in
        let l = length-append (take logged given.log) fresh in
        let h = length-take-le logged given.log (log_part t m given).0 in
        omega (arith, e, l, h)

    goes : Follows t asked asked (start_world m given) fresh_log rows end
    goes = follows t asked asked (start_world m given) fresh_log fresh_room (λ _. omega arith)

    fresh_log_lem : logged_rows asked 0 rows fresh_log ≡ take logged end.world.lent.log ++ fresh
    fresh_log_lem =
        let e = rows_entries t m given in
        let r = rows_long rows in
        fresh_rows asked rows given.log fresh end.world.state.entries.0 (omega (arith, e, r)) (log_room t m given)
        ∙ ap (λ (log : List ℕ). take logged log ++ fresh) (sym (log_left t m given))

    ends_fresh : (end.stop ≡ LogFull → ⊥) → ran_of t m (with_log given fresh_log) ≡ ended_of end.stop fresh_world
    ends_fresh n = (goes.ended n).0 ∙ ap (λ (log : List ℕ). ended_with log end) fresh_log_lem

    passes_fresh : end.stop ≡ LogFull → ran_of t m (with_log given fresh_log) ≡ run_of t fresh_world
    passes_fresh e = (goes.passed e).0.0 ∙ ap (λ (log : List ℕ). run_of t (relogged log end.world)) fresh_log_lem

-- 0 and 11
abbrev pub Resumes : Stop → Type 0
Resumes Limit = Unit
Resumes Undefined = ⊥
Resumes Full = ⊥
Resumes LogFull = Unit

module _ (session : List ℕ) (watch : Watch) (n₁ n : ℕ) (l : n₁ ≤ n) (m : Machine) (given : Lent) (fresh : List ℕ) where
  abbrev one : Terms
  one = watching session n₁ watch

  abbrev other : Terms
  other = watching session n watch

  pub run_resumes : Resumes (ran_of one m given).stop → ran_of other m (with_log given (fresh_log one m given fresh)) ≡ run_of other (fresh_world one m given fresh)
  run_resumes = by (ran_of one m given).stop refl
    where
      Goes : Ended → Type 0
      Goes e =
          let k = logged_bytes watch e.world.state.entries.0 in
          ran_of other m (with_log given (take k given.log ++ fresh)) ≡ run_of other (relogged (take k e.world.lent.log ++ fresh) e.world)

      by : (k : Stop) → (ran_of one m given).stop ≡ k → Resumes k → Goes (ran_of one m given)
      by Limit e r =
          let f = ends_fresh one m given fresh (λ q. not_log_full (sym q ∙ e)) in
          run_further session watch n₁ n l (start_world m (with_log given (fresh_log one m given fresh))) (ap (λ (z : Ended). z.stop) f ∙ e)
          ∙ ap (λ (z : Ended). run_of other z.world) f
      by Undefined e r = absurd r
      by Full e r = absurd r
      by LogFull e r =
          let same = run_same session watch n₁ n l (start_world m given) (λ q. not_log_full (sym e ∙ q)) in
          subst Goes same (passes_fresh other m given fresh (ap (λ (z : Ended). z.stop) same ∙ e))
