-- Watching only adds its own stop: a run with the log is the run without it until a row lacks room, and 11 leaves the boundary before the entry.
-- Assumes nothing.
use Rattle.std.specs.Prelude.{Some}
use Prim.Native.Nat.{ℕ, ◌+◌, ◌*◌, ◌/◌, ◌≤◌, ◌<◌}
use native.Mathlib.Omega.{arith}
use mathlib.Core.Path.{◌≡◌, refl, sym, ap, ◌∙◌}
use mathlib.Core.Bool.{Bool, true, false, false≢true}
use mathlib.Core.Logic.{◌↔◌, ◌⊎◌, inl, inr, ⊎_elim}
use mathlib.Core.List.{List, [], ◌++◌, append-nil}
use lib.ListN.{length, take}
use lib.Seq.{take_all, take_at}
use borrow.Author.Tests.{leb-false, not-true}
use Rattle.turns.specs.Turn.{Turn, Then}
use Rattle.laws.proofs.Apart.{apart}
use Rattle.numbers.specs.Numbers.{over}
use Rattle.machine.specs.declared.Cause.{Cause}
use Rattle.machine.specs.declared.Machine.{Machine}
use Rattle.machine.specs.Interrupts.{pending_of}
use Rattle.wake_log.specs.declared.Row.{Row}
use Rattle.boundary.specs.declared.Stop.{Stop}
use Rattle.boundary.specs.declared.Stop.TheVariants.{Limit, Undefined, Full, LogFull}
use Rattle.boundary.specs.World.{Lent, with_log, Terms, World, Ended}
use Rattle.boundary.specs.Boundary.{lacks_row, logged_world, entered_world, act_of, run_of}
use Rattle.boundary.specs.Start.{start_world, ran_of}
use Rattle.boundary.proofs.Runs.{act_cases, boundary_cases, run_more, run_keeps}
use Rattle.boundary.proofs.Kept.{counts_grow}
use Rattle.log_theorems.specs.Wakes.{wakes_of, rows_bytes, logging, relogged, ended_with}
use Rattle.log_theorems.proofs.Bytes.{first_rows}
use Rattle.log_theorems.proofs.Ready.{Ready, entry_again}
use Rattle.log_theorems.proofs.Beside.{Follows, follows}
use Rattle.log_theorems.proofs.Log.{rows_entries, log_left, log_room, log_length, log_filled}

-- Where a run stops with 11: an interrupt is to be accepted, and there is no room for its row.
record Lacking (t : Terms) (v : World) : Type 0 where
  cause : Cause
  pending : pending_of v.state.machine ≡ Some cause
  lacks : lacks_row t.watch v.state v.lent.log ≡ true

not_limit : Limit ≡ LogFull → ⊥
not_limit e = apart cc

not_undefined : Undefined ≡ LogFull → ⊥
not_undefined e = apart cc

not_full : Full ≡ LogFull → ⊥
not_full e = apart cc

full? : (k : Stop) → (k ≡ LogFull) ⊎ (k ≡ LogFull → ⊥)
full? Limit = inr not_limit
full? Undefined = inr not_undefined
full? Full = inr not_full
full? LogFull = inl refl

stop_lacks : (t : Terms) (w : World) → (run_of t w).stop ≡ LogFull → Lacking t (run_of t w).world
stop_lacks t w =
    run_keeps t (λ v. Unit {0}) Shows (λ v _. boundary_cases ShowsThen t v (λ _ e. absurd (not_limit e)) (λ _ e. absurd (not_full e)) (λ _ _. act _) (λ _. act _))
    w tt
  where
    Shows : Ended → Type 0
    Shows e = e.stop ≡ LogFull → Lacking t e.world

    ShowsThen : Turn World Ended → Type 0
    ShowsThen = Then (λ v. Unit {0}) Shows

    act : (v : World) → ShowsThen (act_of t.watch v)
    act v =
        act_cases ShowsThen t.watch v
        (λ cause e f _. record { cause = cause; pending = e; lacks = f })
        (λ cause e f. tt) (λ e f. tt) (λ e. absurd (not_undefined e)) (λ i f e. tt)

-- a run that is not asked for the log never stops with 11
pub unlogged_stop : (t : Terms) (w : World) → (run_of (logging false t) w).stop ≡ LogFull → ⊥
unlogged_stop t w e = false≢true (stop_lacks (logging false t) w e).lacks

-- some rows begin with others
record Begins (rows whole : List Row) : Type 0 where
  rest : List Row
  same : whole ≡ rows ++ rest

-- The run with the log beside the run without it, and beside runs with other logs.
module _ (t : Terms) (m : Machine) (l : Lent) where
  abbrev logged : Ended
  logged = ran_of (logging true t) m l

  abbrev plain : Ended
  plain = ran_of (logging false t) m l

  beside : (b₁ b₂ : Bool) (log : List ℕ) → (b₂ ≡ true → 8 * (ran_of (logging b₁ t) m l).world.state.entries.0 ≤ length log)
      → Follows t b₁ b₂ (start_world m l) log (wakes_of (logging b₁ t) (start_world m l)) (ran_of (logging b₁ t) m l)
  beside b₁ b₂ log f = follows t b₁ b₂ (start_world m l) log f (λ _. omega arith)

  -- without the log the run is the same whatever log is lent, and leaves it
  pub log_unread : (log : List ℕ) → ran_of (logging false t) m (with_log l log) ≡ ended_with log (ran_of (logging false t) m l)
  log_unread log = ((beside false false log (λ a. absurd (false≢true a))).ended (unlogged_stop t (start_world m l))).0

  -- where it does not stop with 11, the run with the log is the run without it: stop, state, memories and output
  pub logged_ends : ((ran_of (logging true t) m l).stop ≡ LogFull → ⊥) → ran_of (logging false t) m l ≡ ended_with l.log (ran_of (logging true t) m l)
  logged_ends n = ((beside true false l.log (λ a. absurd (false≢true a))).ended n).0

  -- where there is room for the entries of the run without the log, the run with the log is that, with their rows
  pub room_enough : 8 * (ran_of (logging false t) m l).world.state.entries.0 ≤ length l.log
      → ran_of (logging true t) m l ≡ ended_with (over (rows_bytes (wakes_of (logging false t) (start_world m l))) l.log) (ran_of (logging false t) m l)
  room_enough h = ((beside false true l.log (λ _. h)).ended (unlogged_stop t (start_world m l))).0

  -- 11 leaves the boundary before the entry: the limit is not reached, its records are applied and its byte is sent, and the interrupt is still
  -- to be accepted; the log has no room for its row
  pub record Refused (v : World) : Type 0 where
    pub cause : Cause
    pub pending : pending_of v.state.machine ≡ Some cause
    pub ready : Ready t.session t.limit v.state
    pub full : v.state.entries.0 ≡ length l.log / 8

  pub refused_left : (ran_of (logging true t) m l).stop ≡ LogFull → Refused (ran_of (logging true t) m l).world
  refused_left e =
      let a = stop_lacks (logging true t) (start_world m l) e in
      let v = logged.world in
      let z : length v.lent.log < 8 * v.state.entries.0 + 8 = leb-false _ _ (not-true _ a.lacks) in
      let long = log_length (logging true t) m l refl in
      let r = log_room (logging true t) m l refl in
      record {
        cause = a.cause;
        pending = a.pending;
        ready = ((beside true false l.log (λ a. absurd (false≢true a))).passed e).1;
        full = omega (arith, z, long, r);
      }

  -- the run without the log passes there, and enters
  more_entries : (ran_of (logging true t) m l).stop ≡ LogFull → length l.log / 8 < (ran_of (logging false t) m l).world.state.entries.0
  unfolding entered_world
  more_entries e =
      let r = refused_left e in
      let v = relogged l.log logged.world in
      let p = ((beside true false l.log (λ a. absurd (false≢true a))).passed e).0.0 in
      let next = entry_again (logging false t) v r.ready r.cause r.pending in
      let g = (counts_grow (logging false t) (entered_world r.cause (logged_world (logging false t).watch r.cause v))).entries in
      let same = ap (λ (x : Ended). x.world.state.entries.0) (p ∙ run_more (logging false t) v next) in
      let f = r.full in
      omega (arith, g, same, f)

  -- 11 is given exactly when the run has more entries than the log has room for
  pub exactly_11 : ((ran_of (logging true t) m l).stop ≡ LogFull) ↔ (length l.log / 8 < (ran_of (logging false t) m l).world.state.entries.0)
  exactly_11 = (more_entries, λ h. ⊎_elim (λ e. e) (λ n. absurd (other h n)) (full? logged.stop))
    where
      other : length l.log / 8 < plain.world.state.entries.0 → (logged.stop ≡ LogFull → ⊥) → ⊥
      other h n =
          let e = ap (λ (x : Ended). x.world.state.entries.0) (logged_ends n) in
          let r = log_room (logging true t) m l refl in
          omega (arith, h, e, r)

  -- the rows of a run that has room for them begin with the logged run's
  begins : (b : Bool) (log : List ℕ) → (b ≡ true → 8 * logged.world.state.entries.0 ≤ length log)
      → Begins (wakes_of (logging true t) (start_world m l)) (wakes_of (logging b t) (start_world m (with_log l log)))
  begins b log f =
      ⊎_elim
      (λ e. record { rest = _; same = ((beside true b log f).passed e).0.1 })
      (λ n. record { rest = []; same = ((beside true b log f).ended n).1 ∙ sym (append-nil _) })
      (full? logged.stop)

  -- "its rows are the first k": those of the run without the log
  pub rows_first : wakes_of (logging true t) (start_world m l) ≡ take (length l.log / 8) (wakes_of (logging false t) (start_world m l))
  rows_first =
      ⊎_elim
      (λ e. sym (ap (take room) ((beside true false l.log none).passed e).0.1 ∙ take_at first _ room (let f = (refused_left e).full in n ∙ f)))
      (λ q. sym (ap (take room) ((beside true false l.log none).ended q).1 ∙ take_all room first (omega (arith, n, r))))
      (full? logged.stop)
    where
      first : List Row
      first = wakes_of (logging true t) (start_world m l)

      room : ℕ
      room = length l.log / 8

      none : false ≡ true → 8 * logged.world.state.entries.0 ≤ length l.log
      none a = absurd (false≢true a)

      n : length first ≡ logged.world.state.entries.0
      n = rows_entries (logging true t) m l

      r : 8 * logged.world.state.entries.0 ≤ length l.log
      r = log_room (logging true t) m l refl

  -- .. and of two logs, the shorter has the first rows of the longer
  pub log_first : (log : List ℕ) → length l.log ≤ length log
      → let k = 8 * (ran_of (logging true t) m l).world.state.entries.0 in
      take k (ran_of (logging true t) m l).world.lent.log ≡ take k (ran_of (logging true t) m (with_log l log)).world.lent.log
  log_first log h =
      let asked = logging true t in
      let first = wakes_of asked (start_world m l) in
      let longer = (ran_of asked m (with_log l log)).world.lent.log in
      let r = log_room asked m l refl in
      let b = begins true log (λ _. let z : 8 * logged.world.state.entries.0 ≤ length log = omega (arith, h, r) in z) in
      log_filled asked m l refl
      ∙ sym (ap (λ (k : ℕ). take (8 * k) longer) (sym (rows_entries asked m l))
      ∙ ap (take (8 * length first)) (log_left asked m (with_log l log) ∙ ap (λ (w : List Row). over (rows_bytes w) log) b.same)
      ∙ first_rows first b.rest log)
