-- Each row of a log is the row of a boundary on the run's path, and is read back from the log at the end. Assumes nothing.
use Rattle.std.specs.Prelude.{Option, None, Some}
use Prim.Native.Nat.{ℕ, zero, suc, ◌+◌, ◌*◌, ◌%◌, ◌^◌, ◌≤◌, ◌<◌}
use native.Mathlib.Omega.{arith}
use mathlib.Core.Path.{◌≡◌, refl, sym, ap, subst, ◌∙◌}
use mathlib.Core.Bool.{Bool, true, false}
use mathlib.Core.List.{List, [], ◌∷◌, ◌++◌, append_assoc, append-nil}
use lib.Dec.{leb}
use lib.ListN.{length, drop, length-append}
use lib.Seq.{take_at, drop_at, drop-append_seam}
use borrow.Author.Tests.{le-leb, leb-true, leb-false}
use Rattle.turns.specs.Turn.{Turn, more, done, Then}
use Rattle.turns.specs.Recorded.{path_of}
use Rattle.turns.proofs.Laws as turns
use Rattle.turns.proofs.Recorded.{path_more, rows_keep}
use Rattle.laws.proofs.Conds.{picks}
use Rattle.machine.specs.declared.Cause.{Cause}
use Rattle.machine.specs.declared.Machine.{Machine}
use Rattle.machine.specs.Interrupts.{pending_of}
use Rattle.wake_log.specs.declared.Row.{Row}
use Rattle.wake_log.specs.Log.{row_bytes, fits_row, with_row, row_at, is_wake, is_row}
use Rattle.wake_log.proofs.Laws.{row_long, row_back, written}
use Rattle.boundary.specs.declared.State.{State}
use Rattle.boundary.specs.declared.Stop.TheVariants.{Limit}
use Rattle.boundary.specs.World.{Lent, Terms, World, Ended, ended_of}
use Rattle.boundary.specs.Boundary.{boundary_of, cycles_left}
use Rattle.boundary.specs.Start.{start_world, ran_of}
use Rattle.boundary.proofs.Cases.{at_limit}
use Rattle.boundary.proofs.Runs.{run_falls}
use Rattle.boundary_theorems.specs.Trace.{ready_state, if_going}
use Rattle.log_theorems.specs.Wakes.{row_by, wake_of, wakes_at, wakes_of, rows_bytes}
use Rattle.log_theorems.proofs.Bytes.{rows_long, rows_append}
use Rattle.log_theorems.proofs.Ready.{ready_cycles}
use Rattle.log_theorems.proofs.Boundaries.{Written, start_written, turn_written}
use Rattle.log_theorems.proofs.Wakes.{Tells, row_tells}
use Rattle.log_theorems.proofs.Log.{rows_entries, log_left}

-- the worlds from which a run takes its boundaries, in their order
abbrev pub path_from : Terms → World → List World
path_from t w = path_of (boundary_of t) (cycles_left t) w

-- row k of the run from w: on its path stands a world with k entries before, and from there a boundary below the limit takes the entry of this
-- row. The row's cycle is the count there, after what had passed before the run; it goes round only where 4 bytes do not hold the limit so counted.
pub record Entered (t : Terms) (w : World) (k : ℕ) (row : Row) : Type 0 where
  pub at : World
  pub next : World
  pub goes : boundary_of t at ≡ more next
  pub before : List World
  pub path : path_from t w ≡ before ++ at ∷ path_from t next
  pub entries : at.state.entries.0 ≡ k
  pub below : at.state.cycles.0 < t.limit
  pub tells : Tells t.watch (ready_state t.session at) row
  pub cycle : row.cycle ≡ (t.watch.since.0 + at.state.cycles.0) % 2 ^ 32
  pub unwrapped : t.watch.since.0 + t.limit ≤ 2 ^ 32
      → (row.cycle ≡ t.watch.since.0 + at.state.cycles.0) × (row.cycle < t.watch.since.0 + t.limit)

-- .. for each of some rows, from number k on
abbrev pub Each : Terms → World → ℕ → List Row → Type 0
Each t w k [] = Unit {0}
Each t w k (row ∷ rows) = Entered t w k row × Each t w (suc k) rows

each_last : (t : Terms) (w : World) (k : ℕ) (rows : List Row) (row : Row) → Each t w k rows → Entered t w (k + length rows) row → Each t w k (rows ++ row ∷ [])
each_last t w k [] row h e = (subst (λ (n : ℕ). Entered t w n row) (let z : k + 0 ≡ k = omega arith in z) e, tt)
each_last t w k (x ∷ rows) row h e =
    (h.0, each_last t w (suc k) rows row h.1 (subst (λ (n : ℕ). Entered t w n row) (let z : k + suc (length rows) ≡ suc k + length rows = omega arith in z) e))

-- a boundary that goes on
path_goes : (t : Terms) (v u : World) → boundary_of t v ≡ more u → path_from t v ≡ v ∷ path_from t u
path_goes t v u e = path_more (boundary_of t) (λ (x : World). ended_of Limit x) (cycles_left t) (run_falls t) e

goes_below : (t : Terms) (v u : World) → boundary_of t v ≡ more u → v.state.cycles.0 < t.limit
goes_below t v u e = by (leb t.limit v.state.cycles.0) refl
  where
    by : (b : Bool) → leb t.limit v.state.cycles.0 ≡ b → v.state.cycles.0 < t.limit
    by true f = absurd (turns.apart _ _ (sym e ∙ at_limit v.state v.lent t (leb-true _ _ f)))
    by false f = leb-false _ _ f

-- a count below the limit does not go round
stays : (since count limit row : ℕ) → row ≡ (since + count) % 2 ^ 32 → count < limit → since + limit ≤ 2 ^ 32
    → (row ≡ since + count) × (row < since + limit)
stays since count limit row e l f = (omega (arith, e, l, f), omega (arith, e, l, f))

module _ (t : Terms) (w : World) where
  -- the boundary from a world of the path that takes an entry
  entered_at : (before : List World) (v u : World) → path_from t w ≡ before ++ path_from t v → boundary_of t v ≡ more u
      → (k : ℕ) → v.state.entries.0 ≡ k → (row : Row) → Tells t.watch (ready_state t.session v) row → Entered t w k row
  entered_at before v u p e k n row tells =
      let l = goes_below t v u e in
      let c : row.cycle ≡ (t.watch.since.0 + v.state.cycles.0) % 2 ^ 32 =
      tells.cycle ∙ ap (λ (j : ℕ). (t.watch.since.0 + j) % 2 ^ 32) (ready_cycles t.session v) in
      record {
        at = v;
        next = u;
        goes = e;
        before = before;
        path = p ∙ ap (λ (x : List World). before ++ x) (path_goes t v u e);
        entries = n;
        below = l;
        tells = tells;
        cycle = c;
        unwrapped = stays t.watch.since.0 v.state.cycles.0 t.limit row.cycle c l;
      }

  record So (rows : List Row) (v : World) : Type 0 where
    before : List World
    path : path_from t w ≡ before ++ path_from t v
    rows_here : Written t.watch.log w.state.entries.0 w.lent.log rows v
    each : Each t w w.state.entries.0 rows

  turn_each : (rows : List Row) (v : World) → So rows v
      → let all = rows ++ wakes_at t v in Then (So all) (λ e. Each t w w.state.entries.0 all) (boundary_of t v)
  unfolding wakes_at
  turn_each rows v h = by (boundary_of t v) refl
    where
      s : State
      s = ready_state t.session v

      told : (u : World) → boundary_of t v ≡ more u → (p : Option Cause) → pending_of s.machine ≡ p → Each t w w.state.entries.0 (rows ++ row_by t.watch p s)
      told u e (Some cause) f =
          each_last t w w.state.entries.0 rows _ h.each
          (entered_at h.before v u h.path e _ h.rows_here.entries _ (row_tells t.watch s cause f))
      told u e None f = subst (Each t w w.state.entries.0) (sym (append-nil rows)) h.each

      by : (x : Turn World Ended) → boundary_of t v ≡ x
          → let all = rows ++ if_going x (wake_of t.watch s) in Then (So all) (λ e. Each t w w.state.entries.0 all) x
      by (more u) e =
          record {
            before = h.before ++ v ∷ [];
            path = h.path
                ∙ ap (λ (x : List World). h.before ++ x) (path_goes t v u e)
                ∙ sym (append_assoc h.before (v ∷ []) (path_from t u));
            rows_here = turn_written t w.state.entries.0 w.lent.log rows v u h.rows_here e;
            each = told u e (pending_of s.machine) refl;
          }
      by (done z) e = subst (Each t w w.state.entries.0) (sym (append-nil rows)) h.each

  pub wakes_tell : (t.watch.log ≡ true → 8 * w.state.entries.0 ≤ length w.lent.log) → Each t w w.state.entries.0 (wakes_of t w)
  unfolding wakes_of
  wakes_tell room =
      rows_keep (boundary_of t) (λ (x : World). ended_of Limit x) _ (run_falls t) (wakes_at t) So (λ l e. Each t w w.state.entries.0 l) turn_each [] w
      (record { before = []; path = refl; rows_here = start_written t.watch.log w room; each = tt })

-- a row among others is read back
module _ (before : List Row) (row : Row) (rest : List ℕ) where
  abbrev bytes : List ℕ
  bytes = rows_bytes before ++ (row_bytes row ++ rest)

  fits : fits_row bytes (length before) ≡ true
  fits =
      let a = length-append (rows_bytes before) (row_bytes row ++ rest) in
      let b = length-append (row_bytes row) rest in
      let c = rows_long before in
      let d = row_long row in
      le-leb _ _ (let z : 8 * length before + 8 ≤ length bytes = omega (arith, a, b, c, d) in z)

  again : with_row row (length before) bytes ≡ bytes
  unfolding with_row
  again =
      let l = rows_long before in
      rw (
        take_at (rows_bytes before) (row_bytes row ++ rest) (8 * length before) l,
        drop_at (rows_bytes before) (row_bytes row ++ rest) (8 * length before) l,
        drop-append_seam (row_bytes row) rest,
      )

  there : row.cycle < 4294967296 → is_wake row ≡ true → (row_at bytes (length before) ≡ row) × (is_row bytes (length before) ≡ true)
  there c w = (
    subst (λ (x : List ℕ). row_at x (length before) ≡ row) again (row_back row (length before) bytes fits c),
    subst (λ (x : List ℕ). is_row x (length before) ≡ true) again (written row (length before) bytes fits c w),
  )

-- row j of some
record Found (t : Terms) (w : World) (k : ℕ) (rows : List Row) (j : ℕ) : Type 0 where
  before : List Row
  row : Row
  after : List Row
  parts : rows ≡ before ++ row ∷ after
  long : length before ≡ j
  entered : Entered t w (k + j) row

find : (t : Terms) (w : World) (k : ℕ) (rows : List Row) → Each t w k rows → (j : ℕ) → j < length rows → Found t w k rows j
find t w k [] h j l = absurd (let z : ⊥ = omega arith in z)
find t w k (row ∷ rows) h zero l =
    record {
      before = [];
      row = row;
      after = rows;
      parts = refl;
      long = refl;
      entered = subst (λ (n : ℕ). Entered t w n row) (let z : k ≡ k + 0 = omega arith in z) h.0;
    }
find t w k (row ∷ rows) h (suc j) l =
    let f = find t w (suc k) rows h.1 j (omega arith) in
    record {
      before = row ∷ f.before;
      row = f.row;
      after = f.after;
      parts = ap (λ (x : List Row). row ∷ x) f.parts;
      long = ap suc f.long;
      entered = subst (λ (n : ℕ). Entered t w n f.row) (let z : suc k + j ≡ k + suc j = omega arith in z) f.entered;
    }

-- Each row that the log has at the end: it is that of an entry of the run, and the log tells it.
pub record Told (t : Terms) (m : Machine) (l : Lent) (k : ℕ) : Type 0 where
  pub row : Row
  pub entered : Entered t (start_world m l) k row
  pub read : row_at (ran_of t m l).world.lent.log k ≡ row
  pub accepted : is_row (ran_of t m l).world.lent.log k ≡ true

told_by : (t : Terms) (m : Machine) (l : Lent) → t.watch.log ≡ true → (k : ℕ) → Found t (start_world m l) 0 (wakes_of t (start_world m l)) k → Told t m l k
told_by t m l a k f =
    let rows = wakes_of t (start_world m l) in
    let end = drop (length (rows_bytes rows)) l.log in
    let rest = rows_bytes f.after ++ end in
    let e = subst (λ (j : ℕ). Entered t (start_world m l) j f.row) (let z : 0 + k ≡ k = omega arith in z) f.entered in
    let same : (ran_of t m l).world.lent.log ≡ bytes f.before f.row rest =
    log_left t m l
    ∙ picks _ _ a
    ∙ ap (λ (b : List ℕ). b ++ end) (ap rows_bytes f.parts ∙ rows_append f.before (f.row ∷ f.after))
    ∙ append_assoc (rows_bytes f.before) (row_bytes f.row ++ rows_bytes f.after) end
    ∙ ap (λ (b : List ℕ). rows_bytes f.before ++ b) (append_assoc (row_bytes f.row) (rows_bytes f.after) end) in
    let c = e.tells.cycle in
    let g = there f.before f.row rest (omega (arith, c)) e.tells.wake in
    let n = f.long in
    record {
      row = f.row;
      entered = e;
      read = ap (λ (b : List ℕ). row_at b k) same ∙ ap (row_at (bytes f.before f.row rest)) (sym n) ∙ g.0;
      accepted = ap (λ (b : List ℕ). is_row b k) same ∙ ap (is_row (bytes f.before f.row rest)) (sym n) ∙ g.1;
    }

pub row_told : (t : Terms) (m : Machine) (l : Lent) → t.watch.log ≡ true → (k : ℕ) → k < (ran_of t m l).world.state.entries.0 → Told t m l k
row_told t m l a k h =
    let n = rows_entries t m l in
    told_by t m l a k (find t (start_world m l) 0 _ (wakes_tell t (start_world m l) (λ _. omega arith)) k (omega (arith, h, n)))
