-- One boundary of two runs that differ in whether the log is asked for or in the log lent: where the second has room for the row, it goes as
-- the first does. Assumes nothing.
use Rattle.std.specs.Prelude.{Option, None, Some}
use Prim.Native.Nat.{ℕ, ◌+◌, ◌*◌, ◌≤◌}
use native.Mathlib.Omega.{arith}
use mathlib.Core.Path.{◌≡◌, refl, sym, ap, subst, ◌∙◌}
use mathlib.Core.Bool.{Bool, true, false, not, cond, ◌&&◌, false≢true}
use mathlib.Core.List.{List, [], ◌∷◌, ◌++◌, append-nil}
use lib.Dec.{leb}
use lib.ListN.{length, length-append, take-append-drop}
use borrow.Author.Tests.{le-leb, leb-false}
use Rattle.turns.specs.Turn.{Turn, more, done}
use Rattle.laws.proofs.Conds.{passes}
use Rattle.opcodes.specs.declared.Instruction.{Instruction}
use Rattle.registers.specs.Registers.{idles}
use Rattle.machine.specs.declared.Cause.{Cause}
use Rattle.machine.specs.Interrupts.{pending_of}
use Rattle.machine.specs.Steps.{look_of, step_of}
use Rattle.wake_log.specs.declared.Row.{Row}
use Rattle.wake_log.specs.Log.{fits_row, with_row}
use Rattle.wake_log.proofs.Laws as log
use Rattle.boundary.specs.declared.State.{State}
use Rattle.boundary.specs.declared.Stop.{Stop}
use Rattle.boundary.specs.declared.Stop.TheVariants.{Limit, Undefined, Full, LogFull}
use Rattle.boundary.specs.World.{memories_in, Terms, World, world_of, Ended, ended_of}
use Rattle.boundary.specs.Boundary.{record_taken, fed_world, sends_of, sent_state, sent_world, row_of, lacks_row, logged_of, logged_world, entered_world}
use Rattle.boundary.specs.Boundary.{waited_state, waited_world, stepped_world, executed_of, on_pending, act_of, send_of, boundary_of}
use Rattle.boundary.proofs.Feeding.{records_keep}
use Rattle.boundary.proofs.Cases.{row_fits}
use Rattle.boundary_theorems.specs.Trace.{ready_state}
use Rattle.log_theorems.specs.Wakes.{row_by, wake_of, with_rows, logged_rows, logging, relogged}
use Rattle.log_theorems.proofs.Bytes.{rows_keep_length, row_more}
use Rattle.log_theorems.proofs.Ready.{Ready, fed_ready, sent_ready, entry_again}

-- a run that had k entries and this log has these rows more
pub record Written (asked : Bool) (k : ℕ) (log : List ℕ) (rows : List Row) (w : World) : Type 0 where
  pub entries : w.state.entries.0 ≡ k + length rows
  pub room : asked ≡ true → 8 * (k + length rows) ≤ length log
  pub same : w.lent.log ≡ logged_rows asked k rows log

-- a row more
module _ (k : ℕ) (log : List ℕ) (rows : List Row) (row : Row) where
  one_more : length (rows ++ row ∷ []) ≡ length rows + 1
  one_more = length-append rows (row ∷ [])

  logged_more : (asked : Bool) (n : ℕ) → n ≡ k + length rows → (asked ≡ true → 8 * k ≤ length log)
      → cond asked (with_row row n (logged_rows asked k rows log)) (logged_rows asked k rows log) ≡ logged_rows asked k (rows ++ row ∷ []) log
  logged_more true n e h = ap (λ (i : ℕ). with_row row i (with_rows k rows log)) e ∙ row_more k rows log (h refl) row
  logged_more false n e h = refl

logged_long : (asked : Bool) (k : ℕ) (rows : List Row) (log : List ℕ) → (asked ≡ true → 8 * (k + length rows) ≤ length log)
    → length (logged_rows asked k rows log) ≡ length log
logged_long true k rows log h = let f = h refl in rows_keep_length k rows log (omega arith) f
logged_long false k rows log h = refl

has_room : (asked : Bool) (n : ℕ) (log : List ℕ) → (asked ≡ true → 8 * n + 8 ≤ length log) → (asked && not (fits_row log n)) ≡ false
has_room true n log h = ap not (le-leb _ _ (h refl))
has_room false n log h = refl

module _ (t : Terms) (b₁ b₂ : Bool) (k : ℕ) (l₁ l₂ : List ℕ) where
  abbrev one : Terms
  one = logging b₁ t

  abbrev other : Terms
  other = logging b₂ t

  abbrev log₂ : List Row → List ℕ
  log₂ rows = logged_rows b₂ k rows l₂

  abbrev Has : List Row → World → Type 0
  Has = Written b₁ k l₁

  -- the second run goes on to the same world but for the log; or stops so; or, where the first lacks a row, is at step 4 of the same boundary
  abbrev Went : List Row → World → Turn World Ended → Type 0
  Went rows u y = Has rows u × (y ≡ more (relogged (log₂ rows) u))

  abbrev pub Stops : List Row → State → Stop → World → Turn World Ended → Type 0
  Stops rows s Limit v y = y ≡ done (ended_of Limit (relogged (log₂ rows) v))
  Stops rows s Undefined v y = y ≡ done (ended_of Undefined (relogged (log₂ rows) v))
  Stops rows s Full v y = y ≡ done (ended_of Full (relogged (log₂ rows) v))
  Stops rows s LogFull v y =
      (y ≡ boundary_of other (relogged (log₂ rows) v)) × Ready t.session t.limit v.state × (v.state ≡ s)

  -- .. with these rows, of a boundary whose state at step 4 is s, if it goes on
  abbrev pub Goes : List Row → List Row → State → Turn World Ended → Turn World Ended → Type 0
  Goes rows wake s (more u) y = (b₂ ≡ true → 8 * u.state.entries.0 ≤ length l₂) → Went (rows ++ wake) u y
  Goes rows wake s (done e) y = Has rows e.world × Stops rows s e.stop e.world y

  -- a boundary without an entry
  still : (rows : List Row) (u : World) (y : Turn World Ended) → Went rows u y → Went (rows ++ []) u y
  still rows u y h = subst (λ (r : List Row). Went r u y) (sym (append-nil rows)) h

  -- steps 4 to 6
  module _ (rows : List Row) (w : World) (h : Has rows w) (r : Ready t.session t.limit w.state) where
    abbrev beside : World
    beside = relogged (log₂ rows) w

    waits : Has rows (waited_world w)
    unfolding waited_state
    waits = record { entries = let e = h.entries in omega arith; room = h.room; same = h.same }

    steps : (i : Instruction) → Has rows (stepped_world (step_of i (memories_in w.lent) w.state.machine) w)
    steps i = record { entries = let e = h.entries in omega arith; room = h.room; same = h.same }

    enters : (cause : Cause) → lacks_row one.watch w.state w.lent.log ≡ false
        → Has (rows ++ row_of one.watch cause w.state ∷ []) (entered_world cause (logged_world one.watch cause w))
    unfolding entered_world logged_of
    enters cause f =
        let row = row_of one.watch cause w.state in
        let m = one_more k l₁ rows row in
        let e = h.entries in
        let long = ap length h.same ∙ logged_long b₁ k rows l₁ h.room in
        record {
          entries = omega (arith, e, m);
          room = λ a. let q = log.room w.state.entries.0 w.lent.log (row_fits w.state w.lent one.watch a f) in omega (arith, q, long, e, m);
          same = ap (λ (l : List ℕ). cond b₁ (with_row row w.state.entries.0 l) l) h.same
              ∙ logged_more k l₁ rows row b₁ _ e (λ a. let q = h.room a in omega (arith, q));
        }

    entry : (cause : Cause) → pending_of w.state.machine ≡ Some cause → (lacks : Bool) → lacks_row one.watch w.state w.lent.log ≡ lacks
        → Goes rows (row_of one.watch cause w.state ∷ []) w.state
        (cond lacks (done (ended_of LogFull w)) (more (entered_world cause (logged_world one.watch cause w))))
        (on_pending other.watch (Some cause) beside)
    unfolding entered_world logged_of
    entry cause e true f = (h, (sym (entry_again other beside r cause e), r, refl))
    entry cause e false f =
        λ fits.
        let row = row_of one.watch cause w.state in
        let n = h.entries in
        let q : b₂ ≡ true → 8 * (k + length rows) ≤ length l₂ = λ a. let z = fits a in omega (arith, z, n) in
        let long = logged_long b₂ k rows l₂ q in
        let lacks = has_room b₂ w.state.entries.0 (log₂ rows) (λ a. let z = fits a in omega (arith, z, long)) in
        let new = logged_more k l₂ rows row b₂ w.state.entries.0 n (λ a. let z = q a in omega (arith, z)) in
        (enters cause f, passes _ _ lacks ∙ ap (λ (l : List ℕ). more (entered_world cause (relogged l w))) new)

    act_goes : Goes rows (wake_of one.watch w.state) w.state (act_of one.watch w) (act_of other.watch beside)
    unfolding act_of
    act_goes = by (pending_of w.state.machine) refl
      where
        looked : (x : Option Instruction) → Goes rows [] w.state (executed_of x w) (executed_of x beside)
        looked None = (h, refl)
        looked (Some i) = λ _. still rows _ _ (steps i, refl)

        goes : (idle : Bool)
            → Goes rows [] w.state
            (cond idle (more (waited_world w)) (executed_of (look_of (memories_in w.lent) w.state.machine) w))
            (cond idle (more (waited_world beside)) (executed_of (look_of (memories_in w.lent) w.state.machine) beside))
        goes true = λ _. still rows _ _ (waits, refl)
        goes false = looked (look_of (memories_in w.lent) w.state.machine)

        by : (p : Option Cause) → pending_of w.state.machine ≡ p
            → Goes rows (row_by one.watch p w.state) w.state (on_pending one.watch p w) (on_pending other.watch p beside)
        by (Some cause) e = entry cause e (lacks_row one.watch w.state w.lent.log) refl
        by None e = goes (idles w.state.machine.chip.registers)

  -- a boundary
  pub turn_goes : (rows : List Row) (w : World) → Has rows w
      → Goes rows (wake_of one.watch (ready_state t.session w)) (ready_state t.session w) (boundary_of one w) (boundary_of other (relogged (log₂ rows) w))
  unfolding boundary_of send_of sent_state record_taken
  turn_goes rows w h =
      by (leb t.limit w.state.cycles.0) refl (sends_of r.state) refl (leb (length w.lent.output) r.state.sent.0)
    where
      r : World
      r = fed_world t.session w

      fed : Has rows r
      fed =
          records_keep t.session (memories_in w.lent) (λ (x : State). Has rows (world_of x w.lent))
          (λ x d q. record { entries = q.entries; room = q.room; same = q.same })
          w.state h

      by : (end : Bool) → leb t.limit w.state.cycles.0 ≡ end → (sends : Bool) → sends_of r.state ≡ sends → (full : Bool)
          → let s = cond sends (sent_state r.state) r.state in
          let v = relogged (log₂ rows) r in
          Goes rows (wake_of one.watch s) s
          (cond end (done (ended_of Limit w)) (cond sends (cond full (done (ended_of Full r)) (act_of one.watch (sent_world r))) (act_of one.watch r)))
          (cond end (done (ended_of Limit (relogged (log₂ rows) w)))
          (cond sends (cond full (done (ended_of Full v)) (act_of other.watch (sent_world v))) (act_of other.watch v)))
      by true e sends f full = (h, refl)
      by false e true f true = (fed, refl)
      by false e true f false =
          act_goes rows (sent_world r) (record { entries = fed.entries; room = fed.room; same = fed.same }) (sent_ready t w (leb-false _ _ e))
      by false e false f full = act_goes rows r fed (fed_ready t w (leb-false _ _ e) f)

-- of one run alone: a boundary that goes on writes its row
pub turn_written : (t : Terms) (k : ℕ) (log : List ℕ) (rows : List Row) (v u : World) → Written t.watch.log k log rows v → boundary_of t v ≡ more u
    → Written t.watch.log k log (rows ++ wake_of t.watch (ready_state t.session v)) u
turn_written t k log rows v u h e =
    let s = ready_state t.session v in
    let y = boundary_of (logging false t) (relogged (logged_rows false k rows []) v) in
    (subst (λ (x : Turn World Ended). Goes t t.watch.log false k log [] rows (wake_of t.watch s) s x y) e
    (turn_goes t t.watch.log false k log [] rows v h) (λ a. absurd (false≢true a))).0

pub logged_none : (asked : Bool) (k : ℕ) (log : List ℕ) → logged_rows asked k [] log ≡ log
logged_none true k log = take-append-drop (8 * k) log
logged_none false k log = refl

pub start_written : (asked : Bool) (w : World) → (asked ≡ true → 8 * w.state.entries.0 ≤ length w.lent.log)
    → Written asked w.state.entries.0 w.lent.log [] w
start_written asked w room =
    record {
      entries = omega arith;
      room = λ a. let z = room a in omega (arith, z);
      same = sym (logged_none asked w.state.entries.0 w.lent.log);
    }
