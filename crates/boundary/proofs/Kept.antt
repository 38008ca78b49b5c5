-- What a run keeps, and where it ends: its memories' lengths, its cycles, its counts and its place
-- in the session. Assumes nothing.
use Rattle.std.proofs.Common.{◌≡◌, ℕ, ◌+◌, ◌<◌, ◌≤◌, List, length, refl, ◌∙◌, arith}
use Rattle.turns.specs.Turn.{Then}
use Rattle.session.specs.Session.{check_from, check_of, time_at}
use Rattle.std.specs.Prelude.{Ok}
use Rattle.session.proofs.Laws.{next_after, Step, sound_step, due_there}
use Rattle.machine.specs.declared.Machine.{Machine}
use Rattle.machine.proofs.Steps.{step_cycles, step_spared, entered_spared}
use Rattle.boundary.specs.World.{Lent, memories_in, Terms, World, Ended}
use Rattle.boundary.specs.Boundary.{record_taken, sent_state, entered_world, waited_state, run_of}
use Rattle.boundary.specs.Counts.{Fine}
use Rattle.boundary.specs.Start.{start_of, start_world, ran_of}
use Rattle.boundary.specs.declared.State.{State}
use Rattle.boundary.specs.declared.Stop.{Stop}
use Rattle.boundary.specs.declared.Stop.TheVariants.{Limit, Undefined, Full, LogFull}
use Rattle.boundary.proofs.Cases.{entry_most, records_cycles}
use Rattle.boundary.proofs.Runs.{act_cases, boundary_cases, run_keeps, turn_fine}
use Rattle.boundary.proofs.Keeps.{Keeps, run_holds}

-- the lengths of the memories are kept
abbrev pub SameLengths : Lent → Lent → Type 0
SameLengths l k = (length k.image ≡ length l.image) × (length k.area ≡ length l.area)

lengths : (t : Terms) (l : Lent) → Keeps t (λ w. SameLengths l w.lent)
unfolding record_taken sent_state entered_world waited_state
lengths t l =
    record {
      applied = λ w d h. h;
      sent = λ w b h. h;
      entered = λ w cause e f b h.
          let s = entered_spared cause (memories_in w.lent) w.state.machine in
          (s.image_length ∙ h.0, s.area_length ∙ h.1);
      waited = λ w f b h. h;
      stepped = λ w i f e b h. let s = step_spared i (memories_in w.lent) w.state.machine in (s.image_length ∙ h.0, s.area_length ∙ h.1);
    }

pub same_lengths : (t : Terms) (w : World) → SameLengths w.lent (run_of t w).world.lent
same_lengths t w = run_holds t (λ v. SameLengths w.lent v.lent) (lengths t w.lent) w (refl, refl)

-- a step or an entry takes at most 12 cycles, so that a run ends at most 11 past its limit
below : (t : Terms) → Keeps t (λ w. w.state.cycles.0 ≤ t.limit + 11)
unfolding record_taken sent_state entered_world waited_state
below t =
    record {
      applied = λ w d h. h;
      sent = λ w l h. h;
      entered = λ w cause e f l h. let k = entry_most cause (memories_in w.lent) w.state.machine in omega arith;
      waited = λ w f l h. omega arith;
      stepped = λ w i f e l h. let k = (step_cycles (memories_in w.lent) w.state.machine i e).1 in omega arith;
    }

pub cycles_bound : (t : Terms) (m : Machine) (l : Lent) → (ran_of t m l).world.state.cycles.0 ≤ t.limit + 11
cycles_bound t m l = run_holds t (λ w. w.state.cycles.0 ≤ t.limit + 11) (below t) (start_world m l) (omega arith)

-- reply 0 is "given exactly when the cycle limit N is reached"; 8, 9 and 11 come before it
abbrev pub Reached : Stop → ℕ → ℕ → Type 0
Reached Limit n cycles = n ≤ cycles
Reached Undefined n cycles = cycles < n
Reached Full n cycles = cycles < n
Reached LogFull n cycles = cycles < n

module _ (t : Terms) where
  abbrev Ends : Ended → Type 0
  Ends e = Reached e.stop t.limit e.world.state.cycles.0

  pub limit_reached : (w : World) → Ends (run_of t w)
  unfolding sent_state
  limit_reached w =
      run_keeps t (λ v. Unit) Ends
      (λ v _.
      let c = records_cycles t.session (memories_in v.lent) v.state in
      boundary_cases (Then (λ v. Unit) Ends) t v
      (λ l. l)
      (λ l. omega arith)
      (λ l g. act_cases (Then (λ v. Unit) Ends) t.watch _ (λ cause e f. omega arith) (λ cause e f. tt) (λ e f. tt) (omega arith) (λ i f e. tt))
      (λ l. act_cases (Then (λ v. Unit) Ends) t.watch _ (λ cause e f. omega arith) (λ cause e f. tt) (λ e f. tt) (omega arith) (λ i f e. tt)))
      w tt

-- from a start, instructions, entries and leaps are at most the cycles, and records used at most the place
pub counts_fine : (t : Terms) (m : Machine) (l : Lent) → Fine (ran_of t m l).world.state
counts_fine t m l =
    run_keeps t (λ v. Fine v.state) (λ e. Fine e.world.state) (turn_fine t) (start_world m l)
    (record { instructions = omega arith; entries = omega arith; leaps = omega arith; used = omega arith })

-- no count falls
pub record Grows (s r : State) : Type 0 where
  pub place : s.place ≤ r.place
  pub used : s.used.0 ≤ r.used.0
  pub cycles : s.cycles.0 ≤ r.cycles.0
  pub instructions : s.instructions.0 ≤ r.instructions.0
  pub entries : s.entries.0 ≤ r.entries.0
  pub sent : s.sent.0 ≤ r.sent.0
  pub leaps : s.leaps.0 ≤ r.leaps.0

grows : (s : State) (t : Terms) → Keeps t (λ w. Grows s w.state)
unfolding record_taken sent_state entered_world waited_state
grows s t =
    record {
      applied = λ w d h.
          let p = next_after t.session w.state.place in
          record { place = omega arith; used = omega arith; cycles = h.cycles; instructions = h.instructions; entries = h.entries; sent = h.sent; leaps = h.leaps };
      sent = λ w l h.
          record { place = h.place; used = h.used; cycles = h.cycles; instructions = h.instructions; entries = h.entries; sent = omega arith; leaps = h.leaps };
      entered = λ w cause e f l h.
          record { place = h.place; used = h.used; cycles = omega arith; instructions = omega arith; entries = omega arith; sent = h.sent; leaps = omega arith };
      waited = λ w f l h.
          record { place = h.place; used = h.used; cycles = omega arith; instructions = omega arith; entries = omega arith; sent = h.sent; leaps = omega arith };
      stepped = λ w i f e l h.
          record { place = h.place; used = h.used; cycles = omega arith; instructions = omega arith; entries = omega arith; sent = h.sent; leaps = omega arith };
    }

pub counts_grow : (t : Terms) (w : World) → Grows w.state (run_of t w).world.state
counts_grow t w =
    run_holds t (λ v. Grows w.state v.state) (grows w.state t) w
    (record { place = omega arith; used = omega arith; cycles = omega arith; instructions = omega arith; entries = omega arith; sent = omega arith; leaps = omega arith })

-- What stands ahead in a sound session is sound, its next record is the first that is not used, and the place is within it.
pub record Ahead (session : List ℕ) (s : State) : Type 0 where
  pub before : ℕ
  pub sound : check_from session s.used.0 before s.place ≡ Ok tt
  pub within : s.place ≤ length session

pub step_ahead : (session : List ℕ) (s : State) → s.place < length session → (a : Ahead session s)
    → Step session s.used.0 a.before s.place
step_ahead session s l a = sound_step session s.used.0 a.before s.place l a.sound

pub ahead : (t : Terms) → Keeps t (λ w. Ahead t.session w.state)
unfolding record_taken sent_state entered_world waited_state
ahead t =
    record {
      applied = λ w d h.
          let k = step_ahead t.session w.state (due_there t.session _ _ d).0 h in
          record { before = time_at t.session w.state.place; sound = k.rest; within = k.within };
      sent = λ w l h. record { before = h.before; sound = h.sound; within = h.within };
      entered = λ w cause e f l h. record { before = h.before; sound = h.sound; within = h.within };
      waited = λ w f l h. record { before = h.before; sound = h.sound; within = h.within };
      stepped = λ w i f e l h. record { before = h.before; sound = h.sound; within = h.within };
    }

pub start_ahead : (session : List ℕ) (m : Machine) → check_of session ≡ Ok tt → Ahead session (start_of m)
start_ahead session m h = record { before = 0; sound = h; within = omega arith }

pub place_within : (t : Terms) (m : Machine) (l : Lent) → check_of t.session ≡ Ok tt → (ran_of t m l).world.state.place ≤ length t.session
place_within t m l h =
    (run_holds t (λ w. Ahead t.session w.state) (ahead t) (start_world m l) (start_ahead t.session m h)).within
