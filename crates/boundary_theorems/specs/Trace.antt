-- Leaps in 01's words, over the boundaries of a run one by one: "A leap is a longest stretch of one or more waiting cycles
-- (step 5) with no record, sending or interrupt at the boundary where any but the first of them begins."
use Rattle.std.specs.Prelude.{ℕ, Bool, true, false, not, cond, ◌&&◌, List, [], ◌∷◌, ◌++◌, ◌≡◌, Option, None, Some}
use Rattle.turns.specs.Turn.{Turn, more, done}
use Rattle.turns.specs.Recorded.{rows_of, count_of}
use Rattle.registers.specs.Registers.{idles}
use Rattle.machine.specs.declared.Cause.{Cause}
use Rattle.machine.specs.declared.Machine.{Machine}
use Rattle.machine.specs.Interrupts.{pending_of}
use Rattle.boundary.specs.declared.State.{State}
use Rattle.boundary.specs.World.{Terms, World, Ended}
use Rattle.boundary.specs.Boundary.{due, fed_world, sends_of, sent_state, boundary_of, cycles_left}

-- which of the steps 4, 5 and 6 a boundary takes
pub data Taken : Type 0 where
  entry : Taken
  waiting_cycle : Taken
  instruction : Taken

abbrev pub step_by : Option Cause → Bool → Taken
step_by (Some cause) idle = entry
step_by None idle = cond idle waiting_cycle instruction

abbrev pub taken_by : Machine → Taken
taken_by m = step_by (pending_of m) (idles m.chip.registers)

-- what a boundary that goes on did: whether a record was applied there, whether a byte was sent there, and its step
pub record TraceMark : Type 0 where
  pub applied : Bool
  pub sent : Bool
  pub taken : Taken

-- the state at its step 4: the records due are applied, and a byte is sent where one is to be sent
abbrev pub ready_state : List ℕ → World → State
ready_state session w = let s = (fed_world session w).state in cond (sends_of s) (sent_state s) s

unfoldable pub mark_of : List ℕ → World → TraceMark
mark_of session w =
    record {
      applied = due session w.state;
      sent = sends_of (fed_world session w).state;
      taken = taken_by (ready_state session w).machine;
    }

-- what is told of boundaries that go on alone
abbrev pub if_going : {A : Type 0} → Turn World Ended → List A → List A
if_going (more v) rows = rows
if_going (done e) rows = []

-- The marks of a run, one for each boundary that goes on.
abbrev pub marks_at : Terms → World → List TraceMark
marks_at t w = if_going (boundary_of t w) (mark_of t.session w ∷ [])

unfoldable pub trace_of : Terms → World → List TraceMark
trace_of t w = rows_of (boundary_of t) (cycles_left t) (marks_at t) w

-- "waiting cycles (step 5)"
abbrev pub is_waiting : Taken → Bool
is_waiting entry = false
is_waiting waiting_cycle = true
is_waiting instruction = false

abbrev pub is_entry : Taken → Bool
is_entry entry = true
is_entry waiting_cycle = false
is_entry instruction = false

abbrev pub is_instruction : Taken → Bool
is_instruction entry = false
is_instruction waiting_cycle = false
is_instruction instruction = true

abbrev pub waits : TraceMark → Bool
waits m = is_waiting m.taken

-- a waiting cycle "with no record, sending or interrupt at the boundary where [it] begins"
abbrev pub quiet : TraceMark → Bool
quiet m = waits m && (not m.applied && not m.sent)

-- a list of marks is a stretch where it is "one or more waiting cycles", and "any but the first" is quiet
abbrev pub every : (TraceMark → Bool) → List TraceMark → Bool
every test [] = true
every test (m ∷ ms) = test m && every test ms

abbrev pub is_stretch : List TraceMark → Bool
is_stretch [] = false
is_stretch (m ∷ ms) = waits m && every quiet ms

-- The marks in groups, cut wherever two neighbours are in no stretch together: the groups that are stretches are the longest ones
-- (proofs/Longest.antt: `longest_groups`).
abbrev pub joins : TraceMark → List (List TraceMark) → List (List TraceMark)
joins m [] = (m ∷ []) ∷ []
joins m ([] ∷ gs) = (m ∷ []) ∷ gs
joins m ((x ∷ g) ∷ gs) = cond (is_stretch (m ∷ x ∷ [])) ((m ∷ x ∷ g) ∷ gs) ((m ∷ []) ∷ (x ∷ g) ∷ gs)

abbrev pub groups : List TraceMark → List (List TraceMark)
groups [] = []
groups (m ∷ ms) = joins m (groups ms)

-- a part of the marks, with those before and those after it, is "a longest stretch": it is a stretch, and no stretch has it and more in it
pub record Longest (before part after : List TraceMark) : Type 0 where
  pub stretch : is_stretch part ≡ true
  pub alone : (a b c d : List TraceMark) → before ≡ a ++ b → after ≡ c ++ d → is_stretch (b ++ part ++ c) ≡ true → (b ≡ []) × (c ≡ [])

-- groups put together, and that a part is one of the groups
abbrev pub flat : List (List TraceMark) → List TraceMark
flat [] = []
flat (g ∷ gs) = g ++ flat gs

pub record Group (before part after : List TraceMark) : Type 0 where
  pub earlier : List (List TraceMark)
  pub later : List (List TraceMark)
  pub cut : groups (before ++ part ++ after) ≡ earlier ++ part ∷ later
  pub before_it : flat earlier ≡ before
  pub after_it : flat later ≡ after

-- "The leaping run reports how many there were."
unfoldable pub stretches_of : List TraceMark → ℕ
stretches_of ms = count_of is_stretch (groups ms)

-- the interrupt entries and the instructions among them
abbrev pub entries_of : List TraceMark → ℕ
entries_of ms = count_of (λ (m : TraceMark). is_entry m.taken) ms

abbrev pub instructions_of : List TraceMark → ℕ
instructions_of ms = count_of (λ (m : TraceMark). is_instruction m.taken) ms
