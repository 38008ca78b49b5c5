-- Where a leap ends, what the functions that look for its end promise, and the state after plain instructions: from each the run goes on
-- the same.
use Rattle.std.specs.Prelude.{ℕ, ◌+◌, ◌≤◌, ◌<◌, Bool, true, false, ◌||◌, ◌&&◌, List, ◌⊎◌, ◌≡◌, leb, eqb, Option, None, Some}
use Rattle.session.specs.Session.{due_at}
use Rattle.serial.specs.Serial.{wants_to_send, ticks_serial}
use Rattle.bus.specs.Access.{memories}
use Rattle.bus.specs.Units.{passed}
use Rattle.registers.specs.declared.Registers.{Registers}
use Rattle.registers.specs.Registers.{idles}
use Rattle.machine.specs.declared.Cause.{Cause}
use Rattle.machine.specs.Machine.{on_chip, passed_of}
use Rattle.machine.specs.Interrupts.{pending_of}
use Rattle.boundary.specs.declared.State.{State}
use Rattle.boundary.specs.World.{Lent, with_memories, Terms, world_of, by_instructions, grown_to}
use Rattle.boundary.specs.Boundary.{due, sends_of, run_of}
use Rattle.boundary.specs.Counts.{Fine}

abbrev pub is_due : Option Cause → Bool
is_due None = false
is_due (Some cause) = true

-- the boundary at which a leap ends: the limit is reached, a record is due, a byte is to be sent or an interrupt is accepted
abbrev pub ends_leap : Terms → State → Bool
ends_leap t s = leb t.limit s.cycles.0 || due t.session s || sends_of s || is_due (pending_of s.machine)

-- r is the first of 0, 1, .. at which a test holds, or `most` where it holds at none before that
pub record First (most r : ℕ) (test : ℕ → Bool) : Type 0 where
  pub within : r ≤ most
  pub before : (j : ℕ) → j < r → test j ≡ false
  pub there : (r ≡ most) ⊎ (test r ≡ true)

-- what would be more than a waiting cycle or an instruction, j cycles later: a record, a byte to send or an interrupt
abbrev pub stirs : List ℕ → State → ℕ → Bool
stirs session s j =
    (due_at session (s.cycles.0 + j) s.place || wants_to_send (ticks_serial j s.machine.chip.bus.serial))
    || is_due (pending_of (passed_of j s.machine))

-- after a leap from s the state is r: within a wait, the leap ends there
abbrev pub AfterLeap : Terms → State → State → Type 0
AfterLeap t s r =
    Fine r × (s.cycles.0 ≤ r.cycles.0)
    × ((s.inside && idles s.machine.chip.registers) ≡ true → ends_leap t r ≡ true)
    × ((l : Lent) → run_of t (world_of s l) ≡ run_of t (world_of r l))

-- the state after plain instructions: the registers are c, and on the bus only their cycles have passed
abbrev pub strode_of : State → Registers → ℕ → ℕ → State
strode_of s c cycles instructions =
    grown_to s (on_chip s.machine c (passed cycles s.machine.chip.bus))
    (by_instructions cycles instructions)
    (s.inside && eqb instructions 0)

abbrev pub with_image : Lent → List ℕ → Lent
with_image l image = with_memories l (memories image l.area)

-- the run goes on the same from r and the image `after`, whatever else was lent
abbrev pub Goes : Terms → State → List ℕ → State → List ℕ → Type 0
Goes t s image r after = (l : Lent) → run_of t (world_of s (with_image l image)) ≡ run_of t (world_of r (with_image l after))

abbrev pub Paced : Terms → State → List ℕ → State → List ℕ → Type 0
Paced t s image r after = Fine r × (s.cycles.0 ≤ r.cycles.0) × Goes t s image r after
