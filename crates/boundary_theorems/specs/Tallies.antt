-- What each boundary of a run did, told one by one: the records that it applied, the bytes that it sent and the cycles that it took.
use Rattle.std.specs.Prelude.{ℕ, ◌+◌, ◌-◌, cond, List, [], ◌∷◌, leb, length, Option, None, Some}
use Rattle.turns.specs.Turn.{Turn, more, done, loop_of}
use Rattle.turns.specs.Recorded.{rows_of}
use Rattle.session.specs.Session.{next_at, due_at}
use Rattle.registers.specs.Registers.{idles}
use Rattle.opcodes.specs.declared.Instruction.{Instruction}
use Rattle.machine.specs.declared.Cause.{Cause}
use Rattle.machine.specs.Interrupts.{pending_of}
use Rattle.machine.specs.Steps.{entry_cycles, look_of}
use Rattle.boundary.specs.declared.Watch.{Watch}
use Rattle.boundary.specs.World.{memories_in, Terms, World}
use Rattle.boundary.specs.Boundary.{fed_world, sends_of, sent_world, lacks_row, boundary_of, cycles_left}

pub record Tally : Type 0 where
  pub records : ℕ
  pub bytes : ℕ
  pub cycles : ℕ

abbrev pub tally : ℕ → ℕ → ℕ → Tally
tally records bytes cycles = record { records = records; bytes = bytes; cycles = cycles }

-- Step 2: the records from a place on "with time not above the count", one after the other, and how many they are
pub record Passed : Type 0 where
  pub place : ℕ
  pub records : ℕ

unfoldable pub due_turn : List ℕ → ℕ → Passed → Turn Passed ℕ
due_turn session count p =
    cond (due_at session count p.place)
    (more (record { place = next_at session p.place; records = p.records + 1 }))
    (done p.records)

unfoldable pub due_after : List ℕ → ℕ → Passed → ℕ
due_after session count p =
    loop_of (due_turn session count) (λ (x : Passed). x.records) (λ (x : Passed). length session - x.place) p

abbrev pub due_from : List ℕ → ℕ → ℕ → ℕ
due_from session count place = due_after session count (record { place = place; records = 0 })

-- Steps 4 to 6: the cycles of an entry, of waiting or of an instruction; an entry without room for its row and an undefined opcode take none
abbrev pub look_cycles : Option Instruction → ℕ
look_cycles None = 0
look_cycles (Some i) = i.cycles

abbrev pub cycles_by : Watch → Option Cause → World → ℕ
cycles_by watch (Some cause) w = cond (lacks_row watch w.state w.lent.log) 0 (entry_cycles w.state.machine)
cycles_by watch None w = cond (idles w.state.machine.chip.registers) 1 (look_cycles (look_of (memories_in w.lent) w.state.machine))

abbrev pub cycles_at : Watch → World → ℕ
cycles_at watch w = cycles_by watch (pending_of w.state.machine) w

-- a boundary: nothing at the limit; else the records due, the byte that is to be sent, and the cycles; neither of these where there is no room
unfoldable pub tally_of : Terms → World → Tally
tally_of t w =
    let records = due_from t.session w.state.cycles.0 w.state.place in
    let r = fed_world t.session w in
    cond (leb t.limit w.state.cycles.0)
    (tally 0 0 0)
    (cond (sends_of r.state)
    (cond (leb (length w.lent.output) r.state.sent.0) (tally records 0 0) (tally records 1 (cycles_at t.watch (sent_world r))))
    (tally records 0 (cycles_at t.watch r)))

-- The tallies of a run, one for each boundary, the last included.
unfoldable pub tallies_of : Terms → World → List Tally
tallies_of t w = rows_of (boundary_of t) (cycles_left t) (λ v. tally_of t v ∷ []) w
