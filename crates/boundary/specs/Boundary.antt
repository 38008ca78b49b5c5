-- One boundary of a run, in 01's six steps and their order, with 02's wake log, and the run as boundaries until one stops it.
use Rattle.std.specs.Prelude.{ℕ, ◌+◌, ◌-◌, ◌%◌, ◌^◌, Bool, true, false, cond, not, ◌&&◌, List, length, nat_le, slice_set, Option, Some, None}
use Rattle.turns.specs.Turn.{Turn, more, done, loop_of}
use Rattle.session.specs.Session.{event_at, next_at, due_at}
use Rattle.serial.specs.Serial.{wants_to_send}
use Rattle.registers.specs.Registers.{idles}
use Rattle.bus.specs.Access.{Memories}
use Rattle.bus.specs.Units.{byte_sent}
use Rattle.opcodes.specs.declared.Instruction.{Instruction}
use Rattle.machine.specs.declared.Cause.{Cause}
use Rattle.machine.specs.Machine.{passed_of}
use Rattle.machine.specs.Interrupts.{pending_of, cause_number, behind_of}
use Rattle.machine.specs.Events.{applied_of, on_bus}
use Rattle.machine.specs.Steps.{Stepped, entered_of, look_of, step_of}
use Rattle.wake_log.specs.declared.Row.{Row}
use Rattle.wake_log.specs.Log.{fits_row, with_row}
use Rattle.boundary.specs.declared.State.{State}
use Rattle.boundary.specs.declared.Stop.{Stop}
use Rattle.boundary.specs.declared.Stop.TheVariants.{Limit, Undefined, Full, LogFull}
use Rattle.boundary.specs.declared.Watch.{Watch}
use Rattle.boundary.specs.declared.Turned.{Turned}
use Rattle.boundary.specs.World.{Lent, memories_in, with_memories, with_output, with_log, Terms, World, world_of, Ended, ended_of}
use Rattle.boundary.specs.World.{by_entry, by_waiting, by_instructions, grown_to}

-- Step 2: "Apply every unused record with time not above the count, in file order."
unfoldable pub record_taken : List ℕ → Memories → State → State
record_taken session memory s =
    record {
      machine = applied_of (event_at session s.place) memory s.machine;
      place = next_at session s.place;
      used = record { 0 = s.used.0 + 1 };
      cycles = s.cycles;
      instructions = s.instructions;
      entries = s.entries;
      sent = s.sent;
      leaps = s.leaps;
      inside = false;
    }

abbrev pub due : List ℕ → State → Bool
due session s = due_at session s.cycles.0 s.place

unfoldable pub record_turn : List ℕ → Memories → State → Turn State State
record_turn session memory s = cond (due session s) (more (record_taken session memory s)) (done s)

unfoldable pub records_of : List ℕ → Memories → State → State
records_of session memory s =
    loop_of (record_turn session memory) (λ (x : State). x) (λ (x : State). length session - x.place) s

abbrev pub fed_world : List ℕ → World → World
fed_world session w = world_of (records_of session (memories_in w.lent) w.state) w.lent

-- Step 3: "If TE is set, TDRE clear and busy 0 .. the byte is sent, TDRE set, busy becomes ten bit times"
abbrev pub sends_of : State → Bool
sends_of s = wants_to_send s.machine.chip.bus.serial

unfoldable pub sent_state : State → State
sent_state s =
    record {
      machine = on_bus s.machine (byte_sent s.machine.chip.bus);
      place = s.place;
      used = s.used;
      cycles = s.cycles;
      instructions = s.instructions;
      entries = s.entries;
      sent = record { 0 = s.sent.0 + 1 };
      leaps = s.leaps;
      inside = false;
    }

abbrev pub sent_output : State → List ℕ → List ℕ
sent_output s output = slice_set output s.sent.0 s.machine.chip.bus.serial.transmit

abbrev pub sent_world : World → World
sent_world w = world_of (sent_state w.state) (with_output w.lent (sent_output w.state w.lent.output))

-- 02's row of an entry: "the cycle, the cause, and which lower causes were waiting behind it". The cycle is the count, and what had passed before the run.
abbrev pub row_of : Watch → Cause → State → Row
row_of watch cause s =
    record {
      cycle = (watch.since.0 + s.cycles.0) % 2 ^ 32;
      cause = cause_number cause;
      behind = behind_of cause s.machine;
    }

-- "no room for a log row": a row for each entry before is in the log
abbrev pub lacks_row : Watch → State → List ℕ → Bool
lacks_row watch s log = watch.log && not (fits_row log s.entries.0)

unfoldable pub logged_of : Watch → Cause → State → List ℕ → List ℕ
logged_of watch cause s log = cond watch.log (with_row (row_of watch cause s) s.entries.0 log) log

abbrev pub logged_world : Watch → Cause → World → World
logged_world watch cause w = world_of w.state (with_log w.lent (logged_of watch cause w.state w.lent.log))

-- Step 4: "Accept an interrupt"
unfoldable pub entered_world : Cause → World → World
entered_world cause w =
    let r = entered_of cause (memories_in w.lent) w.state.machine in
    world_of (grown_to w.state r.machine (by_entry r.cycles) false) (with_memories w.lent r.memory)

-- Step 5: "Else if waiting: one cycle." It opens a leap unless the boundary before was a waiting cycle and no record and no sending stood between.
unfoldable pub waited_state : State → State
waited_state s = grown_to s (passed_of 1 s.machine) (by_waiting (cond s.inside 0 1)) true

abbrev pub waited_world : World → World
waited_world w = world_of (waited_state w.state) w.lent

-- Step 6: "Else fetch: undefined gives 8; otherwise execute."
abbrev pub stepped_world : Stepped → World → World
stepped_world r w = world_of (grown_to w.state r.machine (by_instructions r.cycles 1) false) (with_memories w.lent r.memory)

abbrev pub executed_of : Option Instruction → World → Turn World Ended
executed_of None w = done (ended_of Undefined w)
executed_of (Some i) w = more (stepped_world (step_of i (memories_in w.lent) w.state.machine) w)

-- steps 4 to 6: "11 .. given at the boundary before the entry"
abbrev pub on_pending : Watch → Option Cause → World → Turn World Ended
on_pending watch (Some cause) w =
    cond (lacks_row watch w.state w.lent.log) (done (ended_of LogFull w)) (more (entered_world cause (logged_world watch cause w)))
on_pending watch None w =
    cond (idles w.state.machine.chip.registers)
    (more (waited_world w))
    (executed_of (look_of (memories_in w.lent) w.state.machine) w)

unfoldable pub act_of : Watch → World → Turn World Ended
act_of watch w = on_pending watch (pending_of w.state.machine) w

-- steps 3 to 6: "no room gives 9"
unfoldable pub send_of : Watch → World → Turn World Ended
send_of watch w =
    cond (sends_of w.state)
    (cond (nat_le (length w.lent.output) w.state.sent.0) (done (ended_of Full w)) (act_of watch (sent_world w)))
    (act_of watch w)

-- steps 1 to 6: "Count at least N: reply 0."
unfoldable pub boundary_of : Terms → World → Turn World Ended
boundary_of t w =
    cond (nat_le t.limit w.state.cycles.0)
    (done (ended_of Limit w))
    (send_of t.watch (fed_world t.session w))

-- the run: boundaries until one stops it; each that goes on passes a cycle, so that N less the count falls
abbrev pub cycles_left : Terms → World → ℕ
cycles_left t w = t.limit - w.state.cycles.0

unfoldable pub run_of : Terms → World → Ended
run_of t w = loop_of (boundary_of t) (λ (x : World). ended_of Limit x) (cycles_left t) w

-- how the code tells a turn
abbrev pub stop_turn : Option Stop → World → Turn World Ended
stop_turn None w = more w
stop_turn (Some k) w = done (ended_of k w)

abbrev pub turned : Turned → Lent → Turn World Ended
turned r l = stop_turn r.stop (world_of r.state l)
