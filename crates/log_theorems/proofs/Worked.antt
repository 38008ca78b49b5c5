-- Runs with the wake log worked by the definitions: the rows' bytes, the bytes after them, and the stop with 11. Assumes nothing.
use Prim.Native.Nat.{ℕ}
use mathlib.Core.Path.{◌≡◌, refl}
use mathlib.Core.Bool.{true, false}
use mathlib.Core.List.{List, [], ◌∷◌, ◌++◌, map}
use lib.ListN.{replicate}
use Rattle.turns.specs.Turn.{turns, loop_of}
use Rattle.turns.specs.Recorded.{visits, path_of, rows_of}
use Rattle.opcodes.specs.Opcodes.{decode_of}
use Rattle.arithmetic.specs.Codes.{codes_byte, codes_of}
use Rattle.ports.specs.Ports.{reset_ports}
use Rattle.timer.specs.Timer.{ticks, reset_timer}
use Rattle.serial.specs.Serial.{trcs_of, read_serial, write_serial, idle_line, wants_to_send, sent_of, ticks_serial, reset_serial, serial_request}
use Rattle.bus.specs.Access.{memories, read_of, write_of, store_of}
use Rattle.bus.specs.Units.{passed, reset_bus}
use Rattle.moments.specs.Moment.{to_next, read_at, write_at, stored_at, ended}
use Rattle.chip.specs.Act.{timed, run, read, write, ◌>>=◌}
use Rattle.chip.specs.Instructions.{read2, push, push2, stack_all, vectored, enter}
use Rattle.session.specs.Session.{length_at, kind_at, time_at, payload_at, next_at, event_of, due_at}
use Rattle.numbers.specs.Numbers.{little_endian}
use Rattle.machine.specs.declared.Machine.{Machine}
use Rattle.machine.specs.Machine.{reset_act, reset_of}
use Rattle.machine.specs.Interrupts.{pending_of}
use Rattle.machine.specs.Events.{applied_of, on_bus}
use Rattle.machine.specs.Steps.{entered_of, look_of, step_of}
use Rattle.machine.proofs.Worked.{Row, ◌is◌, found, meant}
use Rattle.wake_log.specs.Log.{with_row}
use Rattle.boundary.specs.World.{lending, Terms, watching, terms, Ended}
use Rattle.boundary.specs.Boundary.{record_taken, record_turn, records_of, sent_state, logged_of, entered_world, waited_state, act_of, send_of, boundary_of, run_of}
use Rattle.boundary.specs.Start.{start_world, ran_of}
use Rattle.boundary_theorems.proofs.Worked.{start, blank, irq1_at, told}
use Rattle.log_theorems.specs.Wakes.{wakes_at, wakes_of, rows_bytes}

-- an NMI edge at a time
abbrev nmi_at : ℕ → List ℕ
nmi_at time = 6 ∷ 0 ∷ 4 ∷ 0 ∷ time ∷ 0 ∷ 0 ∷ 0 ∷ []

-- it waits, with TE and TIE set and the byte 41 to be sent
abbrev asker : Machine
asker = on_bus (start true) (write_of 0x13 0x41 (read_of (memories [] []) 0x11 (write_of 0x11 0x06 (start true).chip.bus)).next)

-- a run with the log, so many cycles after a first one, with room for a byte of output
abbrev asked : List ℕ → ℕ → ℕ → Terms
asked session n since = watching session n (record { log = true; since = record { 0 = since } })

-- an NMI and IRQ1 low where it starts
abbrev both : Terms
both = asked (irq1_at 0 ++ nmi_at 0) 4 0

abbrev ran : Terms → Machine → List ℕ → Ended
ran t m log = ran_of t m (lending blank [] (7 ∷ []) log)

abbrev log_of : Ended → List ℕ
log_of e = e.world.lent.log

abbrev pub table : List Row
table =
    (log_of (ran both (start true) (replicate 12 9)) is 0 ∷ 0 ∷ 0 ∷ 0 ∷ 0 ∷ 2 ∷ 0 ∷ 0 ∷ 9 ∷ 9 ∷ 9 ∷ 9 ∷ [])  -- NMI, behind it IRQ1; the bytes after the row
    ∷ (told (ran both (start true) (replicate 12 9)) is 0 ∷ 4 ∷ 0 ∷ 1 ∷ 2 ∷ 0 ∷ 0 ∷ 0 ∷ [])
    ∷ (told (ran both (start true) (replicate 7 9)) is 11 ∷ 0 ∷ 0 ∷ 0 ∷ 2 ∷ 0 ∷ 0 ∷ 4 ∷ [])  -- no room: 11, the records applied, nothing entered
    ∷ (log_of (ran both (start true) (replicate 7 9)) is replicate 7 9)
    ∷ (rows_bytes (wakes_of (terms (irq1_at 0 ++ nmi_at 0) 4) (start_world (start true) (lending blank [] [] [])))  -- the same entry, with no log asked for
    is 0 ∷ 0 ∷ 0 ∷ 0 ∷ 0 ∷ 2 ∷ 0 ∷ 0 ∷ [])
    ∷ (log_of (ran (asked (irq1_at 0 ++ nmi_at 12) 24 0) (start false) (replicate 16 9))  -- IRQ1 at 0, and with I set NMI at 12
    is 0 ∷ 0 ∷ 0 ∷ 0 ∷ 1 ∷ 0 ∷ 0 ∷ 0 ∷ 12 ∷ 0 ∷ 0 ∷ 0 ∷ 0 ∷ 0 ∷ 0 ∷ 0 ∷ [])
    ∷ (told (ran (asked (irq1_at 0 ++ nmi_at 12) 24 0) (start false) (replicate 15 9)) is 11 ∷ 12 ∷ 0 ∷ 1 ∷ 2 ∷ 0 ∷ 0 ∷ 0 ∷ [])  -- room for the first alone
    ∷ (log_of (ran (asked (irq1_at 0) 1 1000) asker (replicate 8 9)) is 232 ∷ 3 ∷ 0 ∷ 0 ∷ 1 ∷ 32 ∷ 0 ∷ 0 ∷ [])  -- after 1,000 cycles; TDRE, set in step 3, behind IRQ1
    ∷ []

pub worked : map found table ≡ map meant table
unfolding turns loop_of decode_of codes_byte codes_of reset_ports ticks reset_timer trcs_of read_serial write_serial idle_line wants_to_send sent_of ticks_serial
    reset_serial serial_request read_of write_of store_of passed reset_bus to_next read_at write_at stored_at ended timed run read write ◌>>=◌ read2 push push2 stack_all
    vectored enter length_at kind_at
    time_at payload_at next_at event_of due_at little_endian reset_act reset_of pending_of applied_of entered_of look_of step_of with_row record_taken record_turn
    records_of sent_state logged_of entered_world waited_state act_of send_of boundary_of run_of visits path_of rows_of wakes_at wakes_of
worked = refl
