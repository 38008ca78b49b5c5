-- Runs worked by the definitions: where they stop, their counts, what they leave, their leaps. Assumes nothing.
use Prim.Native.Nat.{ℕ}
use mathlib.Core.Path.{◌≡◌, refl}
use mathlib.Core.Bool.{Bool, true, false}
use mathlib.Core.List.{List, [], ◌∷◌, ◌++◌, map}
use lib.ListN.{length, get_or, replicate}
use Rattle.turns.specs.Turn.{turns, loop_of}
use Rattle.turns.specs.Recorded.{visits, path_of, rows_of}
use Rattle.opcodes.specs.Opcodes.{decode_of}
use Rattle.arithmetic.specs.Codes.{codes_byte, codes_of}
use Rattle.arithmetic.specs.Results.{moved_of, dyadic_of}
use Rattle.ports.specs.Ports.{reset_ports}
use Rattle.timer.specs.Timer.{ticks, reset_timer}
use Rattle.serial.specs.Serial.{trcs_of, read_serial, write_serial, idle_line, wants_to_send, sent_of, ticks_serial, reset_serial, serial_request}
use Rattle.bus.specs.Access.{memories, read_of, write_of, store_of}
use Rattle.bus.specs.Units.{passed, reset_bus}
use Rattle.timing.specs.Table.{access_cycles}
use Rattle.moments.specs.Moment.{to_next, read_at, write_at, stored_at, ended}
use Rattle.chip.specs.Act.{timed, run, read, write, ◌>>=◌}
use Rattle.chip.specs.Instructions.{read2, operand, dyadic, sta, push, push2, stack_all, vectored, wai, enter, operate, execute}
use Rattle.session.specs.Session.{length_at, kind_at, time_at, payload_at, next_at, event_of, due_at}
use Rattle.machine.specs.declared.Machine.{Machine}
use Rattle.machine.specs.Machine.{on_chip, reset_act, reset_of, cold}
use Rattle.machine.specs.Interrupts.{pending_of}
use Rattle.machine.specs.Events.{applied_of, on_bus}
use Rattle.machine.specs.Steps.{entered_of, look_of, step_of}
use Rattle.machine.proofs.Worked.{Row, ◌is◌, found, meant}
use Rattle.boundary.specs.World.{lent, terms, Ended, stop_number}
use Rattle.boundary.specs.Boundary.{record_taken, record_turn, records_of, sent_state, entered_world, waited_state, act_of, send_of, boundary_of, run_of}
use Rattle.boundary.specs.Start.{start_world, ran_of}
use Rattle.boundary_theorems.specs.Trace.{mark_of, trace_of, groups}

-- a machine after reset with PC at $0004, the stack at $0087 and I clear, waiting or not
abbrev pub start : Bool → Machine
start waiting =
    let m = reset_of (memories [] []) (cold 65536) in
    on_chip m (record { a = 0; b = 0; x = 0; sp = 0x87; pc = 4; codes = codes_of 0xC0; waiting = waiting }) m.chip.bus

-- it waits, with TE set and the byte 41 to be sent
abbrev sender : Machine
sender = on_bus (start true) (write_of 0x13 0x41 (read_of (memories [] []) 0x11 (write_of 0x11 0x02 (start true).chip.bus)).next)

-- four bytes of code at $0004, and zeros up to $0087
abbrev image : List ℕ → List ℕ
image code = 0 ∷ 0 ∷ 0 ∷ 0 ∷ (code ++ replicate 0x80 0)

abbrev pub blank : List ℕ
blank = image (0 ∷ 0 ∷ 0 ∷ 0 ∷ [])

-- an idle line, and IRQ1 low, at a time
abbrev idle_at : ℕ → List ℕ
idle_at time = 6 ∷ 0 ∷ 6 ∷ 0 ∷ time ∷ 0 ∷ 0 ∷ 0 ∷ []

abbrev pub irq1_at : ℕ → List ℕ
irq1_at time = 7 ∷ 0 ∷ 3 ∷ 0 ∷ time ∷ 0 ∷ 0 ∷ 0 ∷ 0 ∷ []

-- the reply, cycles, instructions, entries, records used, bytes sent, leaps and PC
abbrev pub told : Ended → List ℕ
told e =
    let s = e.world.state in
    stop_number e.stop ∷ s.cycles.0 ∷ s.instructions.0 ∷ s.entries.0 ∷ s.used.0 ∷ s.sent.0 ∷ s.leaps.0 ∷ s.machine.chip.registers.pc ∷ []

-- and A, the codes and the byte at $80
abbrev told_more : Ended → List ℕ
told_more e =
    told e ++ e.world.state.machine.chip.registers.a ∷ codes_byte e.world.state.machine.chip.registers.codes ∷ get_or e.world.lent.image 0x80 0 ∷ []

-- the run of a machine with a session, a limit, and the image and the output that it is lent; no byte of an area is met
abbrev ran : List ℕ → ℕ → Machine → List ℕ → List ℕ → Ended
ran session n m image output = ran_of (terms session n) m (lent image [] output)

-- with bit 6 of $14 clear, R as given and an area of two bytes; what is told are the image's byte at $80 and the area
abbrev shut : ℕ → Machine
shut r = let b = write_of 0x14 0x80 (start false).chip.bus in on_bus (start false) (record { ports = b.ports; timer = b.timer; serial = b.serial; rame = b.rame; standby = b.standby; r = r })

abbrev ran_shut : ℕ → List ℕ → List ℕ
ran_shut r code = let l = (ran_of (terms [] 5) (shut r) (lent (image code) (1 ∷ 2 ∷ []) [])).world.lent in get_or l.image 0x80 0 ∷ l.area

abbrev pub table : List Row
table =
    (told (ran (idle_at 0) 0 (start false) blank []) is 0 ∷ 0 ∷ 0 ∷ 0 ∷ 0 ∷ 0 ∷ 0 ∷ 4 ∷ [])  -- N 0: reply 0, nothing applied
    ∷ (told (ran (idle_at 0) 5 (start false) blank []) is 8 ∷ 0 ∷ 0 ∷ 0 ∷ 1 ∷ 0 ∷ 0 ∷ 4 ∷ [])  -- an undefined opcode: the record stays applied
    ∷ (told_more (ran [] 5 (start false) (image (0x86 ∷ 0x05 ∷ 0x97 ∷ 0x80 ∷ [])) []) is 0 ∷ 5 ∷ 2 ∷ 0 ∷ 0 ∷ 0 ∷ 0 ∷ 8 ∷ 5 ∷ 0xC0 ∷ 5 ∷ [])  -- the bench's LDAA and STAA
    ∷ (told (ran (irq1_at 12) 16 (start false) (image (0x3E ∷ 0 ∷ 0 ∷ 0 ∷ [])) []) is 0 ∷ 16 ∷ 1 ∷ 1 ∷ 1 ∷ 0 ∷ 1 ∷ 0 ∷ [])  -- WAI, three waiting cycles, an entry of four
    ∷ (told (ran (idle_at 3) 6 (start true) blank []) is 0 ∷ 6 ∷ 0 ∷ 0 ∷ 1 ∷ 0 ∷ 2 ∷ 4 ∷ [])  -- a record without effect ends a leap
    ∷ (map length (groups (trace_of (terms (idle_at 3) 6) (start_world (start true) (lent blank [] [])))) is 3 ∷ 3 ∷ [])  -- the two stretches
    ∷ (told (ran [] 2 sender blank []) is 9 ∷ 0 ∷ 0 ∷ 0 ∷ 0 ∷ 0 ∷ 0 ∷ 4 ∷ [])  -- no room
    ∷ (told (ran [] 2 sender blank (7 ∷ 7 ∷ [])) is 0 ∷ 2 ∷ 0 ∷ 0 ∷ 0 ∷ 1 ∷ 1 ∷ 4 ∷ [])  -- a byte sent where a wait begins
    ∷ ((ran [] 2 sender blank (7 ∷ 7 ∷ [])).world.lent.output is 0x41 ∷ 7 ∷ [])  -- and the output after it unchanged
    ∷ (ran_shut 65536 (0x86 ∷ 0x05 ∷ 0x97 ∷ 0x80 ∷ []) is 0 ∷ 5 ∷ 2 ∷ [])  -- bit 6 clear: STAA $80 goes to the area, and the RAM keeps its byte
    ∷ (ran_shut 0x81 (0x86 ∷ 0x05 ∷ 0x97 ∷ 0x81 ∷ []) is 0 ∷ 1 ∷ 2 ∷ [])  -- it follows R: at R and above it is ignored
    ∷ []

pub worked : map found table ≡ map meant table
unfolding turns loop_of decode_of codes_byte codes_of moved_of dyadic_of reset_ports ticks reset_timer trcs_of read_serial write_serial idle_line wants_to_send
    sent_of ticks_serial reset_serial serial_request read_of write_of store_of passed reset_bus access_cycles to_next read_at write_at stored_at ended timed run read write
    ◌>>=◌ read2 operand dyadic sta push push2
    stack_all vectored wai enter operate execute length_at kind_at time_at payload_at next_at event_of due_at reset_act reset_of pending_of applied_of
    entered_of look_of step_of record_taken record_turn records_of sent_state entered_world waited_state act_of send_of boundary_of run_of mark_of visits
    path_of rows_of trace_of
worked = refl
