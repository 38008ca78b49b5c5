-- 01's benchmarks for the definitions, all of its rows as one table, STAA $09 as 02 replaces it, by steps, events and cycles of whole machines; and examples
-- of entries and steps. Assumes nothing.
use Rattle.std.specs.Prelude.{Option, None, Some}
use Prim.Native.Nat.{ℕ}
use mathlib.Core.Path.{◌≡◌, refl}
use mathlib.Core.Bool.{Bool, true, false, xor}
use mathlib.Core.List.{List, [], ◌∷◌, map}
use lib.ListN.{drop}
use Rattle.tables.proofs.Rows.{from}
use Rattle.bits.specs.Words.{paired}
use Rattle.opcodes.specs.Opcodes.{decode_of}
use Rattle.arithmetic.specs.Codes.{codes_byte, codes_of}
use Rattle.arithmetic.specs.Results.{moved_of, sub16_of, monadic_of, daa_of, mul_of}
use Rattle.registers.specs.declared.Registers.{Registers}
use Rattle.ports.specs.Ports.{read_port, read_ports, reset_ports}
use Rattle.timer.specs.Fields.{with_counter, with_compare}
use Rattle.timer.specs.Timer.{tcsr_of, read_timer, write_timer, ticks, reset_timer}
use Rattle.serial.specs.Serial.{trcs_of, write_serial, received_byte, ticks_serial, reset_serial}
use Rattle.bus.specs.Access.{Memories, memories, with_timer, read_of, write_of, store_of}
use Rattle.bus.specs.Units.{passed, reset_bus}
use Rattle.timing.specs.Table.{access_cycles}
use Rattle.moments.specs.Moment.{to_next, read_at, write_at, stored_at, ended}
use Rattle.chip.specs.Act.{timed, run, read, write, ◌>>=◌}
use Rattle.chip.specs.Instructions.{read2, operand, monadic, sta, wide, push, push2, stack_all, vectored, enter, operate, execute}
use Rattle.session.specs.declared.Event.TheVariants.{Received}
use Rattle.opcodes.specs.declared.Instruction.{Instruction}
use Rattle.machine.specs.declared.Machine.{Machine}
use Rattle.machine.specs.declared.Cause.TheVariants.{Irq1}
use Rattle.machine.specs.Machine.{on_chip, passed_of, reset_act, reset_of, cold}
use Rattle.machine.specs.Events.{applied_of, on_bus}
use Rattle.machine.specs.Steps.{Stepped, entered_of, look_of, step_of}
use Rattle.machine.proofs.Reset.{vector_read}

-- a machine after reset, all memory writable; the image's bytes past its end are 0
abbrev pub start : Machine
start = reset_of (memories [] []) (cold 65536)

-- what is told of the step that a look says; nothing where it says that there is none
abbrev pub told : (Stepped → List ℕ) → Option Instruction → Memories → Machine → List ℕ
told f (Some i) memory m = f (step_of i memory m)
told f None memory m = []

-- one step of the code at $0004 with the byte of the codes, A, B and X given
abbrev stepped : (Stepped → List ℕ) → ℕ → ℕ → ℕ → ℕ → List ℕ → List ℕ
stepped f before a b x code =
    let memory = memories (0 ∷ 0 ∷ 0 ∷ 0 ∷ code) [] in
    let m = on_chip start (record { a = a; b = b; x = x; sp = 0; pc = 4; codes = codes_of before; waiting = false }) start.chip.bus in
    told f (look_of memory m) memory m

-- The codes before: what is to set a code starts with all clear, what is to clear one with all set. DAA's "H and C 0" is 0xDE.
abbrev clear : ℕ
clear = 0xC0

abbrev set : ℕ
set = 0xFF

-- what a step leaves
abbrev pub registers : Stepped → Registers
registers s = s.machine.chip.registers

abbrev codes : Stepped → ℕ
codes s = codes_byte (registers s).codes

abbrev pub accumulator_a : Stepped → ℕ
accumulator_a s = (registers s).a

abbrev pub double : Stepped → ℕ
double s = paired (registers s).a (registers s).b

-- counter and TCSR after k cycles of a counter and a compare register
abbrev counted : ℕ → ℕ → ℕ → List ℕ
counted counter compare k =
    let t = (passed_of k (on_bus start (with_timer start.chip.bus (with_counter counter (with_compare compare start.chip.bus.timer))))).chip.bus.timer in
    t.counter ∷ tcsr_of t ∷ []

-- with RE set
abbrev receiving : Machine
receiving = on_bus start (write_of 0x11 0x08 start.chip.bus)

-- the stored byte and TRCS
abbrev stored : Machine → List ℕ
stored m = m.chip.bus.serial.received ∷ trcs_of m.chip.bus.serial ∷ []

-- an IRQ1 entry with the stack at $0087, all registers and codes told apart: its cycles, PC, SP and codes, and the image from $81 to $87
abbrev entered : Bool → List ℕ
entered waiting =
    let s =
    entered_of Irq1 (memories (from (λ (at : ℕ). 0) 0 0x88) [])
    (on_chip start (record { a = 0x0A; b = 0x0B; x = 0x1234; sp = 0x87; pc = 0x5678; codes = codes_of 0xC5; waiting = waiting }) start.chip.bus) in
    s.cycles ∷ (registers s).pc ∷ (registers s).sp ∷ codes s ∷ drop 0x81 s.memory.image

-- an example, and what it is to be
infix 10 ◌is◌
pub data Row : Type 0 where
  ◌is◌ : List ℕ → List ℕ → Row

abbrev pub found : Row → List ℕ
found (a is m) = a

abbrev pub meant : Row → List ℕ
meant (a is m) = m

abbrev one : (Stepped → ℕ) → Stepped → List ℕ
one f s = f s ∷ []

abbrev two : (Stepped → ℕ) → Stepped → List ℕ
two f s = f s ∷ codes s ∷ []

abbrev pub table : List Row
table =
    (stepped (two double) set 0xFF 0xFF 0 (0x3D ∷ []) is 0xFE01 ∷ 0xFE ∷ [])  -- MUL FF by FF gives FE01, C 0
    ∷ (stepped (two accumulator_a) 0xDE 0x9A 0 0 (0x19 ∷ []) is 0x00 ∷ 0xD5 ∷ [])  -- DAA of 9A, H and C 0, gives 00, C and Z 1
    ∷ (stepped (two accumulator_a) clear 0x80 0 0 (0x40 ∷ []) is 0x80 ∷ 0xCB ∷ [])  -- NEGA 80 gives 80, V and C 1
    ∷ (stepped (two accumulator_a) set 0x00 0 0 (0x40 ∷ []) is 0x00 ∷ 0xF4 ∷ [])  -- NEGA 00, C 0
    ∷ (stepped (two accumulator_a) clear 0x7F 0 0 (0x4C ∷ []) is 0x80 ∷ 0xCA ∷ [])  -- INCA 7F gives 80, V 1
    ∷ (stepped (one codes) clear 0 0 0x8000 (0x8C ∷ 0x00 ∷ 0x01 ∷ []) is 0xC2 ∷ [])  -- CPX 8000 against 0001: V 1,
    ∷ (stepped (one codes) set 0 0 0x8000 (0x8C ∷ 0x00 ∷ 0x01 ∷ []) is 0xF2 ∷ [])  -- .. C 0, N 0
    ∷ (stepped (one (λ s. (registers s).x)) clear 0 0x20 0xFFF0 (0x3A ∷ []) is 0x0010 ∷ [])  -- ABX FFF0 with B 20 gives 0010
    ∷ (stepped (one (λ s. (registers s).sp)) clear 0 0 0 (0x35 ∷ []) is 0xFFFF ∷ [])  -- TXS with X 0 gives FFFF
    ∷ (counted 0xFFFC 0 3 is 0xFFFF ∷ 0x20 ∷ [])  -- Counter FFFC after 3 cycles sets TOF
    ∷ (counted 0xFFFF 0x0100 3 is 0x0002 ∷ 0x00 ∷ [])  -- FFFF after 3 cycles is 0002, TOF not set
    ∷ (counted 0x0010 0x0010 2 is 0x0012 ∷ 0x00 ∷ [])  -- Counter and compare both 0010, 2 cycles: no OCF
    ∷ (stepped (one (λ s. s.machine.chip.bus.timer.counter)) clear 0 0 0 (0x97 ∷ 0x09 ∷ []) is 0xFFF9 ∷ [])  -- STAA $09: counter FFF9 afterwards: written in cycle 3 of 3 (02, request 5)
    ∷ (stored (applied_of (Received 0x42 true) (memories [] []) (applied_of (Received 0x41 true) (memories [] []) receiving)) is 0x41 ∷ 0xE8 ∷ [])  -- bytes 41, 42: stored 41, TRCS E8
    ∷ (stored (applied_of (Received 0x41 false) (memories [] []) receiving) is 0x00 ∷ 0x68 ∷ [])  -- a bad stop alone: 68
    ∷ ((read_of (memories [] []) 0x03 start.chip.bus).value ∷ [] is 0x5A ∷ [])  -- Power-on read of $03: 5A
    ∷ (entered false is 12 ∷ 0 ∷ 0x80 ∷ 0xD5 ∷ 0xC5 ∷ 0x0B ∷ 0x0A ∷ 0x12 ∷ 0x34 ∷ 0x56 ∷ 0x78 ∷ [])  -- stacked downwards: PC low, PC high, X low, X high, A, B, codes
    ∷ (entered true is 4 ∷ 0 ∷ 0x87 ∷ 0xD5 ∷ 0 ∷ 0 ∷ 0 ∷ 0 ∷ 0 ∷ 0 ∷ 0 ∷ [])  -- out of a wait nothing is stacked
    ∷ []

pub worked : map found table ≡ map meant table
unfolding reset_of reset_act look_of step_of entered_of applied_of decode_of codes_byte codes_of moved_of sub16_of monadic_of daa_of mul_of xor
    read_port read_ports reset_ports read_timer write_timer ticks reset_timer trcs_of write_serial received_byte ticks_serial reset_serial read_of write_of store_of passed reset_bus
    access_cycles timed to_next read_at write_at stored_at ended run read write ◌>>=◌ read2 operand monadic sta wide push push2 stack_all vectored enter operate execute
worked = refl

-- "Power-on read of $03: 5A", whatever the image and R
pub power_read : (memory : Memories) (r : ℕ) → (read_of memory 0x03 (reset_of memory (cold r)).chip.bus).value ≡ 0x5A
unfolding reset_of reset_bus reset_ports reset_timer read_of read_ports read_port
power_read memory r = rw (vector_read memory (reset_bus (cold r).chip.bus))
