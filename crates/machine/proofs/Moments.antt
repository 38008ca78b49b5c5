-- Accesses at their own moment, worked by hand from 004's table 12: 02's "Every memory read and write is now told which cycle of its instruction
-- it stands in .. and sees timer and flags as of that cycle", by steps and entries of whole machines. Assumes nothing.
use Prim.Native.Nat.{ℕ}
use mathlib.Core.Path.{◌≡◌, refl}
use mathlib.Core.Bool.{Bool, true, false, cond}
use mathlib.Core.List.{List, [], ◌∷◌, map}
use Rattle.bits.specs.Words.{high, low}
use Rattle.opcodes.specs.Opcodes.{decode_of}
use Rattle.arithmetic.specs.Codes.{codes_of}
use Rattle.arithmetic.specs.Results.{dyadic_of}
use Rattle.ports.specs.Ports.{read_port, read_ports, write_ports, reset_ports}
use Rattle.timer.specs.declared.Timer.{Timer}
use Rattle.timer.specs.Fields.{with_ocf, with_counter, with_compare}
use Rattle.timer.specs.Timer.{tcsr_of, read_timer, write_timer, ticks, reset_timer}
use Rattle.bus.specs.declared.Bus.{Bus}
use Rattle.bus.specs.Access.{memories, with_timer, read_of, write_of}
use Rattle.bus.specs.Units.{passed, reset_bus}
use Rattle.timing.specs.Table.{access_cycles}
use Rattle.moments.specs.Moment.{to_next, read_at, write_at, ended}
use Rattle.chip.specs.Act.{timed, run, read, write, ◌>>=◌}
use Rattle.chip.specs.Instructions.{read2, write2, operand, dyadic, monadic, sta, wide, wide_store, push, push2, pull, pull2, psh, pul, pshx, pulx}
use Rattle.chip.specs.Instructions.{jsr, rts, stack_all, rti, vectored, swi, wai, enter, operate, execute}
use Rattle.machine.specs.declared.Machine.{Machine}
use Rattle.machine.specs.declared.Cause.TheVariants.{Irq1}
use Rattle.machine.specs.Machine.{on_chip, reset_act, reset_of}
use Rattle.machine.specs.Steps.{Stepped, entered_of, look_of, step_of}
use Rattle.machine.proofs.Worked.{start, told, registers, accumulator_a, double, Row, ◌is◌, found, meant}

-- the units after reset, with a counter and a compare register;
abbrev counting : ℕ → ℕ → Bus
counting counter compare = with_timer start.chip.bus (with_counter counter (with_compare compare start.chip.bus.timer))

-- .. OCF set and armed;
abbrev armed : Bus → Bus
armed b = with_timer b (with_ocf (record { set = true; armed = true }) b.timer)

-- .. OLVL set, and the direction of port 2 bit 1, which then reads the output level
abbrev levelled : Bus → Bus
levelled b = write_of 0x01 0x02 (write_of 0x08 0x01 b)

abbrev machine : Bus → ℕ → ℕ → ℕ → Bool → Machine
machine b d x sp waiting = on_chip start (record { a = high d; b = low d; x = x; sp = sp; pc = 4; codes = codes_of 0xC0; waiting = waiting }) b

-- one step of the code at $0004 with D, X and SP given
abbrev stepped : (Stepped → List ℕ) → Bus → ℕ → ℕ → ℕ → List ℕ → List ℕ
stepped f b d x sp code =
    let memory = memories (0 ∷ 0 ∷ 0 ∷ 0 ∷ code) [] in
    let m = machine b d x sp false in
    told f (look_of memory m) memory m

abbrev timer : Stepped → Timer
timer s = s.machine.chip.bus.timer

-- counter and TCSR, which a step with X and SP leaves
abbrev left : ℕ → ℕ → List ℕ → List ℕ
left x sp code = stepped (λ s. (timer s).counter ∷ tcsr_of (timer s) ∷ []) (counting 0x2000 0x1000) 0 x sp code

-- an IRQ1 entry with the stack at $0009: its cycles, SP, counter and TCSR
abbrev entered : Bool → List ℕ
entered waiting =
    let s = entered_of Irq1 (memories [] []) (machine (counting 0x2000 0x1000) 0 0 9 waiting) in
    s.cycles ∷ (registers s).sp ∷ (timer s).counter ∷ tcsr_of (timer s) ∷ []

-- A write of $09 in cycle k of n: FFF8, and n - k + 1 cycles after it
abbrev pub written : List Row
written =
    (left 7 0 (0xA7 ∷ 0x02 ∷ []) is 0xFFF9 ∷ 0x00 ∷ [])  -- STAA 2,X: 4 of 4
    ∷ (left 0 0 (0xB7 ∷ 0x00 ∷ 0x09 ∷ []) is 0xFFF9 ∷ 0x00 ∷ [])  -- STAA $0009: 4 of 4
    ∷ (left 0 0 (0xDF ∷ 0x08 ∷ []) is 0xFFF9 ∷ 0x00 ∷ [])  -- STX $08: its low byte, 4 of 4
    ∷ (left 0 0 (0x7F ∷ 0x00 ∷ 0x09 ∷ []) is 0xFFF9 ∷ 0x00 ∷ [])  -- CLR $0009: 6 of 6
    ∷ (left 0 0 (0x7C ∷ 0x00 ∷ 0x09 ∷ []) is 0xFFF9 ∷ 0x00 ∷ [])  -- INC $0009: 6 of 6
    ∷ (left 0 0x09 (0x36 ∷ []) is 0xFFF9 ∷ 0x00 ∷ [])  -- PSHA: 3 of 3
    ∷ (left 0 0x0A (0x3C ∷ []) is 0xFFF9 ∷ 0x00 ∷ [])  -- PSHX: its high byte, 4 of 4
    ∷ (left 0 0x0A (0x8D ∷ 0x00 ∷ []) is 0xFFF9 ∷ 0x00 ∷ [])  -- BSR: the high byte, 6 of 6
    ∷ (left 0 0 (0xDD ∷ 0x09 ∷ []) is 0xFFFA ∷ 0x00 ∷ [])  -- STD $09: its high byte, 3 of 4
    ∷ (left 0 0x09 (0x9D ∷ 0x00 ∷ []) is 0xFFFA ∷ 0x00 ∷ [])  -- JSR direct: the low byte, 4 of 5
    ∷ (left 0 0x09 (0xAD ∷ 0x00 ∷ []) is 0xFFFA ∷ 0x00 ∷ [])  -- JSR indexed: 5 of 6
    ∷ (left 0 0x09 (0xBD ∷ 0x00 ∷ 0x00 ∷ []) is 0xFFFA ∷ 0x00 ∷ [])  -- JSR extended: 5 of 6
    ∷ (left 0 0x09 (0x3C ∷ []) is 0xFFFA ∷ 0x00 ∷ [])  -- PSHX: its low byte, 3 of 4
    ∷ (left 0 0x09 (0x3F ∷ []) is 0x0002 ∷ 0x20 ∷ [])  -- SWI: 3 of 12, and FFFF sets TOF
    ∷ (left 0 0x09 (0x3E ∷ []) is 0xFFFF ∷ 0x20 ∷ [])  -- WAI: 3 of 9
    ∷ (entered false is 12 ∷ 2 ∷ 0x0002 ∷ 0x20 ∷ [])  -- an entry: 3 of 12, as SWI
    ∷ (entered true is 4 ∷ 9 ∷ 0x2004 ∷ 0x00 ∷ [])  -- out of a wait: nothing is stacked, four cycles pass
    ∷ []

-- what a step from a counter reads, and the counter that it leaves
abbrev reads : (Stepped → ℕ) → ℕ → ℕ → ℕ → List ℕ → List ℕ
reads f counter x sp code = stepped (λ s. f s ∷ (timer s).counter ∷ []) (counting counter 0x1000) 0 x sp code

-- A read in cycle k sees the counter after k - 1 cycles
abbrev pub seen : List Row
seen =
    (reads accumulator_a 0x1240 0 0 (0x96 ∷ 0x0A ∷ []) is 0x42 ∷ 0x1243 ∷ [])  -- LDAA $0A: cycle 3
    ∷ (reads accumulator_a 0x1240 0 0 (0xB6 ∷ 0x00 ∷ 0x0A ∷ []) is 0x43 ∷ 0x1244 ∷ [])  -- LDAA $000A: 4
    ∷ (reads accumulator_a 0x1240 8 0 (0xA6 ∷ 0x02 ∷ []) is 0x43 ∷ 0x1244 ∷ [])  -- LDAA 2,X: 4
    ∷ (reads accumulator_a 0x1240 0 0x09 (0x32 ∷ []) is 0x43 ∷ 0x1244 ∷ [])  -- PULA: 4
    ∷ (reads double 0x00FD 0 0 (0xDC ∷ 0x09 ∷ []) is 0x0000 ∷ 0x0101 ∷ [])  -- LDD $09: of 00FF the high byte in 3, of 0100 the low one in 4
    ∷ (reads double 0x00FD 0 0 (0xFC ∷ 0x00 ∷ 0x09 ∷ []) is 0x0101 ∷ 0x0102 ∷ [])  -- LDD $0009: of 0100 in 4, of 0101 in 5
    ∷ (reads (λ s. (registers s).x) 0x00FC 0 0x08 (0x38 ∷ []) is 0x0000 ∷ 0x0101 ∷ [])  -- PULX: of 00FF in 4, of 0100 in 5
    ∷ (reads (λ s. (registers s).pc) 0x00FC 0 0x08 (0x39 ∷ []) is 0x0000 ∷ 0x0101 ∷ [])  -- RTS: the same
    ∷ (reads (λ s. (registers s).pc) 0x12F7 0 0x03 (0x3B ∷ []) is 0x1200 ∷ 0x1301 ∷ [])  -- RTI: its last two, of 12FF in 9, of 1300 in 10
    ∷ []

-- counter and TCSR, and whether OCF is armed, which a step with D leaves
abbrev flags : Bus → ℕ → List ℕ → List ℕ
flags b d code = stepped (λ s. (timer s).counter ∷ tcsr_of (timer s) ∷ cond (timer s).ocf.armed 1 0 ∷ []) b d 0 0 code

-- A and TCSR, and the output level
abbrev level : Bus → ℕ → List ℕ → List ℕ
level b d code = stepped (λ s. accumulator_a s ∷ tcsr_of (timer s) ∷ cond (timer s).level 1 0 ∷ []) b d 0 0 code

-- STD $0B writes $0B in cycle 3 and $0C in cycle 4: two cycles pass on the old compare register, one on new high and old low, one on the new
abbrev std_compare : List ℕ
std_compare = 0xDD ∷ 0x0B ∷ []

-- Flags as of the cycle
abbrev pub flagged : List Row
flagged =
    (flags (counting 0x0010 0xFFFF) 0x0014 std_compare is 0x0014 ∷ 0x40 ∷ 0 ∷ [])  -- the last cycle reaches 0014: OCF set
    ∷ (flags (counting 0x0010 0xFFFF) 0x0013 std_compare is 0x0014 ∷ 0x00 ∷ 0 ∷ [])  -- written where the counter stands: not reached
    ∷ (flags (counting 0x1230 0x5633) 0x1299 std_compare is 0x1234 ∷ 0x40 ∷ 0 ∷ [])  -- new high and old low, 1233, is reached between the writes
    ∷ (flags (counting 0x0010 0x0012) 0x2000 std_compare is 0x0014 ∷ 0x40 ∷ 0 ∷ [])  -- set before the writes: not armed, so it stays
    ∷ (flags (armed (counting 0x0010 0xFFFF)) 0x2000 std_compare is 0x0014 ∷ 0x00 ∷ 0 ∷ [])  -- armed: cleared
    ∷ (flags (armed (counting 0x0010 0x0012)) 0x2000 std_compare is 0x0014 ∷ 0x00 ∷ 0 ∷ [])  -- .. also where it was reached once more before
    ∷ (flags (armed (counting 0x0010 0xFFFF)) 0x0014 std_compare is 0x0014 ∷ 0x40 ∷ 0 ∷ [])  -- cleared in cycle 3 and set again by the last cycle
    ∷ (flags (armed (counting 0x1230 0x5633)) 0x1299 std_compare is 0x1234 ∷ 0x40 ∷ 0 ∷ [])  -- .. or by the one between: the second write finds it not armed
    ∷ (flags (armed (counting 0x0010 0x0013)) 0x0000 (0x97 ∷ 0x0B ∷ []) is 0x0013 ∷ 0x40 ∷ 0 ∷ [])  -- STAA $0B: cleared in 3 of 3, set again by its last cycle
    ∷ (flags (counting 0x0010 0x0012) 0 (0x96 ∷ 0x08 ∷ []) is 0x0013 ∷ 0x40 ∷ 1 ∷ [])  -- LDAA $08 in 3 sees 0012 reached, and arms;
    ∷ (level (counting 0x0010 0x0012) 0 (0x96 ∷ 0x08 ∷ []) is 0x40 ∷ 0x40 ∷ 0 ∷ [])
    ∷ (flags (counting 0x0010 0x0013) 0 (0x96 ∷ 0x08 ∷ []) is 0x0013 ∷ 0x40 ∷ 0 ∷ [])  -- .. but not 0013
    ∷ (level (counting 0x0010 0x0013) 0 (0x96 ∷ 0x08 ∷ []) is 0x00 ∷ 0x40 ∷ 0 ∷ [])
    ∷ (level (counting 0x0010 0x0012) 0x0100 (0x97 ∷ 0x08 ∷ []) is 0x01 ∷ 0x41 ∷ 0 ∷ [])  -- OLVL written in 3: too late for a match at 0012,
    ∷ (level (counting 0x0010 0x0013) 0x0100 (0x97 ∷ 0x08 ∷ []) is 0x01 ∷ 0x41 ∷ 1 ∷ [])  -- .. in time for one at 0013
    ∷ (level (levelled (counting 0x0010 0x0012)) 0 (0x96 ∷ 0x03 ∷ []) is 0x5A ∷ 0x41 ∷ 1 ∷ [])  -- LDAA $03 in 3 reads the level of 0012,
    ∷ (level (levelled (counting 0x0010 0x0013)) 0 (0x96 ∷ 0x03 ∷ []) is 0x58 ∷ 0x41 ∷ 1 ∷ [])  -- .. not that of 0013
    ∷ []

pub written_so : map found written ≡ map meant written
unfolding reset_of reset_act look_of step_of entered_of decode_of
    read_timer write_timer ticks reset_timer read_of write_of passed reset_bus
    access_cycles timed to_next read_at write_at ended run read write ◌>>=◌ read2 write2 operand monadic sta wide_store push push2 psh pshx jsr stack_all vectored swi wai enter operate execute
written_so = refl

pub seen_so : map found seen ≡ map meant seen
unfolding reset_of reset_act look_of step_of decode_of dyadic_of
    read_timer ticks reset_timer read_of passed reset_bus
    access_cycles timed to_next read_at ended run read ◌>>=◌ read2 operand dyadic wide pull pull2 pul pulx rts rti operate execute
seen_so = refl

pub flagged_so : map found flagged ≡ map meant flagged
unfolding reset_of reset_act look_of step_of decode_of dyadic_of
    read_port read_ports write_ports reset_ports read_timer write_timer ticks reset_timer read_of write_of passed reset_bus
    access_cycles timed to_next read_at write_at ended run read write ◌>>=◌ read2 write2 operand dyadic sta wide_store operate execute
flagged_so = refl
