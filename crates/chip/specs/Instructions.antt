-- The instructions: where the operand is, and what each operation does with it, access by access in 01's order.
-- 01: "Two-byte accesses go high byte first (pushed ones low first), each with its own effects."
use Rattle.std.specs.Prelude.{ℕ, true, false, cond, Option, None, Some}
use Rattle.bits.specs.Words.{high, low, paired, up, down}
use Rattle.tables.specs.Tables.{vector_of}
use Rattle.tables.specs.declared.Vector.TheVariants.{Swi}
use Rattle.opcodes.specs.declared.Accumulator.{Accumulator}
use Rattle.opcodes.specs.declared.Dyadic.{Dyadic}
use Rattle.opcodes.specs.declared.Monadic.{Monadic}
use Rattle.opcodes.specs.declared.Wide.{Wide}
use Rattle.opcodes.specs.declared.WideStore.{WideStore}
use Rattle.opcodes.specs.declared.Operation.{Operation}
use Rattle.opcodes.specs.declared.Operation.TheVariants as operations
use Rattle.opcodes.specs.declared.Place.{Place}
use Rattle.opcodes.specs.declared.Place.TheVariants.{Inherent, AccumulatorA, AccumulatorB, ImmediateByte, ImmediateWord}
use Rattle.opcodes.specs.declared.Place.TheVariants.{Direct, Indexed, Extended, Relative}
use Rattle.opcodes.specs.declared.Instruction.{Instruction}
use Rattle.arithmetic.specs.Codes.{codes_byte, codes_of}
use Rattle.arithmetic.specs.Results.{dyadic_of, monadic_of, tested_of, moved_of, moved16_of}
use Rattle.registers.specs.declared.Registers.{Registers}
use Rattle.operations.specs.Shapes.{target_of}
use Rattle.operations.specs.Operations.{branch}
use Rattle.chip.specs.Act.{Act, Act.done, read, write, ◌>>=◌, ◌>>◌}
use Rattle.registers.specs.Registers.{with_x, with_sp, with_pc, with_codes, with_waiting, accumulator, with_accumulator, result_in, with_i}
use Rattle.registers.specs.Registers.{internal_of, wide_of, stored_of, offset}

-- two bytes, the high one first
unfoldable pub read2 : ℕ → Act ℕ
read2 at = do
  h ← read at
  l ← read (up at 1)
  done (paired h l)

unfoldable pub write2 : ℕ → ℕ → Act (Unit {0})
write2 at w = do
  write at (high w)
  write (up at 1) (low w)

-- Where the operand is: its address, and the registers with PC past the instruction. Each byte of the instruction is fetched in order.
pub record Spot : Type 0 where
  pub at : ℕ
  pub registers : Registers

abbrev pub spot : ℕ → Registers → ℕ → Spot
spot at c n = record { at = at; registers = with_pc c (up c.pc n) }

unfoldable pub operand : Place → Registers → Act Spot
operand Inherent c = done (record { at = 0; registers = c })
operand AccumulatorA c = done (record { at = 0; registers = c })
operand AccumulatorB c = done (record { at = 0; registers = c })
operand ImmediateByte c = done (spot c.pc c 1)
operand ImmediateWord c = done (spot c.pc c 2)
operand Direct c = do
  v ← read c.pc
  done (spot v c 1)
operand Indexed c = do
  v ← read c.pc
  done (spot (up c.x v) c 1)
operand Extended c = do
  w ← read2 c.pc
  done (spot w c 2)
operand Relative c = do
  v ← read c.pc
  done (spot (up (up c.pc 1) (offset v)) c 1)

-- SUB CMP SBC AND BIT LDA EOR ADC ORA ADD
unfoldable pub dyadic : Dyadic → Accumulator → ℕ → Registers → Act Registers
dyadic op acc at c = do
  v ← read at
  done (result_in acc c (dyadic_of op (accumulator acc c) v c.codes))

-- NEG COM LSR ROR ASR ASL ROL DEC INC CLR: "CLR on memory reads first"
unfoldable pub monadic : Monadic → Option Accumulator → ℕ → Registers → Act Registers
monadic op (Some acc) at c = done (result_in acc c (monadic_of op (accumulator acc c) c.codes))
monadic op None at c = do
  v ← read at
  write at (monadic_of op v c.codes).value
  done (with_codes c (monadic_of op v c.codes).codes)

-- TST does not write
unfoldable pub tst : Option Accumulator → ℕ → Registers → Act Registers
tst (Some acc) at c = done (with_codes c (tested_of (accumulator acc c) c.codes))
tst None at c = do
  v ← read at
  done (with_codes c (tested_of v c.codes))

-- stores do not read
unfoldable pub sta : Accumulator → ℕ → Registers → Act Registers
sta acc at c = do
  write at (accumulator acc c)
  done (with_codes c (moved_of (accumulator acc c) c.codes))

-- SUBD ADDD CPX LDD LDS LDX
unfoldable pub wide : Wide → ℕ → Registers → Act Registers
wide op at c = do
  w ← read2 at
  done (wide_of op w c)

-- STD STS STX
unfoldable pub wide_store : WideStore → ℕ → Registers → Act Registers
wide_store op at c = do
  write2 at (stored_of op c)
  done (with_codes c (moved16_of (stored_of op c) c.codes))

-- The stack grows downwards: a push writes and then moves SP, a pull moves SP and then reads.
unfoldable pub push : ℕ → Registers → Act Registers
push v c = do
  write c.sp v
  done (with_sp c (down c.sp 1))

unfoldable pub push2 : ℕ → Registers → Act Registers
push2 w c = do
  e ← push (low w) c
  push (high w) e

pub record Pulled : Type 0 where
  pub value : ℕ
  pub registers : Registers

unfoldable pub pull : Registers → Act Pulled
pull c = do
  v ← read (up c.sp 1)
  done (record { value = v; registers = with_sp c (up c.sp 1) })

unfoldable pub pull2 : Registers → Act Pulled
pull2 c = do
  h ← pull c
  l ← pull h.registers
  done (record { value = paired h.value l.value; registers = l.registers })

unfoldable pub psh : Accumulator → Registers → Act Registers
psh acc c = push (accumulator acc c) c

unfoldable pub pul : Accumulator → Registers → Act Registers
pul acc c = do
  p ← pull c
  done (with_accumulator acc p.registers p.value)

unfoldable pub pshx : Registers → Act Registers
pshx c = push2 c.x c

unfoldable pub pulx : Registers → Act Registers
pulx c = do
  p ← pull2 c
  done (with_x p.registers p.value)

-- JSR, and BSR at its relative place
unfoldable pub jsr : ℕ → Registers → Act Registers
jsr at c = do
  e ← push2 c.pc c
  done (with_pc e at)

unfoldable pub rts : Registers → Act Registers
rts c = do
  p ← pull2 c
  done (with_pc p.registers p.value)

-- "Stacked downwards: PC low, PC high, X low, X high, A, B, codes"
unfoldable pub stack_all : Registers → Act Registers
stack_all c = do
  c1 ← push2 c.pc c
  c2 ← push2 c.x c1
  c3 ← push c.a c2
  c4 ← push c.b c3
  push (codes_byte c.codes) c4

-- the same backwards; "TAP and RTI force the top two bits to 1"
unfoldable pub rti : Registers → Act Registers
rti c = do
  k ← pull c
  b ← pull k.registers
  a ← pull b.registers
  x ← pull2 a.registers
  pc ← pull2 x.registers
  done (record { a = a.value; b = b.value; x = x.value; sp = pc.registers.sp; pc = pc.value; codes = codes_of k.value; waiting = c.waiting })

-- I set and PC loaded from a vector; a wait ends
unfoldable pub vectored : ℕ → Registers → Act Registers
vectored vector c = do
  w ← read2 vector
  done (with_waiting (with_codes (with_pc c w) (with_i c.codes true)) false)

-- "SWI stacks and sets I"
unfoldable pub swi : Registers → Act Registers
swi c = do
  e ← stack_all c
  vectored (vector_of Swi) e

-- "WAI stacks, takes 9 cycles and waits"
unfoldable pub wai : Registers → Act Registers
wai c = do
  e ← stack_all c
  done (with_waiting e true)

-- interrupt entry: "Stack, set I, load the vector .. from waiting, nothing is stacked .. waiting ends"
unfoldable pub enter : ℕ → Registers → Act Registers
enter vector c = do
  e ← cond c.waiting (done c) (stack_all c)
  vectored vector e

-- what an operation does with the operand at an address
unfoldable pub operate : Operation → Place → ℕ → Registers → Act Registers
operate (operations.Internal op) place at c = done (internal_of op c)
operate (operations.Dyadic op acc) place at c = dyadic op acc at c
operate (operations.Monadic op) place at c = monadic op (target_of place) at c
operate operations.Tst place at c = tst (target_of place) at c
operate (operations.Sta acc) place at c = sta acc at c
operate (operations.Wide op) place at c = wide op at c
operate (operations.WideStore op) place at c = wide_store op at c
operate (operations.Psh acc) place at c = psh acc c
operate (operations.Pul acc) place at c = pul acc c
operate operations.Pshx place at c = pshx c
operate operations.Pulx place at c = pulx c
operate (operations.Branch test) place at c = done (branch test at c)
operate operations.Jmp place at c = done (with_pc c at)
operate operations.Jsr place at c = jsr at c
operate operations.Bsr place at c = jsr at c
operate operations.Rts place at c = rts c
operate operations.Rti place at c = rti c
operate operations.Swi place at c = swi c
operate operations.Wai place at c = wai c

-- an instruction: its opcode is fetched (what it is was told by a look, which has no effect), then its operand is found, then it operates
unfoldable pub execute : Instruction → Registers → Act Registers
execute i c = do
  read c.pc
  o ← operand i.place (with_pc c (up c.pc 1))
  operate i.operation i.place o.at o.registers
