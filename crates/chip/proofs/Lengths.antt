-- PC after an instruction's bytes: where its operand is found, PC has moved by the length that the opcode table says. Assumes nothing.
use Prim.Native.Nat.{ℕ, ◌+◌}
use native.Mathlib.Omega.{arith}
use mathlib.Core.Path.{◌≡◌, refl, ap, sym, ◌∙◌}
use Rattle.bits.specs.Words.{up}
use Rattle.opcodes.specs.declared.Instruction.{Instruction}
use Rattle.std.specs.Prelude.{Some}
use Rattle.opcodes.specs.declared.Place.{Place}
use Rattle.opcodes.specs.declared.Place.TheVariants.{Inherent, AccumulatorA, AccumulatorB, ImmediateByte, ImmediateWord, Direct, Indexed, Extended, Relative}
use Rattle.opcodes.specs.Opcodes.{decode_of}
use Rattle.opcodes.specs.Fits.{operand_bytes}
use Rattle.opcodes.proofs.Fits.{fits}
use Rattle.bus.specs.Access.{Memories}
use Rattle.moments.specs.Moment.{Moment}
use Rattle.registers.specs.declared.Registers.{Registers}
use Rattle.registers.specs.Registers.{with_pc}
use Rattle.chip.specs.Act.{run, read, ◌>>=◌}
use Rattle.chip.specs.Instructions.{read2, operand}

round : (w n : ℕ) → up (up w 1) n ≡ up w (1 + n)
round w n = omega arith

-- the registers with PC past the opcode, and then past the place's bytes
pub past_operand : (place : Place) (c : Registers) (b : Moment) (m : Memories)
    → (run (operand place (with_pc c (up c.pc 1))) b m).value.registers ≡ with_pc c (up c.pc (1 + operand_bytes place))
unfolding operand run read read2 ◌>>=◌
past_operand Inherent c b m = refl
past_operand AccumulatorA c b m = refl
past_operand AccumulatorB c b m = refl
past_operand ImmediateByte c b m = ap (with_pc c) (round c.pc 1)
past_operand ImmediateWord c b m = ap (with_pc c) (round c.pc 2)
past_operand Direct c b m = ap (with_pc c) (round c.pc 1)
past_operand Indexed c b m = ap (with_pc c) (round c.pc 1)
past_operand Extended c b m = ap (with_pc c) (round c.pc 2)
past_operand Relative c b m = ap (with_pc c) (round c.pc 1)

-- .. which are as many as the table's length
pub past_instruction : (opcode : ℕ) (i : Instruction) → decode_of opcode ≡ Some i → (c : Registers) (b : Moment) (m : Memories)
    → (run (operand i.place (with_pc c (up c.pc 1))) b m).value.registers ≡ with_pc c (up c.pc i.length)
past_instruction opcode i e c b m = past_operand i.place c b m ∙ ap (λ (n : ℕ). with_pc c (up c.pc n)) (sym (fits opcode i e).0)
