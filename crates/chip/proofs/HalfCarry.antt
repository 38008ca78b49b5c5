-- 01: "H changes only in ADD, ADC, ABA and on loading all codes": every other operation, and every other instruction whole, keeps H.
-- Assumes nothing.
use Prim.Native.Nat.{ℕ}
use mathlib.Core.Path.{◌≡◌, refl, ap, ◌∙◌}
use mathlib.Core.Bool.{Bool, true, false, cond}
use mathlib.Core.List.{List, [], ◌∷◌}
use mathlib.Core.Logic.{inl, inr}
use Rattle.bits.specs.Words.{up}
use Rattle.opcodes.specs.declared.Accumulator.{Accumulator}
use Rattle.opcodes.specs.declared.Accumulator.TheVariants.{A, B}
use Rattle.opcodes.specs.declared.Dyadic.{Dyadic}
use Rattle.opcodes.specs.declared.Dyadic.TheVariants.{Adc, Add}
use Rattle.opcodes.specs.declared.Monadic.{Monadic}
use Rattle.opcodes.specs.declared.Internal.TheVariants.{Aba, Tap}
use Rattle.opcodes.specs.declared.Branch.{Branch}
use Rattle.opcodes.specs.declared.Operation.{Operation}
use Rattle.opcodes.specs.declared.Operation.TheVariants as operations
use Rattle.opcodes.specs.declared.Instruction.{Instruction}
use Rattle.opcodes.specs.declared.Place.{Place}
use Rattle.opcodes.specs.declared.Place.TheVariants.{Inherent, AccumulatorA, AccumulatorB, ImmediateByte, ImmediateWord, Direct, Indexed, Extended, Relative}
use Rattle.opcodes.specs.Fits.{Among}
use Rattle.arithmetic.specs.Branches.{taken_of}
use Rattle.arithmetic.proofs.HalfCarry.{dyadic_half, monadic_half, moved_half, moved16_half, tested_half}
use Rattle.registers.specs.declared.Registers.{Registers}
use Rattle.registers.specs.Registers.{with_pc}
use Rattle.registers.proofs.HalfCarry.{internal_half, wide_half}
use Rattle.std.specs.Prelude.{Option, None, Some}
use Rattle.operations.specs.Shapes.{target_of}
use Rattle.operations.specs.Operations.{branch}
use Rattle.bus.specs.Access.{Memories}
use Rattle.moments.specs.Moment.{Moment}
use Rattle.chip.specs.Act.{Act, Out, run, read, write, ◌>>=◌}
use Rattle.chip.specs.Instructions.{read2, write2, operand, dyadic, monadic, tst, sta, wide, wide_store, push, push2, pull, pull2, psh, pul, pshx, pulx}
use Rattle.chip.specs.Instructions.{jsr, rts, stack_all, vectored, swi, wai, operate, execute}
use Rattle.chip.proofs.ActLaws.{run_then}

-- ADD, ADC, ABA; TAP and RTI load all codes
abbrev pub changes_half : List Operation
changes_half =
    operations.Dyadic Add A
    ∷ operations.Dyadic Add B
    ∷ operations.Dyadic Adc A
    ∷ operations.Dyadic Adc B
    ∷ operations.Internal Aba
    ∷ operations.Internal Tap
    ∷ operations.Rti
    ∷ []

-- H after a tree, at any moment and on any memories
abbrev KeepsHalf : Registers → Act Registers → Type 0
KeepsHalf c t = (b : Moment) (m : Memories) → (run t b m).value.codes.h ≡ c.codes.h

not_add : (op : Dyadic) (acc : Accumulator) → (Among (operations.Dyadic op acc) changes_half → ⊥) → op ≡ Add → ⊥
not_add op A n e = n (inl (ap (λ (o : Dyadic). operations.Dyadic o A) e))
not_add op B n e = n (inr (inl (ap (λ (o : Dyadic). operations.Dyadic o B) e)))

not_adc : (op : Dyadic) (acc : Accumulator) → (Among (operations.Dyadic op acc) changes_half → ⊥) → op ≡ Adc → ⊥
not_adc op A n e = n (inr (inr (inl (ap (λ (o : Dyadic). operations.Dyadic o A) e))))
not_adc op B n e = n (inr (inr (inr (inl (ap (λ (o : Dyadic). operations.Dyadic o B) e)))))

monadic_keeps : (op : Monadic) (target : Option Accumulator) (at : ℕ) (c : Registers) → KeepsHalf c (monadic op target at c)
unfolding monadic run read write ◌>>=◌
monadic_keeps op (Some acc) at c b m = monadic_half op _ _
monadic_keeps op None at c b m = monadic_half op _ _

tst_keeps : (target : Option Accumulator) (at : ℕ) (c : Registers) → KeepsHalf c (tst target at c)
unfolding tst run read ◌>>=◌
tst_keeps (Some acc) at c b m = tested_half _ _
tst_keeps None at c b m = tested_half _ _

branch_keeps : (test : Branch) (at : ℕ) (c : Registers) → (branch test at c).codes.h ≡ c.codes.h
branch_keeps test at c = by (taken_of test c.codes)
  where
    by : (taken : Bool) → (cond taken (with_pc c at) c).codes.h ≡ c.codes.h
    by true = refl
    by false = refl

pub operation_half : (op : Operation) → (Among op changes_half → ⊥) → (place : Place) (at : ℕ) (c : Registers) → KeepsHalf c (operate op place at c)
unfolding operate run read write read2 write2 ◌>>=◌ dyadic sta wide wide_store push push2 pull pull2 psh pul pshx pulx jsr rts stack_all vectored swi wai
operation_half (operations.Internal op) n place at c b m =
    internal_half op (λ e. n (inr (inr (inr (inr (inl (ap operations.Internal e))))))) (λ e. n (inr (inr (inr (inr (inr (inl (ap operations.Internal e)))))))) c
operation_half (operations.Dyadic op acc) n place at c b m = dyadic_half op (not_add op acc n) (not_adc op acc n) _ _ _
operation_half (operations.Monadic op) n place at c b m = monadic_keeps op (target_of place) at c b m
operation_half operations.Tst n place at c b m = tst_keeps (target_of place) at c b m
operation_half (operations.Sta acc) n place at c b m = moved_half _ _
operation_half (operations.Wide op) n place at c b m = wide_half op _ c
operation_half (operations.WideStore op) n place at c b m = moved16_half _ _
operation_half (operations.Psh acc) n place at c b m = refl
operation_half (operations.Pul A) n place at c b m = refl
operation_half (operations.Pul B) n place at c b m = refl
operation_half operations.Pshx n place at c b m = refl
operation_half operations.Pulx n place at c b m = refl
operation_half (operations.Branch test) n place at c b m = branch_keeps test at c
operation_half operations.Jmp n place at c b m = refl
operation_half operations.Jsr n place at c b m = refl
operation_half operations.Bsr n place at c b m = refl
operation_half operations.Rts n place at c b m = refl
operation_half operations.Rti n place at c b m = absurd (n (inr (inr (inr (inr (inr (inr (inl refl))))))))
operation_half operations.Swi n place at c b m = refl
operation_half operations.Wai n place at c b m = refl

-- finding the operand changes no code
operand_half : (place : Place) (c : Registers) (b : Moment) (m : Memories) → (run (operand place c) b m).value.registers.codes.h ≡ c.codes.h
unfolding operand run read read2 ◌>>=◌
operand_half Inherent c b m = refl
operand_half AccumulatorA c b m = refl
operand_half AccumulatorB c b m = refl
operand_half ImmediateByte c b m = refl
operand_half ImmediateWord c b m = refl
operand_half Direct c b m = refl
operand_half Indexed c b m = refl
operand_half Extended c b m = refl
operand_half Relative c b m = refl

pub instruction_half : (i : Instruction) → (Among i.operation changes_half → ⊥) → (c : Registers) → KeepsHalf c (execute i c)
unfolding execute
instruction_half i n c b m =
    let q = run (read c.pc) b m in
    let o = run (operand i.place (with_pc c (up c.pc 1))) q.units q.memory in
    ap (λ (z : Out Registers). z.value.codes.h) (run_then _ _ b m ∙ run_then _ _ q.units q.memory)
    ∙ operation_half i.operation n i.place o.value.at o.value.registers o.units o.memory
    ∙ operand_half i.place (with_pc c (up c.pc 1)) q.units q.memory
