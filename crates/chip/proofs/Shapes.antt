-- The tree of every operation is that of its shape, so that whoever makes accesses proves the shapes only. Assumes nothing.
use Prim.Native.Nat.{ℕ}
use mathlib.Core.Path.{◌≡◌, refl, sym, ap, ◌∙◌}
use Rattle.opcodes.specs.declared.Monadic.{Monadic}
use Rattle.opcodes.specs.declared.Operation.{Operation}
use Rattle.opcodes.specs.declared.Operation.TheVariants as operations
use Rattle.opcodes.specs.declared.Place.{Place}
use Rattle.registers.specs.declared.Registers.{Registers}
use Rattle.std.specs.Prelude.{Option, None, Some}
use Rattle.opcodes.specs.declared.Accumulator.{Accumulator}
use Rattle.operations.specs.declared.Shape.{Shape}
use Rattle.operations.specs.Shapes.{target_of, monadic_shape, tst_shape, shape_of}
use Rattle.operations.specs.Operations.{quiet_of, load_at, loaded_of, load_word_at, loaded_word_of}
use Rattle.operations.specs.Operations.{store_at, store_byte, stored_then, stored_word_then, word_of, pushed_then}
use Rattle.bus.specs.Access.{Memories}
use Rattle.moments.specs.Moment.{Moment}
use Rattle.chip.specs.Act.{Act, read, write, ◌>>=◌, Out, run}
use Rattle.chip.specs.Instructions.{read2, dyadic, monadic, tst, sta, wide, wide_store, push, push2, pull, pull2, psh, pul, pshx, pulx}
use Rattle.chip.specs.Instructions.{jsr, rts, operate}
use Rattle.chip.specs.Shapes.{loads, loads_word, stores, stores_word, modifies, pushes_word, shaped}

monadic_shaped : (op : Monadic) (target : Option Accumulator) (at : ℕ) (c : Registers) → monadic op target at c ≡ shaped (monadic_shape op target) at c
unfolding monadic shaped quiet_of modifies
monadic_shaped op (Some acc) at c = refl
monadic_shaped op None at c = refl

tst_shaped : (target : Option Accumulator) (at : ℕ) (c : Registers) → tst target at c ≡ shaped (tst_shape target) at c
unfolding tst shaped quiet_of loads load_at loaded_of
tst_shaped (Some acc) at c = refl
tst_shaped None at c = refl

pub operation_shaped : (op : Operation) (place : Place) (at : ℕ) (c : Registers) → operate op place at c ≡ shaped (shape_of op place) at c
unfolding operate shape_of shaped quiet_of loads load_at loaded_of loads_word load_word_at loaded_word_of stores store_at store_byte stored_then stores_word
    stored_word_then pushes_word word_of pushed_then dyadic sta wide wide_store push push2 pull pull2 psh pul pshx pulx jsr rts read2 read write ◌>>=◌
operation_shaped (operations.Internal op) place at c = refl
operation_shaped (operations.Dyadic op acc) place at c = refl
operation_shaped (operations.Monadic op) place at c = monadic_shaped op (target_of place) at c
operation_shaped operations.Tst place at c = tst_shaped (target_of place) at c
operation_shaped (operations.Sta acc) place at c = refl
operation_shaped (operations.Wide op) place at c = refl
operation_shaped (operations.WideStore op) place at c = refl
operation_shaped (operations.Psh acc) place at c = refl
operation_shaped (operations.Pul acc) place at c = refl
operation_shaped operations.Pshx place at c = refl
operation_shaped operations.Pulx place at c = refl
operation_shaped (operations.Branch test) place at c = refl
operation_shaped operations.Jmp place at c = refl
operation_shaped operations.Jsr place at c = refl
operation_shaped operations.Bsr place at c = refl
operation_shaped operations.Rts place at c = refl
operation_shaped operations.Rti place at c = refl
operation_shaped operations.Swi place at c = refl
operation_shaped operations.Wai place at c = refl

-- what an operation comes to, by its shape
pub operated : (op : Operation) (place : Place) (at : ℕ) (c : Registers) (o : Moment) (m : Memories) {shape : Shape} {z : Out Registers}
    → shape ≡ shape_of op place → run (shaped shape at c) o m ≡ z → run (operate op place at c) o m ≡ z
operated op place at c o m e p = ap (λ (t : Act Registers). run t o m) (operation_shaped op place at c ∙ ap (λ (s : Shape). shaped s at c) (sym e)) ∙ p
