-- Two instructions with the same six numbers are one: nothing is lost where an instruction is told by numbers. Assumes nothing.
use Prim.Native.Nat.{ℕ}
use mathlib.Core.List.{List, [], ◌∷◌, ◌++◌}
use mathlib.Core.Path.{◌≡◌, refl}
use lib.ListN.{get_or}
use Rattle.opcodes.specs.declared.Accumulator.{Accumulator}
use Rattle.opcodes.specs.declared.Accumulator.TheVariants.{A, B}
use Rattle.opcodes.specs.declared.Dyadic.{Dyadic as DyadicOperation}
use Rattle.opcodes.specs.declared.Dyadic.TheVariants.{Sub, Cmp, Sbc, And, Bit, Lda, Eor, Adc, Ora, Add}
use Rattle.opcodes.specs.declared.Monadic.{Monadic as MonadicOperation}
use Rattle.opcodes.specs.declared.Monadic.TheVariants.{Neg, Com, Lsr, Ror, Asr, Asl, Rol, Dec, Inc, Clr}
use Rattle.opcodes.specs.declared.Wide.{Wide as WideOperation}
use Rattle.opcodes.specs.declared.Wide.TheVariants.{Subd, Addd, Cpx, Ldd, Lds, Ldx}
use Rattle.opcodes.specs.declared.WideStore.{WideStore as WideStoreOperation}
use Rattle.opcodes.specs.declared.WideStore.TheVariants.{Std, Sts, Stx}
use Rattle.opcodes.specs.declared.Internal.{Internal as InternalOperation}
use Rattle.opcodes.specs.declared.Internal.TheVariants.{Nop, Lsrd, Asld, Tap, Tpa, Inx, Dex, Clv, Sev, Clc, Sec, Cli, Sei}
use Rattle.opcodes.specs.declared.Internal.TheVariants.{Sba, Cba, Tab, Tba, Daa, Aba, Tsx, Ins, Des, Txs, Abx, Mul}
use Rattle.opcodes.specs.declared.Branch.{Branch as BranchTest}
use Rattle.opcodes.specs.declared.Branch.TheVariants.{Bra, Brn, Bhi, Bls, Bcc, Bcs, Bne, Beq, Bvc, Bvs, Bpl, Bmi, Bge, Blt, Bgt, Ble}
use Rattle.opcodes.specs.declared.Operation.{Operation}
use Rattle.opcodes.specs.declared.Operation.TheVariants.{Internal, Dyadic, Monadic, Tst, Sta, Wide, WideStore, Psh, Pul, Pshx}
use Rattle.opcodes.specs.declared.Operation.TheVariants.{Pulx, Branch, Jmp, Jsr, Bsr, Rts, Rti, Swi, Wai}
use Rattle.opcodes.specs.declared.Place.{Place}
use Rattle.opcodes.specs.declared.Place.TheVariants.{Inherent, AccumulatorA, AccumulatorB, ImmediateByte, ImmediateWord, Direct, Indexed, Extended, Relative}
use Rattle.opcodes.specs.declared.Instruction.{Instruction}
use Rattle.laws.proofs.Known.{known}
use Rattle.board_numbers.specs.Numbers.{accumulator_number, dyadic_number, monadic_number, wide_number, wide_store_number}
use Rattle.board_numbers.specs.Numbers.{internal_number, branch_number, place_number, operation_bytes, instruction_bytes}

-- what a number stands for
abbrev accumulator_back : ℕ → Accumulator
accumulator_back n = get_or (A ∷ A ∷ B ∷ []) n A

abbrev dyadic_back : ℕ → DyadicOperation
dyadic_back n = get_or (Sub ∷ Cmp ∷ Sbc ∷ And ∷ Bit ∷ Lda ∷ Eor ∷ Adc ∷ Ora ∷ Add ∷ []) n Sub

abbrev monadic_back : ℕ → MonadicOperation
monadic_back n = get_or (Neg ∷ Com ∷ Lsr ∷ Ror ∷ Asr ∷ Asl ∷ Rol ∷ Dec ∷ Inc ∷ Clr ∷ []) n Neg

abbrev wide_back : ℕ → WideOperation
wide_back n = get_or (Subd ∷ Addd ∷ Cpx ∷ Ldd ∷ Lds ∷ Ldx ∷ []) n Subd

abbrev wide_store_back : ℕ → WideStoreOperation
wide_store_back n = get_or (Std ∷ Sts ∷ Stx ∷ []) n Std

abbrev internal_back : ℕ → InternalOperation
internal_back n =
    get_or (Nop ∷ Lsrd ∷ Asld ∷ Tap ∷ Tpa ∷ Inx ∷ Dex ∷ Clv ∷ Sev ∷ Clc ∷ Sec ∷ Cli ∷ Sei ∷ Sba
    ∷ Cba ∷ Tab ∷ Tba ∷ Daa ∷ Aba ∷ Tsx ∷ Ins ∷ Des ∷ Txs ∷ Abx ∷ Mul ∷ []) n Nop

abbrev branch_back : ℕ → BranchTest
branch_back n = get_or (Bra ∷ Brn ∷ Bhi ∷ Bls ∷ Bcc ∷ Bcs ∷ Bne ∷ Beq ∷ Bvc ∷ Bvs ∷ Bpl ∷ Bmi ∷ Bge ∷ Blt ∷ Bgt ∷ Ble ∷ []) n Bra

abbrev place_back : ℕ → Place
place_back n =
    get_or (Inherent ∷ AccumulatorA ∷ AccumulatorB ∷ ImmediateByte ∷ ImmediateWord ∷ Direct ∷ Indexed ∷ Extended ∷ Relative ∷ []) n Inherent

-- the operation of a group's number, a member's and an accumulator's
abbrev operation_back : ℕ → ℕ → ℕ → Operation
operation_back g m a =
    get_or (Internal (internal_back m) ∷ Dyadic (dyadic_back m) (accumulator_back a) ∷ Monadic (monadic_back m) ∷ Tst ∷ Sta (accumulator_back a) ∷ Wide (wide_back m)
    ∷ WideStore (wide_store_back m) ∷ Psh (accumulator_back a) ∷ Pul (accumulator_back a) ∷ Pshx ∷ Pulx ∷ Branch (branch_back m) ∷ Jmp ∷ Jsr ∷ Bsr ∷ Rts ∷ Rti ∷ Swi ∷ Wai ∷ []) g Tst

abbrev instruction_back : List ℕ → Instruction
instruction_back l =
    record {
      operation = operation_back (get_or l 0 0) (get_or l 1 0) (get_or l 2 0);
      place = place_back (get_or l 3 0);
      length = get_or l 4 0;
      cycles = get_or l 5 0;
    }

accumulator_back_lem : (a : Accumulator) → accumulator_back (accumulator_number a) ≡ a
accumulator_back_lem A = refl
accumulator_back_lem B = refl

dyadic_back_lem : (o : DyadicOperation) → dyadic_back (dyadic_number o) ≡ o
dyadic_back_lem Sub = refl
dyadic_back_lem Cmp = refl
dyadic_back_lem Sbc = refl
dyadic_back_lem And = refl
dyadic_back_lem Bit = refl
dyadic_back_lem Lda = refl
dyadic_back_lem Eor = refl
dyadic_back_lem Adc = refl
dyadic_back_lem Ora = refl
dyadic_back_lem Add = refl

monadic_back_lem : (o : MonadicOperation) → monadic_back (monadic_number o) ≡ o
monadic_back_lem Neg = refl
monadic_back_lem Com = refl
monadic_back_lem Lsr = refl
monadic_back_lem Ror = refl
monadic_back_lem Asr = refl
monadic_back_lem Asl = refl
monadic_back_lem Rol = refl
monadic_back_lem Dec = refl
monadic_back_lem Inc = refl
monadic_back_lem Clr = refl

wide_back_lem : (o : WideOperation) → wide_back (wide_number o) ≡ o
wide_back_lem Subd = refl
wide_back_lem Addd = refl
wide_back_lem Cpx = refl
wide_back_lem Ldd = refl
wide_back_lem Lds = refl
wide_back_lem Ldx = refl

wide_store_back_lem : (o : WideStoreOperation) → wide_store_back (wide_store_number o) ≡ o
wide_store_back_lem Std = refl
wide_store_back_lem Sts = refl
wide_store_back_lem Stx = refl

internal_back_lem : (o : InternalOperation) → internal_back (internal_number o) ≡ o
internal_back_lem Nop = refl
internal_back_lem Lsrd = refl
internal_back_lem Asld = refl
internal_back_lem Tap = refl
internal_back_lem Tpa = refl
internal_back_lem Inx = refl
internal_back_lem Dex = refl
internal_back_lem Clv = refl
internal_back_lem Sev = refl
internal_back_lem Clc = refl
internal_back_lem Sec = refl
internal_back_lem Cli = refl
internal_back_lem Sei = refl
internal_back_lem Sba = refl
internal_back_lem Cba = refl
internal_back_lem Tab = refl
internal_back_lem Tba = refl
internal_back_lem Daa = refl
internal_back_lem Aba = refl
internal_back_lem Tsx = refl
internal_back_lem Ins = refl
internal_back_lem Des = refl
internal_back_lem Txs = refl
internal_back_lem Abx = refl
internal_back_lem Mul = refl

branch_back_lem : (o : BranchTest) → branch_back (branch_number o) ≡ o
branch_back_lem Bra = refl
branch_back_lem Brn = refl
branch_back_lem Bhi = refl
branch_back_lem Bls = refl
branch_back_lem Bcc = refl
branch_back_lem Bcs = refl
branch_back_lem Bne = refl
branch_back_lem Beq = refl
branch_back_lem Bvc = refl
branch_back_lem Bvs = refl
branch_back_lem Bpl = refl
branch_back_lem Bmi = refl
branch_back_lem Bge = refl
branch_back_lem Blt = refl
branch_back_lem Bgt = refl
branch_back_lem Ble = refl

place_back_lem : (o : Place) → place_back (place_number o) ≡ o
place_back_lem Inherent = refl
place_back_lem AccumulatorA = refl
place_back_lem AccumulatorB = refl
place_back_lem ImmediateByte = refl
place_back_lem ImmediateWord = refl
place_back_lem Direct = refl
place_back_lem Indexed = refl
place_back_lem Extended = refl
place_back_lem Relative = refl

-- the operation, and then the others
back : (i : Instruction) (o : Operation) → instruction_back (operation_bytes o ++ (place_number i.place ∷ i.length ∷ i.cycles ∷ []))
    ≡ record { operation = o; place = i.place; length = i.length; cycles = i.cycles }
back i (Internal j) = rw (internal_back_lem j, place_back_lem i.place)
back i (Dyadic d a) = rw (dyadic_back_lem d, accumulator_back_lem a, place_back_lem i.place)
back i (Monadic m) = rw (monadic_back_lem m, place_back_lem i.place)
back i Tst = rw (place_back_lem i.place)
back i (Sta a) = rw (accumulator_back_lem a, place_back_lem i.place)
back i (Wide w) = rw (wide_back_lem w, place_back_lem i.place)
back i (WideStore w) = rw (wide_store_back_lem w, place_back_lem i.place)
back i (Psh a) = rw (accumulator_back_lem a, place_back_lem i.place)
back i (Pul a) = rw (accumulator_back_lem a, place_back_lem i.place)
back i Pshx = rw (place_back_lem i.place)
back i Pulx = rw (place_back_lem i.place)
back i (Branch b) = rw (branch_back_lem b, place_back_lem i.place)
back i Jmp = rw (place_back_lem i.place)
back i Jsr = rw (place_back_lem i.place)
back i Bsr = rw (place_back_lem i.place)
back i Rts = rw (place_back_lem i.place)
back i Rti = rw (place_back_lem i.place)
back i Swi = rw (place_back_lem i.place)
back i Wai = rw (place_back_lem i.place)

pub instruction_known : (i j : Instruction) → instruction_bytes i ≡ instruction_bytes j → i ≡ j
unfolding instruction_bytes
instruction_known = known instruction_bytes instruction_back (λ i. back i i.operation)
