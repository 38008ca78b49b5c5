-- What the private functions of src are proved against: the rows of Opcodes.antt taken apart, into their operations and their
-- cycles. Nobody needs to believe this file: `decode` promises the table of Opcodes.antt.
use Rattle.std.specs.Prelude.{ℕ, ◌+◌, ◌%◌, ◌^◌, cond, List, [], ◌∷◌, get_or, ◌==◌, slice_index, slice_index_or, Option, None}
use Rattle.opcodes.specs.Opcodes.{is, row8, row_c}
use Rattle.opcodes.specs.declared.Accumulator.{Accumulator}
use Rattle.opcodes.specs.declared.Accumulator.TheVariants.{A, B}
use Rattle.opcodes.specs.declared.Branch.{Branch as BranchTest}
use Rattle.opcodes.specs.declared.Branch.TheVariants.{Bra, Brn, Bhi, Bls, Bcc, Bcs, Bne, Beq, Bvc, Bvs, Bpl, Bmi, Bge, Blt, Bgt, Ble}
use Rattle.opcodes.specs.declared.Monadic.{Monadic as MonadicOperation}
use Rattle.opcodes.specs.declared.Monadic.TheVariants.{Neg, Com, Lsr, Ror, Asr, Asl, Rol, Dec, Inc, Clr}
use Rattle.opcodes.specs.declared.Dyadic.{Dyadic as DyadicOperation}
use Rattle.opcodes.specs.declared.Dyadic.TheVariants.{Sub, Cmp, Sbc, And, Bit, Lda, Eor, Adc, Ora, Add}
use Rattle.opcodes.specs.declared.Wide.TheVariants.{Subd, Addd, Cpx, Ldd, Lds, Ldx}
use Rattle.opcodes.specs.declared.WideStore.TheVariants.{Std, Sts, Stx}
use Rattle.opcodes.specs.declared.Operation.{Operation}
use Rattle.opcodes.specs.declared.Operation.TheVariants.{Dyadic, Monadic, Tst, Sta, Wide, WideStore, Jmp, Jsr}
use Rattle.opcodes.specs.declared.Place.{Place}
use Rattle.opcodes.specs.declared.Instruction.{Instruction}

abbrev pub tests2 : List BranchTest
tests2 = Bra ∷ Brn ∷ Bhi ∷ Bls ∷ Bcc ∷ Bcs ∷ Bne ∷ Beq ∷ Bvc ∷ Bvs ∷ Bpl ∷ Bmi ∷ Bge ∷ Blt ∷ Bgt ∷ Ble ∷ []

-- the names of rows 4 to 7; CLR stands where there is none
abbrev pub monadics : List MonadicOperation
monadics = Neg ∷ Clr ∷ Clr ∷ Com ∷ Lsr ∷ Clr ∷ Ror ∷ Asr ∷ Asl ∷ Rol ∷ Dec ∷ Clr ∷ Inc ∷ Clr ∷ Clr ∷ Clr ∷ []

-- opcodes 40 to 7F, but for JMP, with the place, length and cycles of their row
abbrev pub one_byte_of : ℕ → Place → ℕ → ℕ → Option Instruction
one_byte_of low place length cycles =
    let on : MonadicOperation → Option Instruction = λ operation. is (Monadic operation) place length cycles in
    get_or
    (on Neg ∷ None ∷ None ∷ on Com ∷ on Lsr ∷ None ∷ on Ror ∷ on Asr
    ∷ on Asl ∷ on Rol ∷ on Dec ∷ None ∷ on Inc ∷ is Tst place length cycles ∷ None ∷ on Clr ∷ [])
    low
    None

-- opcodes 60 to 7F
abbrev pub modified_of : ℕ → Place → ℕ → Option Instruction
modified_of low place length = cond (low == 0xE) (is Jmp place length 3) (one_byte_of low place length 6)

-- the names of rows 8 to F; SUB stands where there is none
abbrev pub dyadics : List DyadicOperation
dyadics = Sub ∷ Cmp ∷ Sbc ∷ Sub ∷ And ∷ Bit ∷ Lda ∷ Sub ∷ Eor ∷ Adc ∷ Ora ∷ Add ∷ Sub ∷ Sub ∷ Sub ∷ Sub ∷ []

-- the one of two that is the accumulator's
abbrev pub either_of : {T : Type 0} → Accumulator → T → T → T
either_of A a b = a
either_of B a b = b

abbrev pub operations8 : Accumulator → List Operation
operations8 a =
    Dyadic Sub a
    ∷ Dyadic Cmp a
    ∷ Dyadic Sbc a
    ∷ Wide (either_of a Subd Addd)
    ∷ Dyadic And a
    ∷ Dyadic Bit a
    ∷ Dyadic Lda a
    ∷ Sta a
    ∷ Dyadic Eor a
    ∷ Dyadic Adc a
    ∷ Dyadic Ora a
    ∷ Dyadic Add a
    ∷ Wide (either_of a Cpx Ldd)
    ∷ either_of a Jsr (WideStore Std)
    ∷ Wide (either_of a Lds Ldx)
    ∷ WideStore (either_of a Sts Stx)
    ∷ []

-- what the operations of rows 8 to F add to the cycles of their row
abbrev pub added : Accumulator → List ℕ
added a = 0 ∷ 0 ∷ 0 ∷ 2 ∷ 0 ∷ 0 ∷ 0 ∷ 0 ∷ 0 ∷ 0 ∷ 0 ∷ 0 ∷ either_of a 2 1 ∷ either_of a 2 1 ∷ 1 ∷ 1 ∷ []

-- opcodes 80 to FF as they are in memory, with the place, length and cycles of their row
abbrev pub two_bytes_of : ℕ → Accumulator → Place → ℕ → ℕ → Option Instruction
two_bytes_of low a place length cycles = is (slice_index_or (operations8 a) low Jsr) place length ((cycles + slice_index (added a) low) % 2 ^ 8)

-- opcodes 80 to 8F and C0 to CF
abbrev pub immediate_of : Accumulator → ℕ → Option Instruction
immediate_of A low = slice_index_or row8 low None
immediate_of B low = slice_index_or row_c low None
