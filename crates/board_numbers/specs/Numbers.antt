-- The numbers of operations and operand places, as board/pliruzza.h lists them.
use Rattle.std.specs.Prelude.{ℕ, List, [], ◌∷◌, ◌++◌}
use Rattle.opcodes.specs.declared.Accumulator.{Accumulator}
use Rattle.opcodes.specs.declared.Accumulator.TheVariants.{A, B}
use Rattle.opcodes.specs.declared.Dyadic.{Dyadic as DyadicOperation}
use Rattle.opcodes.specs.declared.Dyadic.TheVariants.{Sub, Cmp, Sbc, And, Bit, Lda, Eor, Adc, Ora, Add}
use Rattle.opcodes.specs.declared.Monadic.{Monadic as MonadicOperation}
use Rattle.opcodes.specs.declared.Monadic.TheVariants.{Neg, Com, Lsr, Ror, Asr, Asl, Rol, Dec, Inc, Clr}
use Rattle.opcodes.specs.declared.Wide.{Wide as WideOperation}
use Rattle.opcodes.specs.declared.Wide.TheVariants.{Subd, Addd, Cpx, Ldd, Lds, Ldx}
use Rattle.opcodes.specs.declared.WideStore.{WideStore as WideStoreOperation}
use Rattle.opcodes.specs.declared.WideStore.TheVariants.{Std, Sts, Stx}
use Rattle.opcodes.specs.declared.Internal.{Internal as InternalOperation}
use Rattle.opcodes.specs.declared.Internal.TheVariants.{Nop, Lsrd, Asld, Tap, Tpa, Inx, Dex, Clv, Sev, Clc, Sec, Cli, Sei}
use Rattle.opcodes.specs.declared.Internal.TheVariants.{Sba, Cba, Tab, Tba, Daa, Aba, Tsx, Ins, Des, Txs, Abx, Mul}
use Rattle.opcodes.specs.declared.Branch.{Branch as BranchTest}
use Rattle.opcodes.specs.declared.Branch.TheVariants.{Bra, Brn, Bhi, Bls, Bcc, Bcs, Bne, Beq, Bvc, Bvs, Bpl, Bmi, Bge, Blt, Bgt, Ble}
use Rattle.opcodes.specs.declared.Operation.{Operation}
use Rattle.opcodes.specs.declared.Operation.TheVariants.{Internal, Dyadic, Monadic, Tst, Sta, Wide, WideStore, Psh, Pul, Pshx}
use Rattle.opcodes.specs.declared.Operation.TheVariants.{Pulx, Branch, Jmp, Jsr, Bsr, Rts, Rti, Swi, Wai}
use Rattle.opcodes.specs.declared.Place.{Place}
use Rattle.opcodes.specs.declared.Place.TheVariants.{Inherent, AccumulatorA, AccumulatorB, ImmediateByte, ImmediateWord, Direct, Indexed, Extended, Relative}
use Rattle.opcodes.specs.declared.Instruction.{Instruction}

-- the accumulator that is part of an operation; 0 stands where none is
abbrev pub accumulator_number : Accumulator → ℕ
accumulator_number A = 1
accumulator_number B = 2

-- an operation within its group, from 0 in the order of crates/opcodes
abbrev pub dyadic_number : DyadicOperation → ℕ
dyadic_number Sub = 0
dyadic_number Cmp = 1
dyadic_number Sbc = 2
dyadic_number And = 3
dyadic_number Bit = 4
dyadic_number Lda = 5
dyadic_number Eor = 6
dyadic_number Adc = 7
dyadic_number Ora = 8
dyadic_number Add = 9

abbrev pub monadic_number : MonadicOperation → ℕ
monadic_number Neg = 0
monadic_number Com = 1
monadic_number Lsr = 2
monadic_number Ror = 3
monadic_number Asr = 4
monadic_number Asl = 5
monadic_number Rol = 6
monadic_number Dec = 7
monadic_number Inc = 8
monadic_number Clr = 9

abbrev pub wide_number : WideOperation → ℕ
wide_number Subd = 0
wide_number Addd = 1
wide_number Cpx = 2
wide_number Ldd = 3
wide_number Lds = 4
wide_number Ldx = 5

abbrev pub wide_store_number : WideStoreOperation → ℕ
wide_store_number Std = 0
wide_store_number Sts = 1
wide_store_number Stx = 2

abbrev pub internal_number : InternalOperation → ℕ
internal_number Nop = 0
internal_number Lsrd = 1
internal_number Asld = 2
internal_number Tap = 3
internal_number Tpa = 4
internal_number Inx = 5
internal_number Dex = 6
internal_number Clv = 7
internal_number Sev = 8
internal_number Clc = 9
internal_number Sec = 10
internal_number Cli = 11
internal_number Sei = 12
internal_number Sba = 13
internal_number Cba = 14
internal_number Tab = 15
internal_number Tba = 16
internal_number Daa = 17
internal_number Aba = 18
internal_number Tsx = 19
internal_number Ins = 20
internal_number Des = 21
internal_number Txs = 22
internal_number Abx = 23
internal_number Mul = 24

abbrev pub branch_number : BranchTest → ℕ
branch_number Bra = 0
branch_number Brn = 1
branch_number Bhi = 2
branch_number Bls = 3
branch_number Bcc = 4
branch_number Bcs = 5
branch_number Bne = 6
branch_number Beq = 7
branch_number Bvc = 8
branch_number Bvs = 9
branch_number Bpl = 10
branch_number Bmi = 11
branch_number Bge = 12
branch_number Blt = 13
branch_number Bgt = 14
branch_number Ble = 15

-- an operation: its group, its number within the group, 0 where it is alone there, and its accumulator
abbrev pub operation_bytes : Operation → List ℕ
operation_bytes (Internal i) = 0 ∷ internal_number i ∷ 0 ∷ []
operation_bytes (Dyadic d a) = 1 ∷ dyadic_number d ∷ accumulator_number a ∷ []
operation_bytes (Monadic m) = 2 ∷ monadic_number m ∷ 0 ∷ []
operation_bytes Tst = 3 ∷ 0 ∷ 0 ∷ []
operation_bytes (Sta a) = 4 ∷ 0 ∷ accumulator_number a ∷ []
operation_bytes (Wide w) = 5 ∷ wide_number w ∷ 0 ∷ []
operation_bytes (WideStore w) = 6 ∷ wide_store_number w ∷ 0 ∷ []
operation_bytes (Psh a) = 7 ∷ 0 ∷ accumulator_number a ∷ []
operation_bytes (Pul a) = 8 ∷ 0 ∷ accumulator_number a ∷ []
operation_bytes Pshx = 9 ∷ 0 ∷ 0 ∷ []
operation_bytes Pulx = 10 ∷ 0 ∷ 0 ∷ []
operation_bytes (Branch b) = 11 ∷ branch_number b ∷ 0 ∷ []
operation_bytes Jmp = 12 ∷ 0 ∷ 0 ∷ []
operation_bytes Jsr = 13 ∷ 0 ∷ 0 ∷ []
operation_bytes Bsr = 14 ∷ 0 ∷ 0 ∷ []
operation_bytes Rts = 15 ∷ 0 ∷ 0 ∷ []
operation_bytes Rti = 16 ∷ 0 ∷ 0 ∷ []
operation_bytes Swi = 17 ∷ 0 ∷ 0 ∷ []
operation_bytes Wai = 18 ∷ 0 ∷ 0 ∷ []

-- an operand place
abbrev pub place_number : Place → ℕ
place_number Inherent = 0
place_number AccumulatorA = 1
place_number AccumulatorB = 2
place_number ImmediateByte = 3
place_number ImmediateWord = 4
place_number Direct = 5
place_number Indexed = 6
place_number Extended = 7
place_number Relative = 8

-- "operation, operand place, length and cycles"
unfoldable pub instruction_bytes : Instruction → List ℕ
instruction_bytes i = operation_bytes i.operation ++ (place_number i.place ∷ i.length ∷ i.cycles ∷ [])
