-- The mnemonics of 004 (tables 7 to 10), as four characters: "written together (LDAA, BITA, PSHX, NEGA, ASLD), no aliases". One of three letters
-- ends in a blank.
use Rattle.std.specs.Prelude.{ℕ, List, [], ◌∷◌, get_or}
use Rattle.characters.specs.Characters.{ascii}
use Rattle.opcodes.specs.declared.Accumulator.{Accumulator}
use Rattle.opcodes.specs.declared.Accumulator.TheVariants.{A, B}
use Rattle.opcodes.specs.declared.Dyadic.{Dyadic as DyadicOperation}
use Rattle.opcodes.specs.declared.Dyadic.TheVariants.{Sub, Cmp, Sbc, And, Bit, Lda, Eor, Adc, Ora, Add}
use Rattle.opcodes.specs.declared.Monadic.{Monadic as MonadicOperation}
use Rattle.opcodes.specs.declared.Monadic.TheVariants.{Neg, Com, Lsr, Ror, Asr, Asl, Rol, Dec, Inc, Clr}
use Rattle.opcodes.specs.declared.Wide.{Wide as WideOperation}
use Rattle.opcodes.specs.declared.Wide.TheVariants.{Subd, Addd, Cpx, Ldd, Lds, Ldx}
use Rattle.opcodes.specs.declared.WideStore.{WideStore as WideStoreOperation}
use Rattle.opcodes.specs.declared.WideStore.TheVariants.{Std, Sts, Stx}
use Rattle.opcodes.specs.declared.Internal.{Internal as InternalOperation}
use Rattle.opcodes.specs.declared.Internal.TheVariants.{Nop, Lsrd, Asld, Tap, Tpa, Inx, Dex, Clv, Sev, Clc, Sec, Cli, Sei}
use Rattle.opcodes.specs.declared.Internal.TheVariants.{Sba, Cba, Tab, Tba, Daa, Aba, Tsx, Ins, Des, Txs, Abx, Mul}
use Rattle.opcodes.specs.declared.Branch.{Branch as BranchTest}
use Rattle.opcodes.specs.declared.Branch.TheVariants.{Bra, Brn, Bhi, Bls, Bcc, Bcs, Bne, Beq, Bvc, Bvs, Bpl, Bmi, Bge, Blt, Bgt, Ble}
use Rattle.opcodes.specs.declared.Operation.{Operation}
use Rattle.opcodes.specs.declared.Operation.TheVariants.{Internal, Dyadic, Monadic, Tst, Sta, Wide, WideStore, Psh, Pul, Pshx}
use Rattle.opcodes.specs.declared.Operation.TheVariants.{Pulx, Branch, Jmp, Jsr, Bsr, Rts, Rti, Swi, Wai}
use Rattle.opcodes.specs.declared.Place.{Place}
use Rattle.opcodes.specs.declared.Place.TheVariants.{Inherent, AccumulatorA, AccumulatorB, ImmediateByte, ImmediateWord, Direct, Indexed, Extended, Relative}

-- the letter of an accumulator that is part of the operation, and of one that is the operand's place
abbrev pub letter_of : Accumulator → ℕ
letter_of A = 65
letter_of B = 66

abbrev pub place_letter : Place → ℕ
place_letter AccumulatorA = letter_of A
place_letter AccumulatorB = letter_of B
place_letter Inherent = 32
place_letter ImmediateByte = 32
place_letter ImmediateWord = 32
place_letter Direct = 32
place_letter Indexed = 32
place_letter Extended = 32
place_letter Relative = 32

abbrev pub dyadic_name : DyadicOperation → List ℕ
dyadic_name Sub = ascii "SUB"
dyadic_name Cmp = ascii "CMP"
dyadic_name Sbc = ascii "SBC"
dyadic_name And = ascii "AND"
dyadic_name Bit = ascii "BIT"
dyadic_name Lda = ascii "LDA"
dyadic_name Eor = ascii "EOR"
dyadic_name Adc = ascii "ADC"
dyadic_name Ora = ascii "ORA"
dyadic_name Add = ascii "ADD"

abbrev pub monadic_name : MonadicOperation → List ℕ
monadic_name Neg = ascii "NEG"
monadic_name Com = ascii "COM"
monadic_name Lsr = ascii "LSR"
monadic_name Ror = ascii "ROR"
monadic_name Asr = ascii "ASR"
monadic_name Asl = ascii "ASL"
monadic_name Rol = ascii "ROL"
monadic_name Dec = ascii "DEC"
monadic_name Inc = ascii "INC"
monadic_name Clr = ascii "CLR"

abbrev pub wide_name : WideOperation → List ℕ
wide_name Subd = ascii "SUBD"
wide_name Addd = ascii "ADDD"
wide_name Cpx = ascii "CPX "
wide_name Ldd = ascii "LDD "
wide_name Lds = ascii "LDS "
wide_name Ldx = ascii "LDX "

abbrev pub wide_store_name : WideStoreOperation → List ℕ
wide_store_name Std = ascii "STD "
wide_store_name Sts = ascii "STS "
wide_store_name Stx = ascii "STX "

abbrev pub internal_name : InternalOperation → List ℕ
internal_name Nop = ascii "NOP "
internal_name Lsrd = ascii "LSRD"
internal_name Asld = ascii "ASLD"
internal_name Tap = ascii "TAP "
internal_name Tpa = ascii "TPA "
internal_name Inx = ascii "INX "
internal_name Dex = ascii "DEX "
internal_name Clv = ascii "CLV "
internal_name Sev = ascii "SEV "
internal_name Clc = ascii "CLC "
internal_name Sec = ascii "SEC "
internal_name Cli = ascii "CLI "
internal_name Sei = ascii "SEI "
internal_name Sba = ascii "SBA "
internal_name Cba = ascii "CBA "
internal_name Tab = ascii "TAB "
internal_name Tba = ascii "TBA "
internal_name Daa = ascii "DAA "
internal_name Aba = ascii "ABA "
internal_name Tsx = ascii "TSX "
internal_name Ins = ascii "INS "
internal_name Des = ascii "DES "
internal_name Txs = ascii "TXS "
internal_name Abx = ascii "ABX "
internal_name Mul = ascii "MUL "

abbrev pub branch_name : BranchTest → List ℕ
branch_name Bra = ascii "BRA "
branch_name Brn = ascii "BRN "
branch_name Bhi = ascii "BHI "
branch_name Bls = ascii "BLS "
branch_name Bcc = ascii "BCC "
branch_name Bcs = ascii "BCS "
branch_name Bne = ascii "BNE "
branch_name Beq = ascii "BEQ "
branch_name Bvc = ascii "BVC "
branch_name Bvs = ascii "BVS "
branch_name Bpl = ascii "BPL "
branch_name Bmi = ascii "BMI "
branch_name Bge = ascii "BGE "
branch_name Blt = ascii "BLT "
branch_name Bgt = ascii "BGT "
branch_name Ble = ascii "BLE "

-- three letters and a fourth
abbrev pub lettered : List ℕ → ℕ → List ℕ
lettered three fourth = get_or three 0 0 ∷ get_or three 1 0 ∷ get_or three 2 0 ∷ fourth ∷ []

-- the mnemonic of an operation at a place
unfoldable pub mnemonic_of : Operation → Place → List ℕ
mnemonic_of (Internal i) place = internal_name i
mnemonic_of (Dyadic d a) place = lettered (dyadic_name d) (letter_of a)
mnemonic_of (Monadic m) place = lettered (monadic_name m) (place_letter place)
mnemonic_of Tst place = lettered (ascii "TST") (place_letter place)
mnemonic_of (Sta a) place = lettered (ascii "STA") (letter_of a)
mnemonic_of (Wide w) place = wide_name w
mnemonic_of (WideStore w) place = wide_store_name w
mnemonic_of (Psh a) place = lettered (ascii "PSH") (letter_of a)
mnemonic_of (Pul a) place = lettered (ascii "PUL") (letter_of a)
mnemonic_of (Branch b) place = branch_name b
mnemonic_of Pshx place = ascii "PSHX"
mnemonic_of Pulx place = ascii "PULX"
mnemonic_of Jmp place = ascii "JMP "
mnemonic_of Jsr place = ascii "JSR "
mnemonic_of Bsr place = ascii "BSR "
mnemonic_of Rts place = ascii "RTS "
mnemonic_of Rti place = ascii "RTI "
mnemonic_of Swi place = ascii "SWI "
mnemonic_of Wai place = ascii "WAI "
