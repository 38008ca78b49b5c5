-- The processor's registers, and what the operations that make no access of their own do to them (tables 7, 8 and 10 of 004).
use Rattle.std.specs.Prelude.{ℕ, ◌+◌, Bool, true, false, cond, ltb}
use Rattle.bits.specs.Words.{high, low, paired, up, down}
use Rattle.opcodes.specs.declared.Accumulator.{Accumulator}
use Rattle.opcodes.specs.declared.Accumulator.TheVariants.{A, B}
use Rattle.opcodes.specs.declared.Internal.{Internal}
use Rattle.opcodes.specs.declared.Internal.TheVariants.{Nop, Lsrd, Asld, Tap, Tpa, Inx, Dex, Clv, Sev, Clc, Sec, Cli, Sei, Sba, Cba}
use Rattle.opcodes.specs.declared.Internal.TheVariants.{Tab, Tba, Daa, Aba, Tsx, Ins, Des, Txs, Abx, Mul}
use Rattle.opcodes.specs.declared.Wide.{Wide}
use Rattle.opcodes.specs.declared.Wide.TheVariants.{Subd, Addd, Cpx, Ldd, Lds, Ldx}
use Rattle.opcodes.specs.declared.WideStore.{WideStore}
use Rattle.opcodes.specs.declared.WideStore.TheVariants.{Std, Sts, Stx}
use Rattle.arithmetic.specs.declared.Codes.{Codes}
use Rattle.arithmetic.specs.declared.Outcome.{Outcome}
use Rattle.arithmetic.specs.Codes.{codes_byte, codes_of}
use Rattle.arithmetic.specs.Results.{add_of, sub_of, daa_of, mul_of, moved_of, moved16_of, add16_of, sub16_of, asl16_of, lsr16_of, indexed_of}
use Rattle.registers.specs.declared.Registers.{Registers}

-- the registers with one replaced
abbrev pub with_a : Registers → ℕ → Registers
with_a c v = record { a = v; b = c.b; x = c.x; sp = c.sp; pc = c.pc; codes = c.codes; waiting = c.waiting }

abbrev pub with_b : Registers → ℕ → Registers
with_b c v = record { a = c.a; b = v; x = c.x; sp = c.sp; pc = c.pc; codes = c.codes; waiting = c.waiting }

abbrev pub with_x : Registers → ℕ → Registers
with_x c w = record { a = c.a; b = c.b; x = w; sp = c.sp; pc = c.pc; codes = c.codes; waiting = c.waiting }

abbrev pub with_sp : Registers → ℕ → Registers
with_sp c w = record { a = c.a; b = c.b; x = c.x; sp = w; pc = c.pc; codes = c.codes; waiting = c.waiting }

abbrev pub with_pc : Registers → ℕ → Registers
with_pc c w = record { a = c.a; b = c.b; x = c.x; sp = c.sp; pc = w; codes = c.codes; waiting = c.waiting }

abbrev pub with_codes : Registers → Codes → Registers
with_codes c k = record { a = c.a; b = c.b; x = c.x; sp = c.sp; pc = c.pc; codes = k; waiting = c.waiting }

abbrev pub with_waiting : Registers → Bool → Registers
with_waiting c w = record { a = c.a; b = c.b; x = c.x; sp = c.sp; pc = c.pc; codes = c.codes; waiting = w }

-- whether a cycle merely passes
abbrev pub idles : Registers → Bool
idles c = c.waiting

-- the double accumulator: A is its high byte and B its low one
abbrev pub d : Registers → ℕ
d c = paired c.a c.b

abbrev pub with_d : Registers → ℕ → Registers
with_d c w = record { a = high w; b = low w; x = c.x; sp = c.sp; pc = c.pc; codes = c.codes; waiting = c.waiting }

abbrev pub accumulator : Accumulator → Registers → ℕ
accumulator A c = c.a
accumulator B c = c.b

abbrev pub with_accumulator : Accumulator → Registers → ℕ → Registers
with_accumulator A c v = with_a c v
with_accumulator B c v = with_b c v

-- a result with its codes, in an accumulator and in D
abbrev pub result_in : Accumulator → Registers → Outcome ℕ → Registers
result_in acc c r = with_codes (with_accumulator acc c r.value) r.codes

abbrev pub result_in_d : Registers → Outcome ℕ → Registers
result_in_d c r = with_codes (with_d c r.value) r.codes

-- the condition codes with V, C or I replaced
abbrev pub with_v : Codes → Bool → Codes
with_v k b = record { h = k.h; i = k.i; n = k.n; z = k.z; v = b; c = k.c }

abbrev pub with_c : Codes → Bool → Codes
with_c k b = record { h = k.h; i = k.i; n = k.n; z = k.z; v = k.v; c = b }

abbrev pub with_i : Codes → Bool → Codes
with_i k b = record { h = k.h; i = b; n = k.n; z = k.z; v = k.v; c = k.c }

-- the operations on the registers alone
abbrev pub internal_of : Internal → Registers → Registers
internal_of Nop c = c
internal_of Lsrd c = result_in_d c (lsr16_of (d c) c.codes)
internal_of Asld c = result_in_d c (asl16_of (d c) c.codes)
internal_of Tap c = with_codes c (codes_of c.a)
internal_of Tpa c = with_a c (codes_byte c.codes)
internal_of Inx c = with_codes (with_x c (up c.x 1)) (indexed_of (up c.x 1) c.codes)
internal_of Dex c = with_codes (with_x c (down c.x 1)) (indexed_of (down c.x 1) c.codes)
internal_of Clv c = with_codes c (with_v c.codes false)
internal_of Sev c = with_codes c (with_v c.codes true)
internal_of Clc c = with_codes c (with_c c.codes false)
internal_of Sec c = with_codes c (with_c c.codes true)
internal_of Cli c = with_codes c (with_i c.codes false)
internal_of Sei c = with_codes c (with_i c.codes true)
internal_of Sba c = result_in A c (sub_of c.a c.b c.codes)
internal_of Cba c = with_codes c (sub_of c.a c.b c.codes).codes
internal_of Tab c = with_codes (with_b c c.a) (moved_of c.a c.codes)
internal_of Tba c = with_codes (with_a c c.b) (moved_of c.b c.codes)
internal_of Daa c = result_in A c (daa_of c.a c.codes)
internal_of Aba c = result_in A c (add_of c.a c.b c.codes)
internal_of Tsx c = with_x c (up c.sp 1)
internal_of Ins c = with_sp c (up c.sp 1)
internal_of Des c = with_sp c (down c.sp 1)
internal_of Txs c = with_sp c (down c.x 1)
internal_of Abx c = with_x c (up c.x c.b)
internal_of Mul c = result_in_d c (mul_of c.a c.b c.codes)

-- a 16-bit register and a word
abbrev pub wide_of : Wide → ℕ → Registers → Registers
wide_of Subd w c = result_in_d c (sub16_of (d c) w c.codes)
wide_of Addd w c = result_in_d c (add16_of (d c) w c.codes)
wide_of Cpx w c = with_codes c (sub16_of c.x w c.codes).codes
wide_of Ldd w c = with_codes (with_d c w) (moved16_of w c.codes)
wide_of Lds w c = with_codes (with_sp c w) (moved16_of w c.codes)
wide_of Ldx w c = with_codes (with_x c w) (moved16_of w c.codes)

-- the 16-bit register that is stored
abbrev pub stored_of : WideStore → Registers → ℕ
stored_of Std c = d c
stored_of Sts c = c.sp
stored_of Stx c = c.x

-- "Branch offsets run from -128 to 127 after the two bytes": a byte as such an offset, round at 65,536
abbrev pub offset : ℕ → ℕ
offset v = cond (ltb v 128) v (v + 65280)
