-- Parts of the machine and their bytes, both ways: words, yes or no, and bytes with some bits clear. Assumes nothing.
use Prim.Native.Nat.{ℕ, ◌+◌, ◌*◌, ◌/◌, ◌%◌, ◌≤◌, ◌<◌}
use native.Mathlib.Omega.{arith}
use mathlib.Core.Path.{◌≡◌, refl, sym, ap, ◌∙◌}
use mathlib.Core.Bool.{Bool, false}
use lib.Dec.{eqb}
use Rattle.bits.specs.Bits.{weight, bit, byte_of}
use Rattle.bits.specs.Words.{high, low}
use Rattle.bits.proofs.Bytes.{times}
use Rattle.tables.proofs.Rows.{between}

-- from a part to its bytes and back

pub word_kept : (w : ℕ) → low w + 256 * high w ≡ w
word_kept w = omega arith

pub long_kept : (n : ℕ) → low n + 256 * low (n / 256) + 65536 * (low (n / 65536) + 256 * (n / 16777216)) ≡ n
long_kept n = omega arith

-- arms have none of bits 0 to 4, and $14 has none of bits 0 to 5
pub arms_none : (b5 b6 b7 : Bool) → byte_of false false false false false b5 b6 b7 % 32 ≡ 0
arms_none b5 b6 b7 = omega (arith, times b5 32, times b6 64, times b7 128)

pub control_none : (b6 b7 : Bool) → byte_of false false false false false false b6 b7 % 64 ≡ 0
control_none b6 b7 = omega (arith, times b6 64, times b7 128)

-- from bytes to a part and back

pub low_back : (a b : ℕ) → a < 256 → low (a + 256 * b) ≡ a
low_back a b h = omega arith

pub high_back : (a b : ℕ) → a < 256 → high (a + 256 * b) ≡ b
high_back a b h = omega arith

-- the four bytes of a number
pub long_back : (a b c d : ℕ) → a < 256 → b < 256 → c < 256
    → let n = a + 256 * b + 65536 * (c + 256 * d) in
    (low n ≡ a) × (low (n / 256) ≡ b) × (low (n / 65536) ≡ c) × (n / 16777216 ≡ d)
long_back a b c d h g f = (omega arith, omega arith, omega arith, omega arith)

pub bool_back : (v : ℕ) → v ≤ 1 → weight (eqb v 1) 1 ≡ v
bool_back v h = between (λ y. weight (eqb y 1) 1) (λ y. y) 0 2 refl v (omega arith) (omega arith)

pub byte_back : (v : ℕ) → v < 256 → byte_of (bit v 1) (bit v 2) (bit v 4) (bit v 8) (bit v 16) (bit v 32) (bit v 64) (bit v 128) ≡ v
byte_back v h =
    between (λ y. byte_of (bit y 1) (bit y 2) (bit y 4) (bit y 8) (bit y 16) (bit y 32) (bit y 64) (bit y 128)) (λ y. y) 0 256 refl v (omega arith) h

-- a byte whose bits 0 to 4 are none, and one whose bits 0 to 5 are none
pub arms_back : (v : ℕ) → v < 256 → v % 32 ≡ 0 → byte_of false false false false false (bit v 32) (bit v 64) (bit v 128) ≡ v
arms_back v h e =
    let q : v / 32 < 8 = omega arith in
    let s : 32 * (v / 32) ≡ v = omega arith in
    ap (λ (y : ℕ). byte_of false false false false false (bit y 32) (bit y 64) (bit y 128)) (sym s)
    ∙ between (λ k. byte_of false false false false false (bit (32 * k) 32) (bit (32 * k) 64) (bit (32 * k) 128)) (λ k. 32 * k) 0 8 refl (v / 32) (omega arith) q
    ∙ s

pub control_back : (v : ℕ) → v < 256 → v % 64 ≡ 0 → byte_of false false false false false false (bit v 64) (bit v 128) ≡ v
control_back v h e =
    let q : v / 64 < 4 = omega arith in
    let s : 64 * (v / 64) ≡ v = omega arith in
    ap (λ (y : ℕ). byte_of false false false false false false (bit y 64) (bit y 128)) (sym s)
    ∙ between (λ k. byte_of false false false false false false (bit (64 * k) 64) (bit (64 * k) 128)) (λ k. 64 * k) 0 4 refl (v / 64) (omega arith) q
    ∙ s
