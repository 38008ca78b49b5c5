-- A byte of bits has each of them. Assumes nothing.
use Rattle.std.proofs.Common.{◌≡◌, ℕ, ◌+◌, ◌*◌, ◌/◌, ◌%◌, ◌≤◌, Bool, true, false, eqb, refl, ap, ◌∙◌, arith}
use mir.Val.{bool_byte}
use Rattle.bits.specs.Bits.{weight, bit, byte_of}

-- a bit as the code has it: its number, times its weight
one : (b : Bool) → bool_byte b ≡ weight b 1
one true = refl
one false = refl

weighed : (b : Bool) (w : ℕ) → bool_byte b * w ≡ weight b w
weighed true w = omega arith
weighed false w = omega arith

pub byte_summed : (b0 b1 b2 b3 b4 b5 b6 b7 : Bool)
    → bool_byte b0 + bool_byte b1 * 2 + bool_byte b2 * 4 + bool_byte b3 * 8 + bool_byte b4 * 16 + bool_byte b5 * 32 + bool_byte b6 * 64 + bool_byte b7 * 128
    ≡ byte_of b0 b1 b2 b3 b4 b5 b6 b7
byte_summed b0 b1 b2 b3 b4 b5 b6 b7 = λ i.
    one b0 i + weighed b1 2 i + weighed b2 4 i + weighed b3 8 i + weighed b4 16 i + weighed b5 32 i + weighed b6 64 i + weighed b7 128 i

pub bool_kept : (b : Bool) → eqb (weight b 1) 1 ≡ b
bool_kept true = refl
bool_kept false = refl

pub bool_most : (b : Bool) → weight b 1 ≤ 1
bool_most true = omega arith
bool_most false = omega arith

-- a bit's weight
pub times : (b : Bool) (w : ℕ) → weight b w ≡ w * weight b 1
times true w = omega arith
times false w = omega arith

-- eight digits of 0 or 1, and each of them found again
digits : (n0 n1 n2 n3 n4 n5 n6 n7 : ℕ) → n0 ≤ 1 → n1 ≤ 1 → n2 ≤ 1 → n3 ≤ 1 → n4 ≤ 1 → n5 ≤ 1 → n6 ≤ 1 → n7 ≤ 1
    → let v = n0 + 2 * n1 + 4 * n2 + 8 * n3 + 16 * n4 + 32 * n5 + 64 * n6 + 128 * n7 in
    (v / 1 % 2 ≡ n0) × (v / 2 % 2 ≡ n1) × (v / 4 % 2 ≡ n2) × (v / 8 % 2 ≡ n3) × (v / 16 % 2 ≡ n4) × (v / 32 % 2 ≡ n5) × (v / 64 % 2 ≡ n6) × (v / 128 % 2 ≡ n7)
digits n0 n1 n2 n3 n4 n5 n6 n7 h0 h1 h2 h3 h4 h5 h6 h7 = (omega arith, omega arith, omega arith, omega arith, omega arith, omega arith, omega arith, omega arith)

-- a byte of these bits has each of them
module _ (b0 b1 b2 b3 b4 b5 b6 b7 : Bool) where
  abbrev whole : ℕ
  whole = byte_of b0 b1 b2 b3 b4 b5 b6 b7

  summed : whole ≡ weight b0 1 + 2 * weight b1 1 + 4 * weight b2 1 + 8 * weight b3 1 + 16 * weight b4 1 + 32 * weight b5 1 + 64 * weight b6 1 + 128 * weight b7 1
  summed = λ i. weight b0 1 + times b1 2 i + times b2 4 i + times b3 8 i + times b4 16 i + times b5 32 i + times b6 64 i + times b7 128 i

  found : {v : ℕ} (w : ℕ) (b : Bool) → whole ≡ v → v / w % 2 ≡ weight b 1 → bit whole w ≡ b
  found w b e d = ap (λ (n : ℕ). eqb (n / w % 2) 1) e ∙ ap (λ (n : ℕ). eqb n 1) d ∙ bool_kept b

  pub bits_kept : (bit whole 1 ≡ b0) × (bit whole 2 ≡ b1) × (bit whole 4 ≡ b2) × (bit whole 8 ≡ b3) × (bit whole 16 ≡ b4) × (bit whole 32 ≡ b5) × (bit whole 64 ≡ b6) × (bit whole 128 ≡ b7)
  bits_kept =
      let d = digits _ _ _ _ _ _ _ _ (bool_most b0) (bool_most b1) (bool_most b2) (bool_most b3) (bool_most b4) (bool_most b5) (bool_most b6) (bool_most b7) in (
        found 1 b0 summed d.0,
        found 2 b1 summed d.1,
        found 4 b2 summed d.2,
        found 8 b3 summed d.3,
        found 16 b4 summed d.4,
        found 32 b5 summed d.5,
        found 64 b6 summed d.6,
        found 128 b7 summed d.7,
      )
