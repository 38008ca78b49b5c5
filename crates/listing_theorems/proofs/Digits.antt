-- Digits written and read again. Assumes nothing.
use Prim.Native.Nat.{ℕ, ◌+◌, ◌*◌, ◌/◌, ◌%◌, ◌<◌}
use native.Mathlib.Omega.{arith}
use mathlib.Core.Path.{◌≡◌, refl}
use mathlib.Core.Bool.{false}
use lib.Dec.{eqb}
use Rattle.tables.proofs.Rows.{agree}
use Rattle.bits.specs.Words.{paired}
use Rattle.characters.specs.Characters.{digit_of}
use Rattle.listing_reading.specs.Reading.{digit_in}

pub digit_back : (d : ℕ) → d < 16 → digit_in (digit_of d) ≡ d
unfolding digit_in
digit_back d h = agree (λ (k : ℕ). digit_in (digit_of k)) (λ (k : ℕ). k) 16 refl d h

-- a digit is neither a line's end nor a comma
pub no_end_lem : (d : ℕ) → d < 16 → eqb (digit_of d) 10 ≡ false
no_end_lem d h = agree (λ (k : ℕ). eqb (digit_of k) 10) (λ (k : ℕ). false) 16 refl d h

pub no_comma : (d : ℕ) → d < 16 → eqb (digit_of d) 44 ≡ false
no_comma d h = agree (λ (k : ℕ). eqb (digit_of k) 44) (λ (k : ℕ). false) 16 refl d h

pub byte_back : (v : ℕ) → v < 256 → 16 * digit_in (digit_of (v / 16 % 16)) + digit_in (digit_of (v % 16)) ≡ v
byte_back v h =
    let e : 16 * (v / 16 % 16) + v % 16 ≡ v = omega arith in
    rw (digit_back (v / 16 % 16) (omega arith), digit_back (v % 16) (omega arith)) e

pub word_back : (v : ℕ) → v < 65536
    → paired (16 * digit_in (digit_of (v / 16 / 16 / 16 % 16)) + digit_in (digit_of (v / 16 / 16 % 16))) (16 * digit_in (digit_of (v / 16 % 16)) + digit_in (digit_of (v % 16))) ≡ v
word_back v h =
    let p : v / 16 / 16 / 16 % 16 < 16 = omega arith in
    let e : (16 * (v / 16 / 16 / 16 % 16) + v / 16 / 16 % 16) * 256 + (16 * (v / 16 % 16) + v % 16) ≡ v = omega arith in
    rw (digit_back (v / 16 / 16 / 16 % 16) p, digit_back (v / 16 / 16 % 16) (omega arith), digit_back (v / 16 % 16) (omega arith), digit_back (v % 16) (omega arith)) e
