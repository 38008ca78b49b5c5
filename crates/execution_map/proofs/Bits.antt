-- One bit of a number: what it is after another is added, and how many are set. Assumes nothing.
use Prim.Native.Nat.{ℕ, zero, suc, ◌+◌, ◌*◌, ◌-◌, ◌/◌, ◌%◌, ◌^◌, ◌<◌}
use native.Mathlib.Numerals.{one-add}
use native.Mathlib.Omega.{arith}
use mathlib.Core.Path.{◌≡◌, refl, sym, ap, ◌∙◌}
use lib.Bits.{bit_and, bit_or, or_disjoint, and_high}
use lib.Count.{ones, ones_step}
use lib.Pow.{shr-shr, pow-add, pow-lt}

-- the next bit is this bit of the half
pub bit_next : (b k : ℕ) → b / 2 ^ suc k % 2 ≡ b / 2 / 2 ^ k % 2
bit_next b k = ap (λ (n : ℕ). n % 2) (sym (shr-shr b 1 k ∙ ap (λ (n : ℕ). b / 2 ^ n) (one-add k)))

-- all eight bits of 255 are set
pub full : (k : ℕ) → k < 8 → 255 / 2 ^ k % 2 ≡ 1
full zero h = refl
full (suc zero) h = refl
full (suc (suc zero)) h = refl
full (suc (suc (suc zero))) h = refl
full (suc (suc (suc (suc zero)))) h = refl
full (suc (suc (suc (suc (suc zero))))) h = refl
full (suc (suc (suc (suc (suc (suc zero)))))) h = refl
full (suc (suc (suc (suc (suc (suc (suc zero))))))) h = refl
full (suc (suc (suc (suc (suc (suc (suc (suc k)))))))) h = absurd (let z : ⊥ = omega (arith, h) in z)

-- a clear bit is set by adding its power
pub set_here : (k b : ℕ) → b / 2 ^ k % 2 ≡ 0 → (b + 2 ^ k) / 2 ^ k % 2 ≡ 1
set_here zero b e = omega (arith, e)
set_here (suc k) b e =
    let h : (b + 2 ^ suc k) / 2 ≡ b / 2 + 2 ^ k = omega arith in
    bit_next (b + 2 ^ suc k) k ∙ ap (λ (n : ℕ). n / 2 ^ k % 2) h ∙ set_here k (b / 2) (sym (bit_next b k) ∙ e)

-- .. and no other changes
pub set_there : (k j b : ℕ) → b / 2 ^ k % 2 ≡ 0 → (k ≡ j → ⊥) → (b + 2 ^ k) / 2 ^ j % 2 ≡ b / 2 ^ j % 2
set_there zero zero b e n = absurd (n refl)
set_there zero (suc j) b e n =
    let h : (b + 2 ^ zero) / 2 ≡ b / 2 = omega (arith, e) in
    bit_next (b + 1) j ∙ ap (λ (m : ℕ). m / 2 ^ j % 2) h ∙ sym (bit_next b j)
set_there (suc k) zero b e n = omega arith
set_there (suc k) (suc j) b e n =
    let h : (b + 2 ^ suc k) / 2 ≡ b / 2 + 2 ^ k = omega arith in
    bit_next (b + 2 ^ suc k) j ∙ ap (λ (m : ℕ). m / 2 ^ j % 2) h
    ∙ set_there k j (b / 2) (sym (bit_next b k) ∙ e) (λ q. n (ap suc q)) ∙ sym (bit_next b j)

-- .. and one bit more is set
pub one_more : (k b : ℕ) → b / 2 ^ k % 2 ≡ 0 → ones (b + 2 ^ k) ≡ ones b + 1
one_more zero b e =
    let h : (b + 2 ^ zero) / 2 ≡ b / 2 = omega (arith, e) in
    let s = ones_step (b + 1) in
    let t = ones_step b in
    let u = ap ones h in
    omega (arith, e, s, t, u)
one_more (suc k) b e =
    let h : (b + 2 ^ suc k) / 2 ≡ b / 2 + 2 ^ k = omega arith in
    let s = ones_step (b + 2 ^ suc k) in
    let t = ones_step b in
    let u = ap ones h in
    let r = one_more k (b / 2) (sym (bit_next b k) ∙ e) in
    omega (arith, s, t, u, r)

-- .. as "or" does
pub or_clear : (k b : ℕ) → b / 2 ^ k % 2 ≡ 0 → bit_or b (2 ^ k) ≡ b + 2 ^ k
or_clear k b e = or_disjoint b (2 ^ k) (ap (bit_and b) power ∙ and_high b 1 k ∙ ap (λ (n : ℕ). n * 2 ^ k) e ∙ omega arith)
  where
    power : 2 ^ k ≡ 2 ^ (1 + k) - 2 ^ k
    power = let p = pow-add 2 1 k in omega (arith, p)

-- the powers that a byte holds
pub power_fits : (k : ℕ) → k < 8 → (1 * 2 ^ k) % 256 ≡ 2 ^ k
power_fits k h = let l = pow-lt h in omega (arith, l)
