-- What decimal adjust is for: DAA after ADDA, ABA or ADCA of two bytes of two decimal digits leaves the last two digits of their sum, in
-- ADCA with the one that C adds, and its hundred in C. All 20,000 sums are computed. Assumes nothing.
use Rattle.std.proofs.Common.{◌≡◌, ℕ, ◌+◌, ◌*◌, ◌/◌, ◌%◌, ◌<◌, Bool, true, false, leb, refl, arith}
use Rattle.tables.proofs.Rows.{from, agree}
use Rattle.bits.specs.Bits.{weight}
use Rattle.opcodes.specs.declared.Dyadic.TheVariants.{Adc, Add}
use Rattle.arithmetic.specs.Results.{add_with_of, add_of, dyadic_of, daa_of}
use Rattle.arithmetic.specs.declared.Codes.{Codes}
use Rattle.arithmetic.specs.declared.Outcome.{Outcome}

-- the byte of a number's two digits
abbrev pub digits : ℕ → ℕ
digits n = n / 10 * 16 + n % 10

-- A and C
pub record Adjusted : Type 0 where
  a : ℕ
  c : Bool

-- .. after DAA of a result
abbrev pub adjusted : Outcome ℕ → Adjusted
adjusted s = let d = daa_of s.value s.codes in record { a = d.value; c = d.codes.c }

-- .. by the numbers' own sum, with one more or not
abbrev pub decimal_sum : Bool → ℕ → ℕ → Adjusted
decimal_sum more x y = let t = x + y + weight more 1 in record { a = digits (t % 100); c = leb 100 t }

-- over two numbers below 100 as one below 10,000
abbrev over : (ℕ → ℕ → Adjusted) → ℕ → Adjusted
over f n = f (n / 100) (n % 100)

abbrev adjusted_sum : Bool → Codes → ℕ → ℕ → Adjusted
adjusted_sum more k x y = adjusted (add_with_of (digits x) (digits y) more k)

all : (more : Bool) (k : Codes) → from (over (adjusted_sum more k)) 0 10000 ≡ from (over (decimal_sum more)) 0 10000
unfolding daa_of
all true k = refl
all false k = refl

module _ (k : Codes) (x y : ℕ) (hx : x < 100) (hy : y < 100) where
  daa_sum : (more : Bool) → adjusted_sum more k x y ≡ decimal_sum more x y
  daa_sum more =
      let tens : (100 * x + y) / 100 ≡ x = omega arith in
      let ones : (100 * x + y) % 100 ≡ y = omega arith in
      let e = agree (over (adjusted_sum more k)) (over (decimal_sum more)) 10000 (all more k) (100 * x + y) (omega arith) in
      rw (tens, ones) at e

  -- ABA; ADDA, which is the same; ADCA
  pub daa_aba : adjusted (add_of (digits x) (digits y) k) ≡ decimal_sum false x y
  unfolding add_of
  daa_aba = daa_sum false

  pub daa_add : adjusted (dyadic_of Add (digits x) (digits y) k) ≡ decimal_sum false x y
  unfolding dyadic_of
  daa_add = daa_aba

  pub daa_adc : adjusted (dyadic_of Adc (digits x) (digits y) k) ≡ decimal_sum k.c x y
  unfolding dyadic_of
  daa_adc = daa_sum k.c
