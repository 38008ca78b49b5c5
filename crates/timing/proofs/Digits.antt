-- The digits of a number: the first, and the rest. Assumes nothing.
use Prim.Native.Nat.{ℕ, zero, suc, ◌/◌, ◌%◌, ◌*◌, ◌<◌}
use native.Mathlib.Omega.{arith}
use mathlib.Core.Path.{◌≡◌, sym, ap}
use mathlib.Core.Bool.{cond}
use mathlib.Core.List.{List, [], ◌∷◌}
use lib.Dec.{eqb}
use borrow.Author.Tests.{eq-eqb, ne_eqb}
use Rattle.timing.specs.Digits.{digits, listed}

-- 16 to the f
abbrev pub power : ℕ → ℕ
power zero = 1
power (suc f) = 16 * power f

more : (f n : ℕ) → n < power f → digits (suc f) n ≡ digits f n
more zero n h = let z : n ≡ 0 = omega arith in rw (eq-eqb n 0 z)
more (suc f) n h = ap (λ (l : List ℕ). cond (eqb n 0) [] (n % 16 ∷ l)) (more f (n / 16) (omega arith))

-- none: nothing is listed
pub listed_none : (n : ℕ) → n ≡ 0 → listed n ≡ []
unfolding listed
listed_none n e = rw (eq-eqb n 0 e)

-- one, and the rest
pub listed_more : (n : ℕ) → n < power 16 → (n ≡ 0 → ⊥) → listed n ≡ n % 16 ∷ listed (n / 16)
unfolding listed
listed_more n h e = rw (ne_eqb n 0 e) (ap (λ (l : List ℕ). n % 16 ∷ l) (sym (more 15 (n / 16) (omega arith))))
