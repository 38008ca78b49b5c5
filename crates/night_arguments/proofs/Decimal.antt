-- A number in decimal is a number in digits, of base 10. Assumes nothing.
use Rattle.std.proofs.Common.{◌≡◌, ℕ, ◌+◌, ◌-◌, ◌*◌, ◌<◌, ◌≤◌, List, [], ◌∷◌, arith, refl, ap, ◌∙◌}
use Rattle.std.specs.Prelude.{Option, Some, None, cond, ltb, ◌⊎◌}
use Rattle.std.specs.Char as char
use Rattle.digits.specs.Digits.{digit_more, digit_further, value_from, value_of}
use Rattle.night_arguments.specs.Arguments.{with_digit, further, number_from, number_of}

-- a character is 0 to 9, or no digit
same_value : (c : ℕ) → ((48 ≤ c) × (c ≤ 57) × (char.digit_value c ≡ c - 48)) ⊎ ((10 ≤ char.digit_value c) × ((c < 48) ⊎ (57 < c)))
same_value c = grind arith

same_digit : (v c : ℕ) → digit_more 10 v c ≡ with_digit v c
unfolding digit_more with_digit
same_digit v c = by (char.digit_value c) (same_value c)
  where
    by : (d : ℕ) → ((48 ≤ c) × (c ≤ 57) × (d ≡ c - 48)) ⊎ ((10 ≤ d) × ((c < 48) ⊎ (57 < c)))
        → cond (ltb d 10) (cond (ltb (v * 10 + d) 4294967296) (Some (v * 10 + d)) None) None
        ≡ cond (ltb c 48) None (cond (ltb 57 c) None (cond (ltb 4294967295 (10 * v + (c - 48))) None (Some (10 * v + (c - 48)))))
    by d h = grind (arith, h)

same_further : (v : Option ℕ) (c : ℕ) → digit_further 10 v c ≡ further v c
same_further None c = refl
same_further (Some v) c = same_digit v c

same_from : (v : Option ℕ) (l : List ℕ) → value_from 10 v l ≡ number_from v l
unfolding value_from number_from
same_from v [] = refl
same_from v (c ∷ l) = ap (λ (w : Option ℕ). value_from 10 w l) (same_further v c) ∙ same_from (further v c) l

pub same_number : (l : List ℕ) → value_of 10 l ≡ number_of l
unfolding value_of number_of
same_number l = rw (same_from (Some 0) l) refl
