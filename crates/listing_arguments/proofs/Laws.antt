-- A number in hexadecimal is a number in digits, of base 16. Assumes nothing.
use Rattle.std.proofs.Common.{◌≡◌, ℕ, ◌+◌, ◌*◌, ◌<◌, ◌≤◌, List, [], ◌∷◌, arith, refl, ap, ◌∙◌}
use Rattle.std.specs.Prelude.{Option, Some, None, cond, ltb, ◌⊎◌}
use Rattle.std.specs.Char as char
use Rattle.digits.specs.Digits.{digit_more, digit_further, value_from, value_of}
use Rattle.listing_arguments.specs.Hexadecimal.{digit_value, with_hex_digit, further_hex, hex_from, hex_of}

-- a character is the same digit by both tables, or is none
same_value : (c : ℕ) → ((char.digit_value c ≡ digit_value c) × (digit_value c ≤ 15)) ⊎ ((15 < char.digit_value c) × (digit_value c ≡ 16))
unfolding digit_value
same_value c = grind arith

same_digit : (v c : ℕ) → digit_more 16 v c ≡ with_hex_digit v c
unfolding digit_more with_hex_digit
same_digit v c = by (char.digit_value c) (digit_value c) (same_value c)
  where
    by : (d e : ℕ) → ((d ≡ e) × (e ≤ 15)) ⊎ ((15 < d) × (e ≡ 16))
        → cond (ltb d 16) (cond (ltb (v * 16 + d) 4294967296) (Some (v * 16 + d)) None) None
        ≡ cond (ltb 15 e) None (cond (ltb 4294967295 (16 * v + e)) None (Some (16 * v + e)))
    by d e h = grind (arith, h)

same_further : (v : Option ℕ) (c : ℕ) → digit_further 16 v c ≡ further_hex v c
same_further None c = refl
same_further (Some v) c = same_digit v c

same_from : (v : Option ℕ) (l : List ℕ) → value_from 16 v l ≡ hex_from v l
unfolding value_from hex_from
same_from v [] = refl
same_from v (c ∷ l) = ap (λ (w : Option ℕ). value_from 16 w l) (same_further v c) ∙ same_from (further_hex v c) l

pub same_hex : (l : List ℕ) → value_of 16 l ≡ hex_of l
unfolding value_of hex_of
same_hex l = rw (same_from (Some 0) l) refl
