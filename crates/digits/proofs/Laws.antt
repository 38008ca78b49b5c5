-- The laws of a number in digits, one digit at a time. Assumes nothing.
use Rattle.std.proofs.Common.{◌≡◌, ℕ, ◌+◌, ◌<◌, List, [], ◌∷◌, length, get_or, drop, refl, add-one, drop-cons}
use Rattle.std.specs.Prelude.{Some, None}
use Rattle.digits.specs.Digits.{digit_more, value_from}

pub from_none : (base : ℕ) (l : List ℕ) → value_from base None l ≡ None
unfolding value_from
from_none base [] = refl
from_none base (c ∷ l) = from_none base l

pub from_step : (base : ℕ) (l : List ℕ) (i v : ℕ) → i < length l
    → value_from base (Some v) (drop i l) ≡ value_from base (digit_more base v (get_or l i 0)) (drop (i + 1) l)
unfolding value_from
from_step base l i v h = rw (add-one, drop-cons l i 0)
