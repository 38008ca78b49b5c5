-- A number in decimal, two texts compared, and a name with an ending.
use Rattle.std.specs.Prelude.{ℕ, ◌+◌, ◌-◌, ◌*◌, Bool, cond, List, [], ◌∷◌, ◌++◌, ltb, length, bytes_eq, Option, Some, None}

-- "digits only, at most 4,294,967,295": a number with a digit more
unfoldable pub with_digit : ℕ → ℕ → Option ℕ
with_digit v digit =
    let w = 10 * v + (digit - 48) in
    cond (ltb digit 48) None (cond (ltb 57 digit) None (cond (ltb 4294967295 w) None (Some w)))

abbrev pub further : Option ℕ → ℕ → Option ℕ
further None digit = None
further (Some v) digit = with_digit v digit

-- digit after digit
unfoldable pub number_from : Option ℕ → List ℕ → Option ℕ
number_from v [] = v
number_from v (digit ∷ digits) = number_from (further v digit) digits

-- "no empty"
unfoldable pub number_of : List ℕ → Option ℕ
number_of text = cond (ltb 0 (length text)) (number_from (Some 0) text) None

-- two texts are the same
abbrev pub same_of : List ℕ → List ℕ → Bool
same_of = bytes_eq

-- a name and then its ending, nothing where there is no room for both
unfoldable pub joined_of : List ℕ → List ℕ → ℕ → List ℕ
joined_of name ending room = cond (ltb room (length name + length ending)) [] (name ++ ending)
