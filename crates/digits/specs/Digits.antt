-- A number in digits.
use Rattle.std.specs.Prelude.{ℕ, ◌+◌, ◌*◌, cond, List, [], ◌∷◌, ltb, length, Option, Some, None}
use Rattle.std.specs.Char.{digit_value}

-- "below 2^32": a number with a digit more, 0 to 9 and then A to Z in either case, of which a base has the first
unfoldable pub digit_more : ℕ → ℕ → ℕ → Option ℕ
digit_more base v c =
    let d = digit_value c in
    let w = v * base + d in
    cond (ltb d base) (cond (ltb w 4294967296) (Some w) None) None

abbrev pub digit_further : ℕ → Option ℕ → ℕ → Option ℕ
digit_further base None c = None
digit_further base (Some v) c = digit_more base v c

-- digit after digit
unfoldable pub value_from : ℕ → Option ℕ → List ℕ → Option ℕ
value_from base v [] = v
value_from base v (c ∷ text) = value_from base (digit_further base v c) text

-- no text is no number
unfoldable pub value_of : ℕ → List ℕ → Option ℕ
value_of base text = cond (ltb 0 (length text)) (value_from base (Some 0) text) None
