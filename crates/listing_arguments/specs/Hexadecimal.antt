-- A number in hexadecimal.
use Rattle.std.specs.Prelude.{ℕ, ◌+◌, ◌-◌, ◌*◌, cond, List, [], ◌∷◌, ltb, length, Option, Some, None}

-- "either case": 0 to 9 are 48 to 57, A to F 65 to 70, a to f 97 to 102; what is no digit counts 16
unfoldable pub digit_value : ℕ → ℕ
digit_value c =
    cond (ltb c 48) 16
    (cond (ltb c 58) (c - 48)
    (cond (ltb c 65) 16
    (cond (ltb c 71) (c - 55)
    (cond (ltb c 97) 16
    (cond (ltb c 103) (c - 87) 16)))))

-- "below 2^32": a number with a digit more
unfoldable pub with_hex_digit : ℕ → ℕ → Option ℕ
with_hex_digit v c =
    let d = digit_value c in
    let w = 16 * v + d in
    cond (ltb 15 d) None (cond (ltb 4294967295 w) None (Some w))

abbrev pub further_hex : Option ℕ → ℕ → Option ℕ
further_hex None c = None
further_hex (Some v) c = with_hex_digit v c

-- digit after digit
unfoldable pub hex_from : Option ℕ → List ℕ → Option ℕ
hex_from v [] = v
hex_from v (c ∷ text) = hex_from (further_hex v c) text

-- no text is no number
unfoldable pub hex_of : List ℕ → Option ℕ
hex_of text = cond (ltb 0 (length text)) (hex_from (Some 0) text) None
