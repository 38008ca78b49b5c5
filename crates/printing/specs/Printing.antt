-- A line of text in ASCII, and numbers as text.
use Rattle.std.specs.Prelude.{ℕ, zero, suc, ◌+◌, ◌/◌, ◌%◌, List, [], ◌∷◌, ◌++◌, cond, set, take, replicate, ltb}
use Rattle.printing.specs.declared.Line.{Line}
pub use Rattle.characters.specs.Characters.{ascii, digit_of, hexadecimal_of}

abbrev pub empty_line : Line
empty_line = record { bytes = replicate 256 0; length = 0 }

-- a byte after those that are there; the 256th begins the line anew
abbrev pub put_of : Line → ℕ → Line
put_of l b = record { bytes = set l.bytes l.length b; length = (l.length + 1) % 256 }

unfoldable pub puts_of : Line → List ℕ → Line
puts_of l [] = l
puts_of l (b ∷ bs) = puts_of (put_of l b) bs

-- the text that a line shows
abbrev pub shown : Line → List ℕ
shown l = take l.length l.bytes

-- "in decimal": as few digits as hold the number, at most so many
unfoldable pub decimal_from : ℕ → ℕ → List ℕ
decimal_from zero n = []
decimal_from (suc k) n = cond (ltb n 10) [] (decimal_from k (n / 10)) ++ (digit_of (n % 10) ∷ [])

-- 20 digits hold every number below 2^64
abbrev pub decimal_of : ℕ → List ℕ
decimal_of n = decimal_from 20 n
