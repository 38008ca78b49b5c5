-- Texts in ASCII, and numbers in hexadecimal digits.
use Rattle.std.specs.Prelude.{ℕ, zero, suc, ◌+◌, ◌/◌, ◌%◌, List, [], ◌∷◌, ◌++◌, cond, ltb}
use Prim.Native.Char.{code}
use Prim.Native.String.{String}
use Prim.Native.String as string

-- a text's codes
abbrev pub ascii : String → List ℕ
ascii string.[] = []
ascii (string.◌∷◌ c s) = code c ∷ ascii s

-- the sign of a digit: 0 to 9, then A to F
abbrev pub digit_of : ℕ → ℕ
digit_of d = cond (ltb d 10) (48 + d) (55 + d)

-- "in hexadecimal": so many digits
abbrev pub hexadecimal_of : ℕ → ℕ → List ℕ
hexadecimal_of zero n = []
hexadecimal_of (suc k) n = hexadecimal_of k (n / 16) ++ (digit_of (n % 16) ∷ [])
