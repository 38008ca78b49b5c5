-- Numbers in bytes, "all little-endian": what stands at a place of some bytes, and the bytes of a number.
use Rattle.std.specs.Prelude.{ℕ, zero, suc, ◌+◌, ◌*◌, ◌/◌, ◌%◌, List, [], ◌∷◌, ◌++◌, length, get_or, drop}

-- byte k after a place; 0 past the end
abbrev pub byte_at : List ℕ → ℕ → ℕ → ℕ
byte_at s at k = get_or s (at + k) 0

-- the numbers of two and of four bytes from byte k on
abbrev pub two : List ℕ → ℕ → ℕ → ℕ
two s at k = byte_at s at k + 256 * byte_at s at (k + 1)

abbrev pub four : List ℕ → ℕ → ℕ → ℕ
four s at k = two s at k + 65536 * two s at (k + 2)

-- a number in so many bytes, the lowest first; what does not fit is left out
unfoldable pub little_endian : ℕ → ℕ → List ℕ
little_endian zero n = []
little_endian (suc width) n = n % 256 ∷ little_endian width (n / 256)

-- a number in four, with all that is left in the last
abbrev pub four_bytes : ℕ → List ℕ
four_bytes n = n % 256 ∷ n / 256 % 256 ∷ n / 65536 % 256 ∷ n / 16777216 ∷ []

-- bytes over the first ones of a lent buffer; those after them are unchanged
abbrev pub over : List ℕ → List ℕ → List ℕ
over bytes buffer = bytes ++ drop (length bytes) buffer
