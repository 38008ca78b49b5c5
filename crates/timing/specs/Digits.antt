-- How the functions tell a list of cycles: as the digits of a number in base 16, the first one last.
use Rattle.std.specs.Prelude.{ℕ, zero, suc, ◌/◌, ◌%◌, cond, List, [], ◌∷◌, eqb}

abbrev pub digits : ℕ → ℕ → List ℕ
digits zero n = []
digits (suc f) n = cond (eqb n 0) [] (n % 16 ∷ digits f (n / 16))

-- the 16 digits of 64 bits
unfoldable pub listed : ℕ → List ℕ
listed n = digits 16 n
