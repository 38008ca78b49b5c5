-- A test that is computed over the table of opcodes holds of every number. Assumes nothing.
use Rattle.std.proofs.Common.{ℕ, zero, suc, ◌/◌, ◌%◌, Bool, true, false, ◌&&◌, T, List, [], ◌∷◌, get_or, Option, None}
use Rattle.opcodes.specs.Opcodes.{decode_of, rows}
use Rattle.opcodes.specs.declared.Instruction.{Instruction}

pub both : (a b : Bool) → T (a && b) → T a × T b
both true b t = (tt, t)
both false b t = absurd t

abbrev pub every : {A : Type 0} → (A → Bool) → List A → Bool
every test [] = true
every test (x ∷ xs) = test x && every test xs

-- a test that every entry passes, and the default, is passed at every place
at : {A : Type 0} (test : A → Bool) (xs : List A) (d : A) → T (test d) → T (every test xs) → (k : ℕ) → T (test (get_or xs k d))
at test [] d h t k = h
at test (x ∷ xs) d h t zero = (both (test x) (every test xs) t).0
at test (x ∷ xs) d h t (suc k) = at test xs d h (both (test x) (every test xs) t).1 k

pub passes : (test : Option Instruction → Bool) → T (test None) → T (every (every test) rows) → (n : ℕ) → T (test (decode_of n))
unfolding decode_of
passes test h t n = at test (get_or rows (n / 16) []) None h (at (every test) rows [] tt t (n / 16)) (n % 16)
