-- A text of so many characters is its cells; the library's test for a LF among them. Assumes nothing.
use Prim.Native.Nat.{ℕ, zero, suc}
use mathlib.Core.Path.{◌≡◌, refl, ap, subst, ◌∙◌}
use mathlib.Core.Bool.{Bool, true, false, not, ◌&&◌, ◌||◌}
use mathlib.Core.List.{List, [], ◌∷◌}
use lib.Dec.{eqb}
use Rattle.std.specs.List.{list_any}
use lib.ListN.{get_or, length}
use Rattle.listing_lines.specs.Lines.{cells_from, cells}
use Rattle.listing_reading.specs.Reading.{no_end}

cells_later : (x : ℕ) (l : List ℕ) (k n : ℕ) → cells_from (x ∷ l) (suc k) n ≡ cells_from l k n
cells_later x l k zero = refl
cells_later x l k (suc n) = ap (λ (r : List ℕ). get_or l k 0 ∷ r) (cells_later x l (suc k) n)

cells_whole : (l : List ℕ) → cells (length l) l ≡ l
cells_whole [] = refl
cells_whole (x ∷ l) = ap (λ (r : List ℕ). x ∷ r) (cells_later x l 0 (length l) ∙ cells_whole l)

pub cells_all : (n : ℕ) (l : List ℕ) → length l ≡ n → cells n l ≡ l
cells_all n l e = subst (λ (k : ℕ). cells k l ≡ l) e (cells_whole l)

-- none of them is a LF
pub none_ends : (l : List ℕ) → not (list_any (λ (c : ℕ). eqb c 10) l) ≡ no_end l
none_ends [] = refl
none_ends (c ∷ l) = by (eqb c 10) (none_ends l)
  where
    by : (t : Bool) → not (list_any (λ (c : ℕ). eqb c 10) l) ≡ no_end l → not (t || list_any (λ (c : ℕ). eqb c 10) l) ≡ (not t && no_end l)
    by true e = refl
    by false e = e
