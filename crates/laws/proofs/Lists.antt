-- Laws of lists: values stored one after another, a store past a front, no element, and all that follows a place. Assumes nothing.
use Prim.Native.Nat.{ℕ, suc, ◌+◌, ◌-◌, ◌≤◌}
use native.Mathlib.Nat.{zero-add, suc-add, add-zero, add-suc, le_of_eq}
use native.Mathlib.Omega.{arith}
use mathlib.Core.List.{List, [], ◌∷◌, ◌++◌}
use mathlib.Core.Path.{◌≡◌, refl, sym, ap, ◌∙◌}
use lib.ListN.{length, set, take, drop, length-append, length-drop}
use lib.Seq.{sets, sets-eq, take_all, take_at, drop_at, length-take-le}

-- some values and then others
pub sets_append : (b : List ℕ) (to : ℕ) (u v : List ℕ) → sets (sets b to u) (to + length u) v ≡ sets b to (u ++ v)
sets_append b to [] v = ap (λ (k : ℕ). sets b k v) (add-zero to)
sets_append b to (x ∷ u) v =
    ap (λ (k : ℕ). sets (sets (set b to x) (suc to) u) k v) (add-suc to (length u) ∙ sym (suc-add to (length u)))
    ∙ sets_append (set b to x) (suc to) u v

-- a list after values were stored in it: what stands before them and they, and what stands after them
module _ (b u : List ℕ) (to : ℕ) (h : to + length u ≤ length b) where
  front : length (take to b ++ u) ≡ to + length u
  front = length-append (take to b) u ∙ ap (λ (k : ℕ). k + length u) (length-take-le to b (omega arith))

  pub take_sets : take (to + length u) (sets b to u) ≡ take to b ++ u
  take_sets = ap (take (to + length u)) (sets-eq u b to h) ∙ take_at (take to b ++ u) _ _ front

  pub drop_sets : drop (to + length u) (sets b to u) ≡ drop (to + length u) b
  drop_sets = ap (drop (to + length u)) (sets-eq u b to h) ∙ drop_at (take to b ++ u) _ _ front

-- a store past a front
pub set_append_add : (xs ys : List ℕ) (n a : ℕ) → set (xs ++ ys) (length xs + n) a ≡ xs ++ set ys n a
set_append_add [] ys n a = ap (λ (k : ℕ). set ys k a) (zero-add n)
set_append_add (x ∷ xs) ys n a =
    ap (λ (k : ℕ). set (x ∷ (xs ++ ys)) k a) (suc-add (length xs) n) ∙ ap (λ (r : List ℕ). x ∷ r) (set_append_add xs ys n a)

-- a list with no element
pub no_bytes : (l : List ℕ) → length l ≡ 0 → l ≡ []
no_bytes [] e = refl
no_bytes (x ∷ l) e = absurd (let z : ⊥ = omega arith in z)

-- all that follows a place
pub take_rest : (k : ℕ) (l : List ℕ) → take (length l - k) (drop k l) ≡ drop k l
take_rest k l = take_all (length l - k) (drop k l) (le_of_eq (length-drop k l))
