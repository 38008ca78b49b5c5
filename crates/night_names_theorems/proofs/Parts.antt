-- A name's last part has no `/`; a text that is cut at each `/`, where two are joined by one. Assumes nothing.
use Prim.Native.Nat.{ℕ, ◌+◌, ◌≤◌, ◌<◌}
use native.Mathlib.Omega.{arith}
use mathlib.Core.Bool.{Bool, true, false, cond}
use mathlib.Core.List.{List, [], ◌∷◌, ◌++◌}
use mathlib.Core.Path.{◌≡◌, refl, sym, ap, subst, ◌∙◌}
use lib.Dec.{eqb}
use lib.ListN.{length, drop, length-append}
use lib.Seq.{drop_at}
use borrow.Author.Tests.{eqb-true}
use Rattle.laws.proofs.Conds.{passes}
use Rattle.std.specs.List.{onto_first}
use Rattle.std.specs.Str.{bytes_eq}
use Rattle.std.proofs.lemmas.Slice.Eq.{bytes_eq-Decides}
use Rattle.night_names.specs.Names.{last_from, last_at, parts_of}
use Rattle.night_names.proofs.Cuts.{some_part}

-- texts that are told the same are
pub same_sound : (a b : List ℕ) → bytes_eq a b ≡ true → a ≡ b
same_sound a b e = (bytes_eq-Decides a b).0 e

pub same_self : (l : List ℕ) → bytes_eq l l ≡ true
same_self l = (bytes_eq-Decides l l).1 refl

-- no byte is a `/`
abbrev pub NoSlash : List ℕ → Type 0
NoSlash [] = Unit
NoSlash (c ∷ cs) = (eqb c 47 ≡ false) × NoSlash cs

pub last_none : (l : List ℕ) (i at : ℕ) → NoSlash l → last_from i at l ≡ at
unfolding last_from
last_none [] i at n = refl
last_none (c ∷ cs) i at n = ap (λ (b : Bool). last_from (i + 1) (cond b (i + 1) at) cs) n.0 ∙ last_none cs (i + 1) at n.1

pub last_kept : (a b : List ℕ) (i at : ℕ) → NoSlash b → last_from i at (a ++ b) ≡ last_from i at a
unfolding last_from
last_kept [] b i at n = last_none b i at n
last_kept (c ∷ cs) b i at n = last_kept cs b (i + 1) (cond (eqb c 47) (i + 1) at) n

pub last_after : (a b : List ℕ) (i at : ℕ) → NoSlash b → last_from i at (a ++ 47 ∷ b) ≡ i + (length a + 1)
unfolding last_from
last_after [] b i at n = last_none b (i + 1) (i + 1) n
last_after (c ∷ cs) b i at n = last_after cs b (i + 1) (cond (eqb c 47) (i + 1) at) n ∙ omega arith

-- a name is one part without a `/`, or has a last one
pub data Parted (l : List ℕ) : Type 0 where
  single : NoSlash l → Parted l
  after : (a b : List ℕ) → l ≡ a ++ 47 ∷ b → NoSlash b → Parted l

pub parted : (l : List ℕ) → Parted l
parted [] = single tt
parted (c ∷ cs) = go (parted cs) (eqb c 47) refl
  where
    go : Parted cs → (t : Bool) → eqb c 47 ≡ t → Parted (c ∷ cs)
    go (after a b e n) t q = after (c ∷ a) b (ap (λ (l : List ℕ). c ∷ l) e) n
    go (single n) false q = single (q, n)
    go (single n) true q = after [] cs (ap (λ (z : ℕ). z ∷ cs) (eqb-true c 47 q)) n

pub glued : (a b : List ℕ) → (a ++ 47 ∷ b) ≡ (a ++ 47 ∷ []) ++ b
glued [] b = refl
glued (c ∷ a) b = ap (λ (m : List ℕ). c ∷ m) (glued a b)

pub last_plain : (l : List ℕ) → NoSlash (drop (last_at l) l)
unfolding last_at
last_plain l = go (parted l)
  where
    go : Parted l → NoSlash (drop (last_at l) l)
    go (single n) = subst (λ (k : ℕ). NoSlash (drop k l)) (sym (last_none l 0 0 n)) n
    go (after a b e n) =
        let k : last_at l ≡ length (a ++ 47 ∷ []) = ap last_at e ∙ last_after a b 0 0 n ∙ omega (arith, length-append a (47 ∷ [])) in
        subst NoSlash (sym (ap (λ (j : ℕ). drop j l) k ∙ ap (drop (length (a ++ 47 ∷ []))) (e ∙ glued a b) ∙ drop_at (a ++ 47 ∷ []) b _ refl)) n

pub last_within : (l : List ℕ) → last_at l ≤ length l
unfolding last_at
last_within l = go (parted l)
  where
    go : Parted l → last_at l ≤ length l
    go (single n) = let e = last_none l 0 0 n in omega arith
    go (after a b e n) =
        let k : last_at l ≡ 0 + (length a + 1) = ap last_at e ∙ last_after a b 0 0 n in
        let m : length l ≡ length a + length (47 ∷ b) = ap length e ∙ length-append a (47 ∷ b) in
        omega arith

-- two texts with a `/` between them have the parts of both
onto_both : (c : ℕ) (ps qs : List (List ℕ)) → 0 < length ps → onto_first c (ps ++ qs) ≡ onto_first c ps ++ qs
onto_both c [] qs h = absurd (none_less h)
  where
    none_less : 0 < 0 → ⊥
    none_less g = omega arith
onto_both c (p ∷ ps) qs h = refl

pub cut_joined : (a b : List ℕ) → parts_of (a ++ 47 ∷ b) ≡ parts_of a ++ parts_of b
unfolding parts_of
cut_joined [] b = refl
cut_joined (c ∷ a) b = go (eqb c 47) (cut_joined a b)
  where
    go : (t : Bool) → parts_of (a ++ 47 ∷ b) ≡ parts_of a ++ parts_of b
        → cond t ([] ∷ parts_of (a ++ 47 ∷ b)) (onto_first c (parts_of (a ++ 47 ∷ b))) ≡ cond t ([] ∷ parts_of a) (onto_first c (parts_of a)) ++ parts_of b
    go true e = ap (λ (ps : List (List ℕ)). [] ∷ ps) e
    go false e = ap (onto_first c) e ∙ onto_both c (parts_of a) (parts_of b) (some_part a)

-- a text without one is its only part
pub uncut : (l : List ℕ) → NoSlash l → parts_of l ≡ l ∷ []
unfolding parts_of
uncut [] n = refl
uncut (c ∷ cs) n = passes _ _ n.0 ∙ ap (onto_first c) (uncut cs n.1)
