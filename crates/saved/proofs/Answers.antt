-- The ways that loading can go, each as a law. Assumes nothing.
use Prim.Native.Nat.{ℕ}
use mathlib.Core.Path.{◌≡◌, refl, sym, ap, ◌∙◌}
use mathlib.Core.Bool.{Bool, true, false, not, cond}
use mathlib.Core.List.{List}
use lib.Dec.{eqb}
use lib.ListN.{length}
use borrow.Author.Tests.{eq-eqb, ne_eqb, eqb-true, eqb-false}
use Rattle.machine.specs.declared.Machine.{Machine}
use Rattle.saved.specs.Layout.{word_at, machine_in}
use Rattle.asking.specs.Asking.{Given, gives, replies}
use Rattle.saved.specs.Answers.{stands_of, ranges_in, load_of}

-- the four tests, in their order
abbrev picked : Bool → Bool → Bool → Bool → Machine → Given Machine
picked fits version stands ranges m =
    cond (not fits) (replies 26) (cond (not version) (replies 27) (cond (not stands) (replies 28) (cond (not ranges) (replies 2) (gives m))))

-- loading, where the tests come to these
tested : (l : List ℕ) (m : Machine) (fits version stands ranges : Bool)
    → eqb (length l) 42 ≡ fits → eqb (word_at l 0) 1 ≡ version → stands_of l ≡ stands → m ≡ machine_in l → ranges_in l m ≡ ranges
    → load_of l ≡ picked fits version stands ranges m
unfolding load_of
tested l m fits version stands ranges e v s i r =
    λ k. picked (e k) (v k) (s k) ((ap (ranges_in l) (sym i) ∙ r) k) (sym i k)

pub wrong_length_lem : (l : List ℕ) → (length l ≡ 42 → ⊥) → load_of l ≡ replies 26
wrong_length_lem l h = tested l _ _ _ _ _ (ne_eqb (length l) 42 h) refl refl refl refl

pub wrong_version : (l : List ℕ) → length l ≡ 42 → (word_at l 0 ≡ 1 → ⊥) → load_of l ≡ replies 27
wrong_version l e h = tested l _ _ _ _ _ (eq-eqb (length l) 42 e) (ne_eqb (word_at l 0) 1 h) refl refl refl

pub no_machine : (l : List ℕ) → length l ≡ 42 → word_at l 0 ≡ 1 → stands_of l ≡ false → load_of l ≡ replies 28
no_machine l e v s = tested l _ _ _ _ _ (eq-eqb (length l) 42 e) (eq-eqb (word_at l 0) 1 v) s refl refl

pub wrong_machine : (l : List ℕ) (m : Machine) → length l ≡ 42 → word_at l 0 ≡ 1 → stands_of l ≡ true → m ≡ machine_in l → ranges_in l m ≡ false
    → load_of l ≡ replies 2
wrong_machine l m e v s i r = tested l m _ _ _ _ (eq-eqb (length l) 42 e) (eq-eqb (word_at l 0) 1 v) s i r

pub ready : (l : List ℕ) (m : Machine) → length l ≡ 42 → word_at l 0 ≡ 1 → stands_of l ≡ true → m ≡ machine_in l → ranges_in l m ≡ true
    → load_of l ≡ gives m
ready l m e v s i r = tested l m _ _ _ _ (eq-eqb (length l) 42 e) (eq-eqb (word_at l 0) 1 v) s i r

-- loading goes in one of five ways
pub load_cases : (P : Given Machine → Type 0) (l : List ℕ)
    → ((length l ≡ 42 → ⊥) → P (replies 26))
    → (length l ≡ 42 → (word_at l 0 ≡ 1 → ⊥) → P (replies 27))
    → (length l ≡ 42 → word_at l 0 ≡ 1 → stands_of l ≡ false → P (replies 28))
    → (length l ≡ 42 → word_at l 0 ≡ 1 → stands_of l ≡ true → ranges_in l (machine_in l) ≡ false → P (replies 2))
    → (length l ≡ 42 → word_at l 0 ≡ 1 → stands_of l ≡ true → ranges_in l (machine_in l) ≡ true → P (gives (machine_in l)))
    → P (load_of l)
unfolding load_of
load_cases P l p26 p27 p28 p2 p = by (eqb (length l) 42) refl (eqb (word_at l 0) 1) refl (stands_of l) refl (ranges_in l (machine_in l)) refl
  where
    by : (fits : Bool) → eqb (length l) 42 ≡ fits → (version : Bool) → eqb (word_at l 0) 1 ≡ version → (stands : Bool) → stands_of l ≡ stands
        → (ranges : Bool) → ranges_in l (machine_in l) ≡ ranges → P (picked fits version stands ranges (machine_in l))
    by false e version v stands s ranges r = p26 (eqb-false _ _ e)
    by true e false v stands s ranges r = p27 (eqb-true _ _ e) (eqb-false _ _ v)
    by true e true v false s ranges r = p28 (eqb-true _ _ e) (eqb-true _ _ v) s
    by true e true v true s false r = p2 (eqb-true _ _ e) (eqb-true _ _ v) s r
    by true e true v true s true r = p (eqb-true _ _ e) (eqb-true _ _ v) s r
