-- The laws of a call's arguments, two at a time. Assumes nothing.
use Prim.Native.Nat.{ℕ, suc, ◌+◌, ◌-◌, ◌≤◌, ◌<◌}
use native.Mathlib.Numerals.{add-one}
use native.Mathlib.Omega.{arith}
use mathlib.Core.Bool.{true, false}
use mathlib.Core.List.{List, [], ◌∷◌}
use mathlib.Core.Logic.{◌≢◌}
use mathlib.Core.Path.{◌≡◌, refl, sym, ap, ◌∙◌}
use lib.ListN.{length, get_or, set, drop, length-drop}
use lib.Seq.{drop-cons}
use borrow.Author.Tests.{lt-ltb, le-ltb, lt-leb, le-leb, eq-eqb, ne_eqb}
use Rattle.laws.proofs.Conds.{picks, passes}
use Rattle.night_arguments.specs.Options.{is_free, told, names_from, call_from, call_of}

module _ (kind : ℕ) (values : List ℕ) where
  pub no_option : kind < 3 → is_free kind values ≡ false
  no_option h = rw (lt-leb _ _ h)

  pub no_row : 3 ≤ kind → length values ≤ kind - 3 → is_free kind values ≡ false
  no_row g h = rw (le-leb _ _ g, le-ltb _ _ h)

  pub has_value : 3 ≤ kind → kind - 3 < length values → get_or values (kind - 3) 0 ≢ 0 → is_free kind values ≡ false
  has_value g h n = rw (le-leb _ _ g, lt-ltb _ _ h, ne_eqb _ _ n)

  pub is_free_lem : 3 ≤ kind → kind - 3 < length values → get_or values (kind - 3) 0 ≡ 0 → is_free kind values ≡ true
  is_free_lem g h e = rw (le-leb _ _ g, lt-ltb _ _ h, eq-eqb _ _ e)

module _ (count at : ℕ) (h : at ≤ count) where
  pub no_six : count - at ≢ 6 → 0 ≡ names_from count at
  no_six n = sym (passes _ _ (ne_eqb _ _ (λ (e : at + 6 ≡ count). n (omega arith))))

  pub six : count - at ≡ 6 → at + 1 ≡ names_from count at
  six e = sym (picks _ _ (eq-eqb (at + 6) count (omega arith)))

two_first : (l : List ℕ) (i : ℕ) → i + 1 < length l → drop i l ≡ get_or l i 0 ∷ get_or l (i + 1) 0 ∷ drop (i + 2) l
two_first l i h =
    drop-cons l i 0 (omega arith) ∙ ap (λ (k : ℕ). get_or l i 0 ∷ drop k l) (sym (add-one i))
    ∙ ap (λ (r : List ℕ). get_or l i 0 ∷ r) (drop-cons l (i + 1) 0 h) ∙ ap (λ (k : ℕ). get_or l i 0 ∷ get_or l (i + 1) 0 ∷ drop k l) next
  where
    next : suc (i + 1) ≡ i + 2
    next = omega arith

module _ (kinds values : List ℕ) (count i : ℕ) (h : i + 1 < length kinds) where
  pub call_names : get_or kinds i 0 ≡ 0 → call_from count i values (drop i kinds) ≡ told (names_from count i) values
  unfolding call_from
  call_names e = rw (two_first kinds i h, eq-eqb _ _ e)

  pub call_ended : get_or kinds i 0 ≢ 0 → get_or kinds i 0 ≡ 1 → call_from count i values (drop i kinds) ≡ told (names_from count (i + 1)) values
  unfolding call_from
  call_ended n e = rw (two_first kinds i h, ne_eqb _ _ n, eq-eqb _ _ e)

  module _ (n : get_or kinds i 0 ≢ 0) (m : get_or kinds i 0 ≢ 1) where
    pub call_no : is_free (get_or kinds i 0) values ≡ false → call_from count i values (drop i kinds) ≡ told 0 values
    unfolding call_from
    call_no e = ap (call_from count i values) (two_first kinds i h) ∙ passes _ _ (ne_eqb _ _ n) ∙ passes _ _ (ne_eqb _ _ m) ∙ passes _ _ e

    pub call_on : is_free (get_or kinds i 0) values ≡ true
        → call_from count i values (drop i kinds) ≡ call_from count (i + 2) (set values (get_or kinds i 0 - 3) (i + 2)) (drop (i + 2) kinds)
    unfolding call_from
    call_on e = ap (call_from count i values) (two_first kinds i h) ∙ passes _ _ (ne_eqb _ _ n) ∙ passes _ _ (ne_eqb _ _ m) ∙ picks _ _ e

pub call_end : (kinds values : List ℕ) (count i : ℕ) → length kinds ≤ i + 1 → call_from count i values (drop i kinds) ≡ told 0 values
unfolding call_from
call_end kinds values count i h = go (drop i kinds) (let e = length-drop i kinds in omega arith)
  where
    no : {n : ℕ} → suc (suc n) ≤ 1 → ⊥
    no h = omega arith

    go : (l : List ℕ) → length l ≤ 1 → call_from count i values l ≡ told 0 values
    go [] k = refl
    go (x ∷ []) k = refl
    go (x ∷ y ∷ l) k = absurd (no k)

pub too_many : (kinds values : List ℕ) → 32 < length kinds → call_of kinds values ≡ told 0 values
unfolding call_of
too_many kinds values h = picks _ _ (lt-ltb _ _ h)

pub call_start : (kinds values : List ℕ) → length kinds ≤ 32 → call_of kinds values ≡ call_from (length kinds) 0 values kinds
unfolding call_of
call_start kinds values h = passes _ _ (le-ltb _ _ h)
