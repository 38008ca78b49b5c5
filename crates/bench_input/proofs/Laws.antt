-- The laws of loading: a byte stored past the end, bytes stored one by one, what a load record's place gives, and the steps
-- of the two loops over load records. Assumes nothing.
use Prim.Native.Nat.{ℕ, zero, suc, ◌+◌, ◌-◌, ◌≤◌, ◌<◌}
use native.Mathlib.Nat.{not-suc-le-zero, le_of_suc-le-suc, le_trans, min-le_left}
use native.Mathlib.Numerals.{add-one}
use native.Mathlib.Omega.{arith}
use mathlib.Core.List.{List, [], ◌∷◌}
use mathlib.Core.Path.{◌≡◌, refl, sym, ap, subst, ◌∙◌}
use mathlib.Core.Bool.{Bool, true, false, cond, ◌&&◌}
use lib.ListN.{length, get_or, set, drop, length-take, drop_of_length-le}
use lib.Seq.{drop-cons}
use lib.Dec.{eqb, leb}
use borrow.Author.Tests.{leb-true, lt-leb, le-leb}
use Rattle.laws.proofs.Bools.{both, and_false}
use Rattle.turns.specs.Turn.{Turn, more, done}
use Rattle.turns.proofs.Laws.{loop_more, loop_done}
use Rattle.session.specs.Session.{length_at, kind_at, next_at}
use Rattle.bench_input.specs.Input.{is_whole, address_at, bytes_at, is_load, is_run, after_loads, stored_at}
use Rattle.bench_input.specs.Input.{Filling, load_turn, loads_of, is_good, run_at, input_of, image_of}
use Rattle.bench_input.specs.declared.Run.{Run}
use Rattle.std.specs.Prelude.{Option, Some, None}

pub set_past : (l : List ℕ) (i b : ℕ) → length l ≤ i → set l i b ≡ l
set_past [] i b h = refl
set_past (x ∷ xs) zero b h = absurd (not-suc-le-zero h)
set_past (x ∷ xs) (suc i) b h = ap (λ (r : List ℕ). x ∷ r) (set_past xs i b (le_of_suc-le-suc h))

-- bytes stored one by one
pub stored_more : (bytes memory : List ℕ) (at i : ℕ) → i < length bytes
    → stored_at memory at (drop i bytes) ≡ stored_at (set memory at (get_or bytes i 0)) (at + 1) (drop (i + 1) bytes)
unfolding stored_at
stored_more bytes memory at i h =
    ap (λ (l : List ℕ). stored_at memory at l) (drop-cons bytes i 0 h)
    ∙ ap (λ (k : ℕ). stored_at (set memory at (get_or bytes i 0)) (at + 1) (drop k bytes)) (sym (add-one i))

pub stored_all : (bytes memory : List ℕ) (at i : ℕ) → length bytes ≤ i → stored_at memory at (drop i bytes) ≡ memory
unfolding stored_at
stored_all bytes memory at i h = ap (λ (l : List ℕ). stored_at memory at l) (drop_of_length-le bytes h)

-- the record at a place ends within the input, after its place
abbrev Within : List ℕ → ℕ → Type 0
Within s at = (at < length s) × (at + 2 ≤ next_at s at) × (next_at s at ≤ length s)

whole_within : (s : List ℕ) (at : ℕ) → is_whole s at ≡ true → Within s at
unfolding next_at
whole_within s at e =
    let h = leb-true (2 + length_at s at) (length s - at) e in
    (omega arith, omega arith, omega arith)

pub run_within : (s : List ℕ) (at : ℕ) → is_run s at ≡ true → Within s at
unfolding is_run
run_within s at e = whole_within s at (both _ _ (both _ _ e).0).0

pub load_within : (s : List ℕ) (at : ℕ) → is_load s at ≡ true → Within s at
unfolding is_load
load_within s at e = whole_within s at (both _ _ (both _ _ (both _ _ e).0).0).0

-- it has bytes to load, and not more than the address space
pub load_bytes : (s : List ℕ) (at : ℕ) → is_load s at ≡ true → (at + 6 ≤ next_at s at) × (length (bytes_at s at) ≤ 65536)
unfolding is_load next_at
load_bytes s at e =
    let f = both (is_whole s at && eqb (kind_at s at) 9 && leb 5 (length_at s at)) (leb (address_at s at + length_at s at) 65540) e in
    let h = leb-true 5 (length_at s at) (both (is_whole s at && eqb (kind_at s at) 9) (leb 5 (length_at s at)) f.0).1 in
    let l = leb-true (address_at s at + length_at s at) 65540 f.1 in
    let t = length-take (at + 2 + length_at s at - (at + 6)) (drop (at + 6) s) in
    (omega arith, le_trans (subst (λ (k : ℕ). k ≤ at + 2 + length_at s at - (at + 6)) (sym t) (min-le_left _ _)) (omega arith))

-- what a turn that goes on comes to, and whether it does
abbrev OnMore : {S R : Type 0} → (S → Type 0) → Turn S R → Type 0
OnMore Q (more s) = Q s
OnMore Q (done r) = Unit {0}

on_cond : {S R : Type 0} (Q : S → Type 0) (t : Bool) (s : S) (r : R) → (t ≡ true → Q s) → OnMore Q (cond t (more s) (done r))
on_cond Q true s r h = h refl
on_cond Q false s r h = tt

module _ (s : List ℕ) where
  less : (at : ℕ) → is_load s at ≡ true → length s - next_at s at < length s - at
  less at e = let w = load_within s at e in omega arith

  place_falls : (k j : ℕ) → cond (is_load s k) (more (next_at s k)) (done k) ≡ more j → length s - j < length s - k
  place_falls k j e = subst (OnMore (λ (x : ℕ). length s - x < length s - k)) e (on_cond _ (is_load s k) (next_at s k) k (less k))

  pub place_more : (at : ℕ) → is_load s at ≡ true → after_loads s at ≡ after_loads s (next_at s at)
  unfolding after_loads
  place_more at e = loop_more _ _ _ place_falls (rw e)

  pub place_done : (at : ℕ) → is_load s at ≡ false → after_loads s at ≡ at
  unfolding after_loads
  place_done at e = loop_done _ _ _ place_falls (rw e)

  load_falls : (l k : Filling) → load_turn s l ≡ more k → length s - k.at < length s - l.at
  load_falls l k e =
      subst (OnMore (λ (x : Filling). length s - x.at < length s - l.at)) e (on_cond _ (is_load s l.at) _ l.memory (less l.at))

  pub loads_more : (at : ℕ) (memory : List ℕ) → is_load s at ≡ true
      → loads_of s at memory ≡ loads_of s (next_at s at) (stored_at memory (address_at s at) (bytes_at s at))
  unfolding loads_of
  loads_more at memory e = loop_more (load_turn s) _ _ load_falls (rw e)

  pub loads_done : (at : ℕ) (memory : List ℕ) → is_load s at ≡ false → loads_of s at memory ≡ memory
  unfolding loads_of
  loads_done at memory e = loop_done (load_turn s) _ _ load_falls (rw e)

  -- an input is bad where it is too long
  pub long_bad : 16384 < length s → is_good s ≡ false
  unfolding is_good
  long_bad h = rw (lt-leb _ _ h)

  -- and where no run record follows the load records
  pub runless_bad : is_run s (after_loads s 0) ≡ false → is_good s ≡ false
  unfolding is_good
  runless_bad e = rw e (and_false (leb (length s) 16384))

  pub run_good : length s ≤ 16384 → is_run s (after_loads s 0) ≡ true → is_good s ≡ true
  unfolding is_good
  run_good h e = rw (le-leb _ _ h, e)

  pub loaded_bad : (image : List ℕ) → is_good s ≡ false → (◌≡◌ {A = Option Run} None (input_of s)) × (image ≡ image_of s image)
  unfolding input_of image_of
  loaded_bad image e = rw e (refl, refl)

  pub loaded_run : (image : List ℕ) → is_good s ≡ true → (input_of s ≡ Some (run_at s (after_loads s 0))) × (image_of s image ≡ loads_of s 0 image)
  unfolding input_of image_of
  loaded_run image e = rw e (refl, refl)

  -- a session begins within the input
  -- its session begins within it
  pub session_within : {q : Run} → input_of s ≡ Some q → q.session ≤ length s
  unfolding input_of is_good
  session_within {q} e = by (leb (length s) 16384) (is_run s (after_loads s 0)) refl e
    where
      place : Option Run → ℕ
      place None = 0
      place (Some r) = r.session

      by : (a b : Bool) → is_run s (after_loads s 0) ≡ b → cond (a && b) (Some (run_at s (after_loads s 0))) None ≡ Some q → q.session ≤ length s
      by true true i e = subst (λ (x : ℕ). x ≤ length s) (ap place e) (run_within s (after_loads s 0) i).2
      by true false i e = subst (λ (x : ℕ). x ≤ length s) (ap place e) (omega arith)
      by false b i e = subst (λ (x : ℕ). x ≤ length s) (ap place e) (omega arith)
