-- The laws of a map that is marked: the total stays the number of its ones, bits are only added, and no other bit changes. Assumes nothing.
use Prim.Native.Nat.{ℕ, zero, suc, ◌+◌, ◌*◌, ◌/◌, ◌%◌, ◌^◌, ◌≤◌, ◌<◌}
use native.Mathlib.Decide.{dec_lt, ℕ_discrete}
use native.Mathlib.Nat.{mod-lt, zero-lt-suc, not-suc-le-zero, le_of_suc-le-suc}
use native.Mathlib.Numerals.{add-one}
use native.Mathlib.Omega.{arith}
use mathlib.Core.Bool.{Bool, true, false, true≢false}
use mathlib.Core.List.{List, [], ◌∷◌}
use mathlib.Core.Path.{◌≡◌, refl, sym, ap, ◌∙◌}
use lib.Bits.{bit_or}
use lib.Count.{ones, ones-le}
use lib.Dec.{eqb}
use lib.ListN.{length, get_or, set, drop, length-set, drop_of_length-le, get_or-eq_default}
use lib.Seq.{drop-cons, get_or-set_same, get_or-set_other}
use mir.Syntax.{w8}
use mir.Val.{Fits}
use borrow.Author.Tests.{eq-eqb, ne_eqb, eqb-true, eqb-false}
use Rattle.laws.proofs.Bools.{both}
use Rattle.laws.proofs.Conds.{picks, passes, cases}
use Rattle.execution_map.specs.Map.{Map, map_of, has_run, marked, begun_at, ones_of, is_sound}
use Rattle.execution_map.proofs.Bits.{full, set_here, set_there, one_more, or_clear, power_fits}

-- an entry that is there is the same by any default
get_d_any : (l : List ℕ) (i d e : ℕ) → i < length l → get_or l i d ≡ get_or l i e
get_d_any [] i d e h = absurd (not-suc-le-zero h)
get_d_any (x ∷ l) zero d e h = refl
get_d_any (x ∷ l) (suc i) d e h = get_d_any l i d e (le_of_suc-le-suc h)

in_byte : (at : ℕ) → at % 8 < 8
in_byte at = mod-lt at (zero-lt-suc 7)

-- the address's own byte, with its bit added
abbrev with_bit : List ℕ → ℕ → ℕ
with_bit bytes at = get_or bytes (at / 8) 0 + 2 ^ (at % 8)

-- a bit within the map, and one past its end
pub ran_within : (bytes : List ℕ) (at : ℕ) → at / 8 < length bytes → eqb (get_or bytes (at / 8) 0 / 2 ^ (at % 8) % 2) 1 ≡ has_run bytes at
unfolding has_run
ran_within bytes at h = ap (λ (b : ℕ). eqb (b / 2 ^ (at % 8) % 2) 1) (get_d_any bytes (at / 8) 0 255 h)

pub ran_past : (bytes : List ℕ) (at : ℕ) → length bytes ≤ at / 8 → has_run bytes at ≡ true
unfolding has_run
ran_past bytes at h = rw (get_or-eq_default bytes 255 h, full (at % 8) (in_byte at))

-- where the bit is set, nothing changes
pub marked_again : (at : ℕ) (k : Map) → has_run k.bytes at ≡ true → marked at k ≡ k
unfolding marked
marked_again at k e = picks k _ e

-- .. and where it is clear, it is added, and one to the total
pub marked_new : (at : ℕ) (k : Map) → has_run k.bytes at ≡ false → marked at k ≡ map_of (set k.bytes (at / 8) (with_bit k.bytes at)) (k.total + 1)
unfolding marked
marked_new at k e = passes k _ e

marked_cases : (P : Map → Type 0) (at : ℕ) (k : Map) → (has_run k.bytes at ≡ true → P k)
    → (has_run k.bytes at ≡ false → P (map_of (set k.bytes (at / 8) (with_bit k.bytes at)) (k.total + 1))) → P (marked at k)
unfolding marked
marked_cases P at k f g = cases P (has_run k.bytes at) f g

-- what the code does to a map whose bit is clear
pub marked_code : (at : ℕ) (bytes : List ℕ) (total : ℕ) → at / 8 < length bytes → (get_or bytes (at / 8) 0 / 2 ^ (at % 8) % 2 ≡ 1 → ⊥)
    → map_of (set bytes (at / 8) (bit_or (get_or bytes (at / 8) 0) ((1 * 2 ^ (at % 8)) % 256))) (total + 1) ≡ marked at (map_of bytes total)
marked_code at bytes total h n =
    let e : get_or bytes (at / 8) 0 / 2 ^ (at % 8) % 2 ≡ 0 = omega (arith, n) in
    rw (power_fits (at % 8) (in_byte at), or_clear (at % 8) (get_or bytes (at / 8) 0) e)
    (sym (marked_new at (map_of bytes total) (sym (ran_within bytes at h) ∙ ne_eqb _ 1 n)))

-- ---- the ones

-- those from a place on
pub ones_from : (bytes : List ℕ) (i : ℕ) → i < length bytes → ones_of (drop i bytes) ≡ ones (get_or bytes i 0) + ones_of (drop (i + 1) bytes)
unfolding ones_of
ones_from bytes i h = rw (drop-cons bytes i 0 h, add-one i)

pub ones_end : (bytes : List ℕ) (i : ℕ) → length bytes ≤ i → ones_of (drop i bytes) ≡ 0
unfolding ones_of
ones_end bytes i h = rw (drop_of_length-le bytes h)

-- a byte that is stored counts in the place of the one that stood there
ones_set : (bytes : List ℕ) (i b : ℕ) → i < length bytes → ones_of (set bytes i b) + ones (get_or bytes i 0) ≡ ones_of bytes + ones b
unfolding ones_of
ones_set [] i b h = absurd (not-suc-le-zero h)
ones_set (x ∷ bytes) zero b h = omega arith
ones_set (x ∷ bytes) (suc i) b h = let e = ones_set bytes i b (le_of_suc-le-suc h) in omega (arith, e)

-- at most eight a byte
pub ones_most : (bytes : List ℕ) → ((i : ℕ) → get_or bytes i 0 < 256) → ones_of bytes ≤ 8 * length bytes
unfolding ones_of
ones_most [] small = omega arith
ones_most (b ∷ bytes) small =
    let h = ones-le 8 b (small 0) in
    let r = ones_most bytes (λ i. small (suc i)) in
    omega (arith, h, r)

-- .. as of a slice that is lent: `c.shared-slice-known.given` says that its entries are bytes
pub ones_lent : (bytes : List ℕ) → ((i : ℕ) → Fits w8 (get_or bytes i 0)) → ones_of bytes ≤ 8 * length bytes
ones_lent bytes given = ones_most bytes (λ i. (given i).fits)

-- ---- a sound map

pub sound_length : (k : Map) → is_sound k ≡ true → length k.bytes ≡ 8192
unfolding is_sound
sound_length k s = eqb-true _ _ (both (eqb (length k.bytes) 8192) _ s).0

pub sound_ones : (k : Map) → is_sound k ≡ true → ones_of k.bytes ≡ k.total
unfolding is_sound
sound_ones k s = eqb-true _ _ (both (eqb (length k.bytes) 8192) _ s).1

-- .. of a slice that is lent: its total is at most 65536
pub sound_lent : (k : Map) → ((i : ℕ) → Fits w8 (get_or k.bytes i 0)) → is_sound k ≡ true → k.total ≤ 65536
sound_lent k given s = omega (arith, sound_length k s, sound_ones k s, ones_lent k.bytes given)

-- ---- a clear bit

module _ (bytes : List ℕ) (at : ℕ) (clear : has_run bytes at ≡ false) where
  -- it lies within the map
  pub clear_within : at / 8 < length bytes
  clear_within = go (dec_lt (at / 8) (length bytes))
    where
      go : Dec (at / 8 < length bytes) → at / 8 < length bytes
      go (yes h) = h
      go (no n) = absurd (true≢false (sym (ran_past bytes at (omega (arith, n))) ∙ clear))

  clear_bit : get_or bytes (at / 8) 0 / 2 ^ (at % 8) % 2 ≡ 0
  clear_bit =
      let n = eqb-false (get_or bytes (at / 8) 0 / 2 ^ (at % 8) % 2) 1 (ran_within bytes at clear_within ∙ clear) in
      omega (arith, n)

  -- where it is added there is one more
  added_ones : ones_of (set bytes (at / 8) (with_bit bytes at)) ≡ ones_of bytes + 1
  added_ones =
      let s = ones_set bytes (at / 8) (with_bit bytes at) clear_within in
      let o = one_more (at % 8) (get_or bytes (at / 8) 0) clear_bit in
      omega (arith, s, o)

  -- .. and it is set
  added_here : has_run (set bytes (at / 8) (with_bit bytes at)) at ≡ true
  unfolding has_run
  added_here =
      rw (get_or-set_same bytes (at / 8) (with_bit bytes at) 255 clear_within)
      (eq-eqb _ 1 (set_here (at % 8) (get_or bytes (at / 8) 0) clear_bit))

  -- .. and no other bit changes
  added_there : (b : ℕ) → (at ≡ b → ⊥) → has_run (set bytes (at / 8) (with_bit bytes at)) b ≡ has_run bytes b
  unfolding has_run
  added_there b apart = go (ℕ_discrete (at / 8) (b / 8))
    where
      go : Dec (at / 8 ≡ b / 8) → has_run (set bytes (at / 8) (with_bit bytes at)) b ≡ has_run bytes b
      go (yes q) =
          let n : at % 8 ≡ b % 8 → ⊥ = λ r. apart (omega (arith, q, r)) in
          rw (← q, get_or-set_same bytes (at / 8) (with_bit bytes at) 255 clear_within, get_d_any bytes (at / 8) 255 0 clear_within)
          (ap (λ (d : ℕ). eqb d 1) (set_there (at % 8) (b % 8) (get_or bytes (at / 8) 0) clear_bit n))
      go (no q) = rw (get_or-set_other bytes (at / 8) (b / 8) (with_bit bytes at) 255 (λ r. q (sym r)))

-- ---- a map that is marked

pub marked_length : (at : ℕ) (k : Map) → length (marked at k).bytes ≡ length k.bytes
marked_length at k = marked_cases (λ m. length m.bytes ≡ length k.bytes) at k (λ e. refl) (λ e. length-set k.bytes (at / 8) (with_bit k.bytes at))

-- the running total is the number of ones
pub marked_ones : (at : ℕ) (k : Map) → ones_of k.bytes ≡ k.total → ones_of (marked at k).bytes ≡ (marked at k).total
marked_ones at k s = marked_cases (λ m. ones_of m.bytes ≡ m.total) at k (λ e. s) (λ e. added_ones k.bytes at e ∙ ap (λ (n : ℕ). n + 1) s)

pub marked_most : (at : ℕ) (k : Map) → (marked at k).total ≤ k.total + 1
marked_most at k = marked_cases (λ m. m.total ≤ k.total + 1) at k (λ e. omega arith) (λ e. omega arith)

-- the bit is set
pub marked_here : (at : ℕ) (k : Map) → has_run (marked at k).bytes at ≡ true
marked_here at k = marked_cases (λ m. has_run m.bytes at ≡ true) at k (λ e. e) (added_here k.bytes at)

-- no other bit changes
pub marked_there : (at b : ℕ) (k : Map) → (at ≡ b → ⊥) → has_run (marked at k).bytes b ≡ has_run k.bytes b
marked_there at b k n = marked_cases (λ m. has_run m.bytes b ≡ has_run k.bytes b) at k (λ e. refl) (λ e. added_there k.bytes at e b n)

-- bits are only added
pub marked_kept : (at b : ℕ) (k : Map) → has_run k.bytes b ≡ true → has_run (marked at k).bytes b ≡ true
marked_kept at b k h = marked_cases (λ m. has_run m.bytes b ≡ true) at k (λ e. h) added
  where
    added : has_run k.bytes at ≡ false → has_run (set k.bytes (at / 8) (with_bit k.bytes at)) b ≡ true
    added e = added_there k.bytes at e b (λ q. true≢false (sym h ∙ ap (has_run k.bytes) (sym q) ∙ e)) ∙ h

-- a sound map stays sound
pub marked_sound : (at : ℕ) (k : Map) → is_sound k ≡ true → is_sound (marked at k) ≡ true
unfolding is_sound
marked_sound at k s = rw (eq-eqb _ _ (marked_length at k ∙ sound_length k s)) (eq-eqb _ _ (marked_ones at k (sound_ones k s)))

-- ---- the same where the map is kept, and else nothing changes

begun_cases : (P : Map → Type 0) (kept : Bool) (at : ℕ) (k : Map) → P (marked at k) → P k → P (begun_at kept at k)
unfolding begun_at
begun_cases P kept at k p q = cases P kept (λ e. p) (λ e. q)

pub begun_sound : (kept : Bool) (at : ℕ) (k : Map) → is_sound k ≡ true → is_sound (begun_at kept at k) ≡ true
begun_sound kept at k s = begun_cases (λ m. is_sound m ≡ true) kept at k (marked_sound at k s) s

pub begun_kept : (kept : Bool) (at b : ℕ) (k : Map) → has_run k.bytes b ≡ true → has_run (begun_at kept at k).bytes b ≡ true
begun_kept kept at b k h = begun_cases (λ m. has_run m.bytes b ≡ true) kept at k (marked_kept at b k h) h

pub begun_most : (kept : Bool) (at : ℕ) (k : Map) → (begun_at kept at k).total ≤ k.total + 1
begun_most kept at k = begun_cases (λ m. m.total ≤ k.total + 1) kept at k (marked_most at k) (omega arith)
