-- The places of a sound session's records: each record has its eight bytes and ends within the session, and the records after the
-- first k begin at `place_of`. Assumes nothing.
use Prim.Native.Nat.{ℕ, zero, suc, ◌+◌, ◌-◌, ◌≤◌, ◌<◌}
use native.Mathlib.Nat.{add-zero, add-suc}
use native.Mathlib.Numerals.{add-one}
use native.Mathlib.Omega.{arith}
use mathlib.Core.List.{List}
use mathlib.Core.Logic.{⊎_elim}
use mathlib.Core.Path.{◌≡◌, refl, sym, ap, ◌∙◌}
use lib.ListN.{length}
use borrow.Author.Tests.{eqb-true, eqb-false, not-false, lt-ltb, le-ltb}
use Rattle.session.specs.Session.{length_at, kind_at, time_at, next_at, length_for, fault_at, check_from, check_of}
use Rattle.std.specs.Prelude.{Ok, Some, None}
use Rattle.session.proofs.Laws.{Found, fault_told, next_after, sound_or_not, check_stops, sound_step}
use Rattle.rest.specs.Rest.{place_of, has_fewer, skip_of}
use Rattle.rest.specs.Ahead.{SoundFrom}

-- a kind that is known has records of 6 to 8 bytes after the length
known_length : (kind : ℕ) → (length_for kind ≡ 0 → ⊥) → (6 ≤ length_for kind) × (length_for kind ≤ 8)
unfolding length_for
known_length zero h = absurd (h refl)
known_length (suc zero) h = (omega arith, omega arith)
known_length (suc (suc zero)) h = (omega arith, omega arith)
known_length (suc (suc (suc zero))) h = (omega arith, omega arith)
known_length (suc (suc (suc (suc zero)))) h = (omega arith, omega arith)
known_length (suc (suc (suc (suc (suc zero))))) h = (omega arith, omega arith)
known_length (suc (suc (suc (suc (suc (suc zero)))))) h = (omega arith, omega arith)
known_length (suc (suc (suc (suc (suc (suc (suc zero))))))) h = (omega arith, omega arith)
known_length (suc (suc (suc (suc (suc (suc (suc (suc kind)))))))) h = absurd (h refl)

-- what a session that is sound from a place on gives of the record there
pub record Whole (s : List ℕ) (number before at : ℕ) : Type 0 where
  pub faultless : Found s number before at (Ok tt)
  pub long : at + 8 ≤ next_at s at
  pub short : next_at s at ≤ at + 10
  pub within : next_at s at ≤ length s
  pub rest : check_from s (number + 1) (time_at s at) (next_at s at) ≡ Ok tt
  pub later : before ≤ time_at s at

pub whole : (s : List ℕ) (number before at : ℕ) → at < length s → check_from s number before at ≡ Ok tt → Whole s number before at
unfolding next_at
whole s number before at h e =
    let f : fault_at s number before at ≡ Ok tt =
    ⊎_elim (λ p. p) (λ r. sym (check_stops s number before at h r) ∙ e) (sound_or_not (fault_at s number before at)) in
    let g = fault_told s number before at (Ok tt) f in
    let k = known_length (kind_at s at) (eqb-false _ _ g.1) in
    let l : length_at s at ≡ length_for (kind_at s at) = eqb-true _ _ (not-false _ g.2) in
    let p = sound_step s number before at h e in
    record {
      faultless = g;
      long = omega (arith, k.0, l);
      short = omega (arith, k.1, l);
      within = p.within;
      rest = p.rest;
      later = p.later;
    }

-- the place after the record at a place is sound too
pub sound_next : (s : List ℕ) (at : ℕ) → at < length s → SoundFrom s at → SoundFrom s (next_at s at)
sound_next s at h a =
    let w = whole s a.number a.before at h a.sound in
    record { number = a.number + 1; before = time_at s at; sound = w.rest; within = w.within }

pub whole_at : (s : List ℕ) (at : ℕ) → at < length s → (a : SoundFrom s at) → Whole s a.number a.before at
whole_at s at h a = whole s a.number a.before at h a.sound

pub sound_start : (s : List ℕ) → check_of s ≡ Ok tt → SoundFrom s 0
sound_start s h = record { number = 0; before = 0; sound = h; within = omega arith }

-- one record more
pub place_next : (s : List ℕ) (k : ℕ) → place_of s (k + 1) ≡ next_at s (place_of s k)
unfolding place_of
place_next s k = ap (place_of s) (add-one k)

-- places grow, so that once the session's end is met, the places after are past it
place_grows : (s : List ℕ) (i k : ℕ) → place_of s i + k ≤ place_of s (i + k)
unfolding place_of
place_grows s i zero = rw (add-zero, add-zero) (omega arith)
place_grows s i (suc k) =
    let h = place_grows s i k in
    let n = next_after s (place_of s (i + k)) in
    rw (add-suc i k) (omega arith)

pub place_past : (s : List ℕ) (i k : ℕ) → length s ≤ place_of s i → i < k → length s < place_of s k
place_past s i k h l =
    let g = place_grows s i (k - i) in
    let e : place_of s (i + (k - i)) ≡ place_of s k = ap (place_of s) (let z : i + (k - i) ≡ k = omega arith in z) in
    omega arith

-- the place after the first k records of a sound session, where it has so many, is sound
pub place_sound : (s : List ℕ) (k : ℕ) → check_of s ≡ Ok tt → place_of s k ≤ length s → SoundFrom s (place_of s k)
unfolding place_of
place_sound s zero h l = sound_start s h
place_sound s (suc k) h l =
    let n = next_after s (place_of s k) in
    sound_next s (place_of s k) (omega arith) (place_sound s k h (omega arith))

-- the place after the first k records, where there are so many
pub skip_fewer : (s : List ℕ) (i k : ℕ) → length s ≤ place_of s i → i < k → None ≡ skip_of s k
unfolding skip_of has_fewer
skip_fewer s i k h l = rw (lt-ltb _ _ (place_past s i k h l))

pub skip_at : (s : List ℕ) (k at : ℕ) → place_of s k ≡ at → at ≤ length s → Some at ≡ skip_of s k
unfolding skip_of has_fewer
skip_at s k at e h = rw (e, le-ltb _ _ h)
