-- The rest of a rest is a rest: of a sound session of which u records were used in c cycles, and of what is left v in d, the rest is
-- that of u + v records in c + d cycles. Assumes nothing.
use Prim.Native.Nat.{ℕ, zero, suc, ◌+◌, ◌-◌, ◌≤◌, ◌<◌}
use native.Mathlib.Nat.{add-zero, add-suc}
use native.Mathlib.Omega.{arith}
use mathlib.Core.List.{List, [], ◌++◌, append_assoc}
use mathlib.Core.Path.{◌≡◌, refl, sym, ap, subst, ◌∙◌}
use mathlib.Core.Bool.{Bool, true, false}
use lib.Dec.{ltb}
use lib.ListN.{length, take, drop, length-append, length-drop}
use lib.Seq.{length-take-le, take_at, drop_at, drop-append-add, drop-append_seam}
use borrow.Author.Tests.{ltb-true, ltb-false}
use Rattle.numbers.specs.Numbers.{four_bytes}
use Rattle.session.specs.Session.{time_at, next_at, check_of}
use Rattle.std.specs.Prelude.{Ok}
use Rattle.session.proofs.Laws.{next_after}
use Rattle.rest.specs.Rest.{place_of, shifted_at, rest_from, rest_of}
use Rattle.rest.specs.Ahead.{SoundFrom}
use Rattle.rest.proofs.Places.{whole_at, sound_next, place_sound}
use Rattle.rest.proofs.Laws.{rest_more, rest_done, shifted_length, rest_length}
use Rattle.rest.proofs.Matched.{Alike, tail_more, head_long, alike, next_there}

module _ (s : List ℕ) (c from : ℕ) where
  abbrev tail : ℕ → List ℕ
  tail at = rest_from s c at []

  -- the rest, of which the records before a place of the session stand in `w`
  record Parted (r w : List ℕ) (at : ℕ) : Type 0 where
    parts : r ≡ w ++ tail at
    there : at ≡ from + length w
    ahead : SoundFrom s at

  module _ (r w : List ℕ) (at : ℕ) (k : Parted r w at) (h : at < length s) where
    from_there : Alike s r c from (length w)
    from_there = alike s c from r w at k.parts k.there h k.ahead

    next_same : next_at s at ≡ from + next_at r (length w)
    next_same = ap (next_at s) k.there ∙ next_there s c from r (length w) from_there

    onwards : r ≡ (w ++ shifted_at s c at) ++ tail (next_at s at)
    onwards =
        k.parts ∙ ap (λ (t : List ℕ). w ++ t) (tail_more s c at h k.ahead)
        ∙ sym (append_assoc w (shifted_at s c at) (tail (next_at s at)))

    next_long : length (w ++ shifted_at s c at) ≡ next_at r (length w)
    next_long =
        let x = whole_at s at h k.ahead in
        let n = shifted_length s c at x.long x.within in
        let m = length-append w (shifted_at s c at) in
        let o = next_same in
        let p = k.there in
        let y = x.long in
        omega arith

    next_parted : Parted r (w ++ shifted_at s c at) (next_at s at)
    next_parted =
        let l = next_long in
        let o = next_same in
        record { parts = onwards; there = omega arith; ahead = sound_next s at h k.ahead }

    -- the parts of the record there: length and kind, the time, the payload
    abbrev head : List ℕ
    head = take 4 (drop at s)

    abbrev time : ℕ → List ℕ
    time cycles = four_bytes (time_at s at - cycles)

    abbrev payload : List ℕ
    payload = take (next_at s at - (at + 8)) (drop (at + 8) s)

    front_long : length (head ++ time c) ≡ 8
    front_long = length-append head (time c) ∙ ap (λ (j : ℕ). j + 4) (head_long s c at h k.ahead)

    record_parts : r ≡ w ++ ((head ++ time c) ++ (payload ++ tail (next_at s at)))
    unfolding shifted_at
    record_parts =
        k.parts ∙ ap (λ (t : List ℕ). w ++ t) (tail_more s c at h k.ahead)
        ∙ ap (λ (t : List ℕ). w ++ t) (append_assoc (head ++ time c) payload (tail (next_at s at)))

    same_head : take 4 (drop (length w) r) ≡ head
    same_head =
        ap (λ (t : List ℕ). take 4 (drop (length w) t)) record_parts
        ∙ ap (take 4) (drop-append_seam w _ ∙ append_assoc head (time c) (payload ++ tail (next_at s at)))
        ∙ take_at head _ 4 (head_long s c at h k.ahead)

    same_payload : take (next_at r (length w) - (length w + 8)) (drop (length w + 8) r) ≡ payload
    same_payload =
        let x = whole_at s at h k.ahead in
        let y = x.long in
        let z = x.within in
        let n = next_same in
        let p = k.there in
        let l = length-drop (at + 8) s in
        let e = length-take-le (next_at s at - (at + 8)) (drop (at + 8) s) (omega arith) in
        ap (λ (t : List ℕ). take (next_at r (length w) - (length w + 8)) (drop (length w + 8) t)) record_parts
        ∙ ap (take (next_at r (length w) - (length w + 8))) (drop-append-add w _ 8 ∙ drop_at (head ++ time c) _ 8 front_long)
        ∙ take_at payload (tail (next_at s at)) (next_at r (length w) - (length w + 8)) (omega arith)

    same_time : (d : ℕ) → time_at r (length w) - d ≡ time_at s at - (c + d)
    same_time d =
        let e = from_there.times in
        let f = ap (time_at s) k.there in
        omega arith

    -- shifted twice it is shifted by both
    shifted_twice : (d : ℕ) → shifted_at r d (length w) ≡ shifted_at s (c + d) at
    unfolding shifted_at
    shifted_twice d =
        ap (λ (u : List ℕ). (u ++ four_bytes (time_at r (length w) - d)) ++ take (next_at r (length w) - (length w + 8)) (drop (length w + 8) r)) same_head
        ∙ ap (λ (j : ℕ). (head ++ four_bytes j) ++ take (next_at r (length w) - (length w + 8)) (drop (length w + 8) r)) (same_time d)
        ∙ ap (λ (p : List ℕ). (head ++ time (c + d)) ++ p) same_payload

  -- the records from a place on, shifted twice
  rest_twice : (d f : ℕ) (r w : List ℕ) (at : ℕ) (q : List ℕ) → length s - at < f → Parted r w at
      → rest_from r d (length w) q ≡ rest_from s (c + d) at q
  rest_twice d zero r w at q l k = absurd (let z : ⊥ = omega arith in z)
  rest_twice d (suc f) r w at q l k = by (λ v n p. rest_twice d f r v n p) (ltb at (length s)) refl
    where
      long : length r ≡ length w + (length s - at)
      long = ap length k.parts ∙ length-append w (tail at) ∙ ap (λ (j : ℕ). length w + j) (rest_length s c at k.ahead)

      by : ((v : List ℕ) (n : ℕ) (p : List ℕ) → length s - n < f → Parted r v n → rest_from r d (length v) p ≡ rest_from s (c + d) n p)
          → (b : Bool) → ltb at (length s) ≡ b → rest_from r d (length w) q ≡ rest_from s (c + d) at q
      by ih false e =
          let h = ltb-false at (length s) e in
          let g = long in
          rest_done r d (length w) q (omega arith) ∙ sym (rest_done s (c + d) at q h)
      by ih true e =
          let h = ltb-true at (length s) e in
          let g = long in
          let x = (whole_at s at h k.ahead).long in
          rest_more r d (length w) q (omega arith)
          ∙ ap (λ (t : List ℕ). rest_from r d (next_at r (length w)) (q ++ t)) (shifted_twice r w at k h d)
          ∙ ap (λ (j : ℕ). rest_from r d j (q ++ shifted_at s (c + d) at)) (sym (next_long r w at k h))
          ∙ ih (w ++ shifted_at s c at) (next_at s at) (q ++ shifted_at s (c + d) at) (omega arith) (next_parted r w at k h)
          ∙ sym (rest_more s (c + d) at q h)

-- where v records more end, in the session and in its rest: at one place, or past the end of both
data Placed (s : List ℕ) (c from : ℕ) (r : List ℕ) (at to : ℕ) : Type 0 where
  inside : (w : List ℕ) → Parted s c from r w at → length w ≡ to → Placed s c from r at to
  past : length s < at → length r < to → Placed s c from r at to

module _ (s : List ℕ) (u c : ℕ) (sound : check_of s ≡ Ok tt) (within : place_of s u ≤ length s) where
  abbrev from : ℕ
  from = place_of s u

  abbrev rest : List ℕ
  rest = rest_of s u c

  long : length s ≡ from + length rest
  unfolding rest_of
  long = let e = rest_length s c from (place_sound s u sound within) in omega arith

  ends_next : (at to : ℕ) → Placed s c from rest at to → Placed s c from rest (next_at s at) (next_at rest to)
  ends_next at to (past h l) = let x = next_after s at in let y = next_after rest to in past (omega arith) (omega arith)
  ends_next at to (inside w k e) = subst (λ (j : ℕ). Placed s c from rest (next_at s at) (next_at rest j)) e (by (ltb at (length s)) refl)
    where
      by : (b : Bool) → ltb at (length s) ≡ b → Placed s c from rest (next_at s at) (next_at rest (length w))
      by true t = let h = ltb-true at (length s) t in inside (w ++ shifted_at s c at) (next_parted s c from rest w at k h) (next_long s c from rest w at k h)
      by false t =
          let h = ltb-false at (length s) t in
          let x = next_after s at in
          let y = next_after rest (length w) in
          let z = k.there in
          let l = long in
          past (omega arith) (omega arith)

  ends : (v : ℕ) → Placed s c from rest (place_of s (u + v)) (place_of rest v)
  unfolding place_of rest_of
  ends zero =
      rw (add-zero u)
      (inside [] (record { parts = refl; there = sym (add-zero (place_of s u)); ahead = place_sound s u sound within }) refl)
  ends (suc v) = rw (add-suc u v) (ends_next (place_of s (u + v)) (place_of rest v) (ends v))

  -- the rest of the rest
  pub rest_of_rest : (v d : ℕ) → rest_of rest v d ≡ rest_of s (u + v) (c + d)
  unfolding rest_of
  rest_of_rest v d = by (place_of s (u + v)) (place_of rest v) (ends v)
    where
      by : (at to : ℕ) → Placed s c from rest at to → rest_from rest d to [] ≡ rest_from s (c + d) at []
      by at to (past h l) = rest_done rest d to [] (omega arith) ∙ sym (rest_done s (c + d) at [] (omega arith))
      by at to (inside w k e) =
          ap (λ (j : ℕ). rest_from rest d j []) (sym e) ∙ rest_twice s c from d (suc (length s - at)) rest w at [] (omega arith) k
