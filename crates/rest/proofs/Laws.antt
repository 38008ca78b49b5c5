-- The laws of the rest: its records one by one, its length, and what the copying of a record leaves. Assumes nothing.
use Prim.Native.Nat.{ℕ, zero, suc, ◌+◌, ◌-◌, ◌≤◌, ◌<◌}
use native.Mathlib.Omega.{arith}
use mathlib.Core.List.{List, [], ◌++◌}
use mathlib.Core.Path.{◌≡◌, refl, sym, ap, subst, ◌∙◌}
use mathlib.Core.Bool.{Bool, true, false, cond}
use lib.Dec.{ltb}
use lib.ListN.{length, take, drop, length-append, length-drop, take-append-drop}
use lib.Seq.{length-take-le, take_all, sets, drop-drop, length-sets}
use borrow.Author.Tests.{lt-ltb, le-ltb, ltb-true, ltb-false}
use Rattle.laws.proofs.Lists.{sets_append, take_sets, drop_sets}
use Rattle.laws.proofs.Lent.{came_back, back_whole, back_front}
use Rattle.numbers.specs.Numbers.{little_endian, four_bytes}
use Rattle.numbers.proofs.Laws.{four_fit}
use Rattle.turns.specs.Turn.{Turn, more, done}
use Rattle.turns.proofs.Laws.{loop_more, loop_done}
use Rattle.session.specs.Session.{time_at, next_at}
use Rattle.session.proofs.Laws.{next_after}
use Rattle.rest.specs.Rest.{shifted_at, Copied, copy_turn, rest_from}
use Rattle.rest.specs.Ahead.{SoundFrom}
use Rattle.rest.proofs.Places.{whole_at, sound_next}

-- what a turn that goes on goes on with
abbrev OnMore : (Copied → Type 0) → Turn Copied (List ℕ) → Type 0
OnMore Q (more x) = Q x
OnMore Q (done r) = Unit {0}

on_cond : (Q : Copied → Type 0) (t : Bool) (x : Copied) (r : List ℕ) → (t ≡ true → Q x) → OnMore Q (cond t (more x) (done r))
on_cond Q true x r h = h refl
on_cond Q false x r h = tt

module _ (s : List ℕ) (c : ℕ) where
  copies_fall : (x y : Copied) → copy_turn s c x ≡ more y → length s - y.at < length s - x.at
  copies_fall x y e =
      subst (OnMore (λ (z : Copied). length s - z.at < length s - x.at)) e
      (on_cond _ (ltb x.at (length s)) _ x.rest (λ t. let l = ltb-true x.at (length s) t in let n = next_after s x.at in omega arith))

  -- one record more, and the end
  pub rest_more : (at : ℕ) (r : List ℕ) → at < length s → rest_from s c at r ≡ rest_from s c (next_at s at) (r ++ shifted_at s c at)
  unfolding rest_from
  rest_more at r h = loop_more (copy_turn s c) _ _ copies_fall (rw (lt-ltb _ _ h))

  pub rest_done : (at : ℕ) (r : List ℕ) → length s ≤ at → rest_from s c at r ≡ r
  unfolding rest_from
  rest_done at r h = loop_done (copy_turn s c) _ _ copies_fall (rw (le-ltb _ _ h))

  -- a record is as long as it was
  pub shifted_length : (at : ℕ) → at + 8 ≤ next_at s at → next_at s at ≤ length s → length (shifted_at s c at) ≡ next_at s at - at
  unfolding shifted_at
  shifted_length at h l =
      let d = length-drop at s in
      let e = length-drop (at + 8) s in
      let x : length (take 4 (drop at s)) ≡ 4 = length-take-le 4 (drop at s) (omega arith) in
      let y : length (take (next_at s at - (at + 8)) (drop (at + 8) s)) ≡ next_at s at - (at + 8) =
      length-take-le (next_at s at - (at + 8)) (drop (at + 8) s) (omega arith) in
      let p = length-append (take 4 (drop at s)) (four_bytes (time_at s at - c)) in
      let q = length-append (take 4 (drop at s) ++ four_bytes (time_at s at - c)) (take (next_at s at - (at + 8)) (drop (at + 8) s)) in
      omega arith

  -- length and kind, the time and the payload, stored one after another
  record_copied : (at to next time left : ℕ) (b : List ℕ) {b₁ b₂ b₃ : List ℕ} → at + 8 ≤ next_at s at → next_at s at ≤ length s
      → next ≡ next_at s at → time ≡ time_at s at → left ≡ time - c
      → b₁ ≡ sets b to (take (at + 4 - at) (drop at s))
      → b₂ ≡ sets b₁ (to + 4) (four_bytes left)
      → b₃ ≡ sets b₂ (to + 8) (take (next - (at + 8)) (drop (at + 8) s))
      → b₃ ≡ sets b to (shifted_at s c at)
  unfolding shifted_at
  record_copied at to next time left b {b₁} {b₂} h l n t k e f g =
      let d = length-drop at s in
      let four : at + 4 - at ≡ 4 = omega arith in
      let u = take 4 (drop at s) in
      let v = four_bytes (time_at s at - c) in
      let p = take (next_at s at - (at + 8)) (drop (at + 8) s) in
      let x : length u ≡ 4 = length-take-le 4 (drop at s) (omega arith) in
      let y : length (u ++ v) ≡ 8 = length-append u v ∙ ap (λ (j : ℕ). j + 4) x in
      g
      ∙ ap (λ (j : ℕ). sets b₂ (to + 8) (take (j - (at + 8)) (drop (at + 8) s))) n
      ∙ ap (λ (r : List ℕ). sets r (to + 8) p) (
      f
      ∙ ap (λ (j : ℕ). sets b₁ (to + 4) (four_bytes j)) (k ∙ ap (λ (j : ℕ). j - c) t)
      ∙ ap (λ (r : List ℕ). sets r (to + 4) v) (e ∙ ap (λ (j : ℕ). sets b to (take j (drop at s))) four)
      ∙ ap (λ (j : ℕ). sets (sets b to u) (to + j) v) (sym x)
      ∙ sets_append b to u v)
      ∙ ap (λ (j : ℕ). sets (sets b to (u ++ v)) (to + j) p) (sym y)
      ∙ sets_append b to (u ++ v) p

  -- bytes copied to the front of a part, and the record's three parts each in a part of the buffer
  abbrev copied : List ℕ → List ℕ → List ℕ
  copied u l = u ++ drop (length u) l

  pub record_stored : (at to next time left : ℕ) (b : List ℕ) {q₁ q₂ q₃ : List ℕ} → at + 8 ≤ next_at s at → next_at s at ≤ length s
      → to + (next_at s at - at) ≤ length b
      → next ≡ next_at s at → time ≡ time_at s at → left ≡ time - c → left < 4294967296
      → q₁ ≡ copied (take (at + 4 - at) (drop at s)) (take (length b - to) (drop to b))
      → let b₁ = came_back to (length b - to) b q₁ in
      q₂ ≡ little_endian (length (take (to + 8 - (to + 4)) (drop (to + 4) b₁))) left
      → let b₂ = came_back (to + 4) (to + 8 - (to + 4)) b₁ q₂ in
      q₃ ≡ copied (take (next - (at + 8)) (drop (at + 8) s)) (take (length b₂ - (to + 8)) (drop (to + 8) b₂))
      → came_back (to + 8) (length b₂ - (to + 8)) b₂ q₃ ≡ sets b to (shifted_at s c at)
  record_stored at to next time left b {q₁} {q₂} {q₃} h l r n t k fits e f g =
      let b₁ = came_back to (length b - to) b q₁ in
      let b₂ = came_back (to + 4) (to + 8 - (to + 4)) b₁ q₂ in
      let u = take (at + 4 - at) (drop at s) in
      let p = take (next - (at + 8)) (drop (at + 8) s) in
      let d = length-drop at s in
      let d' = length-drop (at + 8) s in
      let x : length u ≡ 4 = length-take-le (at + 4 - at) (drop at s) (omega arith) ∙ omega arith in
      let y : length p ≡ next - (at + 8) = length-take-le (next - (at + 8)) (drop (at + 8) s) (omega arith) in
      let e₁ : b₁ ≡ sets b to u = back_front b u to (omega arith) (rw (take_all (length u) u (omega arith)) e) in
      let l₁ : length b₁ ≡ length b = ap length e₁ ∙ length-sets b to u in
      let m = length-drop (to + 4) b₁ in
      let w : length (take (to + 8 - (to + 4)) (drop (to + 4) b₁)) ≡ 4 =
      length-take-le (to + 8 - (to + 4)) (drop (to + 4) b₁) (omega arith) ∙ omega arith in
      let v : q₂ ≡ four_bytes left = f ∙ ap (λ (j : ℕ). little_endian j left) w ∙ four_fit left fits in
      let e₂ : b₂ ≡ sets b₁ (to + 4) (four_bytes left) =
      back_whole b₁ (four_bytes left) (to + 4) (to + 8 - (to + 4)) (omega arith) (omega arith) v in
      let l₂ : length b₂ ≡ length b₁ = ap length e₂ ∙ length-sets b₁ (to + 4) (four_bytes left) in
      let e₃ = back_front b₂ p (to + 8) (omega arith) (rw (take_all (length p) p (omega arith)) g) in
      record_copied at to next time left b h l n t k e₁ e₂ e₃

  -- and so the rest is as long as what is left of the session
  long : (f at : ℕ) (r : List ℕ) → length s - at < f → SoundFrom s at → length (rest_from s c at r) ≡ length r + (length s - at)
  long zero at r l a = absurd (let z : ⊥ = omega arith in z)
  long (suc f) at r l a = by (λ n t. long f n t) (ltb at (length s)) refl
    where
      by : ((n : ℕ) (t : List ℕ) → length s - n < f → SoundFrom s n → length (rest_from s c n t) ≡ length t + (length s - n))
          → (b : Bool) → ltb at (length s) ≡ b → length (rest_from s c at r) ≡ length r + (length s - at)
      by ih false e =
          let h = ltb-false at (length s) e in
          let z = ap length (rest_done at r h) in
          omega arith
      by ih true e =
          let h = ltb-true at (length s) e in
          let w = whole_at s at h a in
          let n = ih (next_at s at) (r ++ shifted_at s c at) (let x = w.long in omega arith) (sound_next s at h a) in
          let z = ap length (rest_more at r h) in
          let p = length-append r (shifted_at s c at) in
          let q = shifted_length at w.long w.within in
          let x = w.long in
          let y = w.within in
          omega arith

  pub rest_length : (at : ℕ) → SoundFrom s at → length (rest_from s c at []) ≡ length s - at
  rest_length at a = let e = long (suc (length s - at)) at [] (omega arith) a in omega (arith, e)

  -- how far the copying has come: the bytes before a place stand in the buffer, and those after are as they were
  module _ (from : ℕ) (b₀ : List ℕ) where
    pub record Copying (at : ℕ) (b : List ℕ) : Type 0 where
      pub ahead : SoundFrom s at
      pub beyond : from ≤ at
      pub long : length b ≡ length b₀
      pub front : rest_from s c from [] ≡ rest_from s c at (take (at - from) b)
      pub back : drop (at - from) b ≡ drop (at - from) b₀

    pub copying_starts : SoundFrom s from → Copying from b₀
    copying_starts a =
        let z : from - from ≡ 0 = omega arith in
        record { ahead = a; beyond = omega arith; long = refl; front = ap (λ (k : ℕ). rest_from s c from (take k b₀)) (sym z); back = refl }

    goes : length s - from ≤ length b₀ → (at : ℕ) (b : List ℕ) → at < length s → Copying at b → Copying (next_at s at) (sets b (at - from) (shifted_at s c at))
    goes room at b h k =
        let w = whole_at s at h k.ahead in
        let u = shifted_at s c at in
        let to = at - from in
        let l = shifted_length at w.long w.within in
        let m = k.beyond in
        let n = k.long in
        let x = w.long in
        let y = w.within in
        let e : to + length u ≡ next_at s at - from = omega arith in
        let r : to + length u ≤ length b = omega arith in
        record {
          ahead = sound_next s at h k.ahead;
          beyond = omega arith;
          long = length-sets b to u ∙ k.long;
          front = k.front ∙ rest_more at (take to b) h
              ∙ ap (rest_from s c (next_at s at)) (sym (take_sets b u to r) ∙ ap (λ (j : ℕ). take j (sets b to u)) e);
          back = ap (λ (j : ℕ). drop j (sets b to u)) (sym e)
              ∙ drop_sets b u to r
              ∙ sym (drop-drop (length u) to b) ∙ ap (drop (length u)) k.back ∙ drop-drop (length u) to b₀
              ∙ ap (λ (j : ℕ). drop j b₀) e;
        }

    pub copying_goes : length s - from ≤ length b₀ → (at : ℕ) (b : List ℕ) → at < length s → Copying at b
        → {b' : List ℕ} {next : ℕ} → b' ≡ sets b (at - from) (shifted_at s c at) → next ≡ next_at s at → Copying next b'
    copying_goes room at b h k e f = rw (e, f) (goes room at b h k)

    pub copying_ends : (at : ℕ) (b : List ℕ) → length s ≤ at → Copying at b → b ≡ rest_from s c from [] ++ drop (length s - from) b₀
    copying_ends at b h k =
        let w = k.ahead.within in
        let e : at - from ≡ length s - from = omega arith in
        sym (take-append-drop (at - from) b)
        ∙ ap (λ (l : List ℕ). l ++ drop (at - from) b) (sym (k.front ∙ rest_done at (take (at - from) b) h))
        ∙ ap (λ (l : List ℕ). rest_from s c from [] ++ l) (k.back ∙ ap (λ (j : ℕ). drop j b₀) e)
