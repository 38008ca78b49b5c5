-- The rest of a sound session, byte by byte: its records are the session's from a place on, but that their times are less by the
-- cycles; and so it is sound too. Assumes nothing.
use Prim.Native.Nat.{ℕ, zero, suc, ◌+◌, ◌-◌, ◌≤◌, ◌<◌}
use native.Mathlib.Nat.{add_assoc}
use native.Mathlib.Omega.{arith}
use mathlib.Core.List.{List, [], ◌++◌, append_assoc, append-nil}
use mathlib.Core.Path.{◌≡◌, refl, sym, ap, subst, ◌∙◌}
use mathlib.Core.Bool.{Bool, true, false}
use lib.Dec.{ltb}
use lib.ListN.{length, get_or, take, drop, length-append, length-drop, get_or-append, get_or-eq_default}
use lib.Seq.{length-take-le, get_or-append-add, get_or-take, get_or-drop}
use borrow.Author.Tests.{ltb-true, ltb-false, lt-ltb, le-ltb}
use Rattle.laws.proofs.Orders.{leb_shifted}
use Rattle.numbers.specs.Numbers.{four_bytes}
use Rattle.numbers.proofs.Laws.{four_back}
use Rattle.session.specs.Session.{length_at, kind_at, time_at, payload_at, next_at, event_at, due_at, cut_short, check_from, check_of}
use Rattle.std.specs.Prelude.{Ok}
use Rattle.session.proofs.Laws.{due_there, Found, told_fault_lem, check_past, check_ends}
use Rattle.rest.specs.Rest.{shifted_at, rest_from}
use Rattle.rest.specs.Ahead.{SoundFrom}
use Rattle.rest.proofs.Places.{whole, whole_at, sound_next}
use Rattle.rest.proofs.Laws.{rest_more, rest_done, shifted_length, rest_length}

module _ (s : List ℕ) (c : ℕ) where
  abbrev tail : ℕ → List ℕ
  tail at = rest_from s c at []

  -- what stands before the records that are copied stays before them
  behind : (f at : ℕ) (r : List ℕ) → length s - at < f → SoundFrom s at → rest_from s c at r ≡ r ++ tail at
  behind zero at r l a = absurd (let z : ⊥ = omega arith in z)
  behind (suc f) at r l a = by (λ n t. behind f n t) (ltb at (length s)) refl
    where
      by : ((n : ℕ) (t : List ℕ) → length s - n < f → SoundFrom s n → rest_from s c n t ≡ t ++ tail n)
          → (b : Bool) → ltb at (length s) ≡ b → rest_from s c at r ≡ r ++ tail at
      by ih false e =
          let h = ltb-false at (length s) e in
          rest_done s c at r h ∙ sym (append-nil r) ∙ ap (λ (t : List ℕ). r ++ t) (sym (rest_done s c at [] h))
      by ih true e =
          let h = ltb-true at (length s) e in
          let w = whole_at s at h a in
          let n = sound_next s at h a in
          let l : length s - next_at s at < f = let x = w.long in omega arith in
          rest_more s c at r h
          ∙ ih (next_at s at) (r ++ shifted_at s c at) l n
          ∙ append_assoc r (shifted_at s c at) (tail (next_at s at))
          ∙ ap (λ (t : List ℕ). r ++ t) (sym (rest_more s c at [] h ∙ ih (next_at s at) (shifted_at s c at) l n))

  module _ (at : ℕ) (h : at < length s) (a : SoundFrom s at) where
    pub tail_more : tail at ≡ shifted_at s c at ++ tail (next_at s at)
    tail_more = rest_more s c at [] h ∙ behind (suc (length s - next_at s at)) (next_at s at) (shifted_at s c at) (omega arith) (sound_next s at h a)

    -- the parts of a record: length and kind, time, payload
    pub head_long : length (take 4 (drop at s)) ≡ 4
    head_long =
        let d = length-drop at s in
        let w = whole_at s at h a in
        length-take-le 4 (drop at s) (omega (arith, w.long, w.within))

    front_long : length (take 4 (drop at s) ++ four_bytes (time_at s at - c)) ≡ 8
    front_long = length-append (take 4 (drop at s)) (four_bytes (time_at s at - c)) ∙ ap (λ (k : ℕ). k + 4) head_long

    front_byte : (j : ℕ) → j < 8 → get_or (shifted_at s c at) j 0 ≡ get_or (take 4 (drop at s) ++ four_bytes (time_at s at - c)) j 0
    unfolding shifted_at
    front_byte j l = let f = front_long in get_or-append (take 4 (drop at s) ++ four_bytes (time_at s at - c)) _ 0 j (omega arith)

    head_byte : (j : ℕ) → j < 4 → get_or (shifted_at s c at) j 0 ≡ get_or s (at + j) 0
    head_byte j l =
        let f = head_long in
        front_byte j (omega arith)
        ∙ get_or-append (take 4 (drop at s)) (four_bytes (time_at s at - c)) 0 j (omega arith)
        ∙ get_or-take 4 (drop at s) j 0 l
        ∙ get_or-drop at s j 0

    time_byte : (j : ℕ) → j < 4 → get_or (shifted_at s c at) (4 + j) 0 ≡ get_or (four_bytes (time_at s at - c)) j 0
    time_byte j l =
        front_byte (4 + j) (omega arith)
        ∙ ap (λ (k : ℕ). get_or (take 4 (drop at s) ++ four_bytes (time_at s at - c)) (k + j) 0) (sym head_long)
        ∙ get_or-append-add (take 4 (drop at s)) (four_bytes (time_at s at - c)) j 0

    payload_byte : (j : ℕ) → j < next_at s at - (at + 8) → get_or (shifted_at s c at) (8 + j) 0 ≡ get_or s (at + (8 + j)) 0
    unfolding shifted_at
    payload_byte j l =
        ap (λ (k : ℕ). get_or (take 4 (drop at s) ++ four_bytes (time_at s at - c) ++ take (next_at s at - (at + 8)) (drop (at + 8) s)) (k + j) 0) (sym front_long)
        ∙ get_or-append-add (take 4 (drop at s) ++ four_bytes (time_at s at - c)) (take (next_at s at - (at + 8)) (drop (at + 8) s)) j 0
        ∙ get_or-take (next_at s at - (at + 8)) (drop (at + 8) s) j 0 l
        ∙ get_or-drop (at + 8) s j 0
        ∙ ap (λ (k : ℕ). get_or s k 0) (add_assoc at 8 j)

    -- a byte of the record, and a byte past it
    in_record : (j : ℕ) → j < next_at s at - at → get_or (tail at) j 0 ≡ get_or (shifted_at s c at) j 0
    in_record j l =
        let w = whole_at s at h a in
        let n = shifted_length s c at w.long w.within in
        ap (λ (t : List ℕ). get_or t j 0) tail_more ∙ get_or-append (shifted_at s c at) (tail (next_at s at)) 0 j (omega arith)

    past_record : (j : ℕ) → get_or (tail at) (next_at s at - at + j) 0 ≡ get_or (tail (next_at s at)) j 0
    past_record j =
        let w = whole_at s at h a in
        let n = shifted_length s c at w.long w.within in
        ap (λ (t : List ℕ). get_or t (next_at s at - at + j) 0) tail_more
        ∙ ap (λ (k : ℕ). get_or (shifted_at s c at ++ tail (next_at s at)) (k + j) 0) (sym n)
        ∙ get_or-append-add (shifted_at s c at) (tail (next_at s at)) j 0

  -- length and kind are the session's, also where there is no record
  tail_head : (at : ℕ) → SoundFrom s at → (j : ℕ) → j < 4 → get_or (tail at) j 0 ≡ get_or s (at + j) 0
  tail_head at a j l = by (ltb at (length s)) refl
    where
      by : (b : Bool) → ltb at (length s) ≡ b → get_or (tail at) j 0 ≡ get_or s (at + j) 0
      by false e =
          let h = ltb-false at (length s) e in
          ap (λ (t : List ℕ). get_or t j 0) (rest_done s c at [] h) ∙ sym (get_or-eq_default s 0 (let z : length s ≤ at + j = omega arith in z))
      by true e =
          let h = ltb-true at (length s) e in
          let w = whole_at s at h a in
          let x = w.long in
          in_record at h a j (omega arith) ∙ head_byte at h a j l

  module _ (at : ℕ) (h : at < length s) (a : SoundFrom s at) where
    -- the time is less
    tail_time : (j : ℕ) → j < 4 → get_or (tail at) (4 + j) 0 ≡ get_or (four_bytes (time_at s at - c)) j 0
    tail_time j l =
        let w = whole_at s at h a in
        let x = w.long in
        in_record at h a (4 + j) (omega arith) ∙ time_byte at h a j l

    -- the payload is the session's, also where it has fewer bytes and the next record begins
    tail_payload : (j : ℕ) → j < 2 → get_or (tail at) (8 + j) 0 ≡ get_or s (at + (8 + j)) 0
    tail_payload j l = by (ltb (8 + j) (next_at s at - at)) refl
      where
        by : (b : Bool) → ltb (8 + j) (next_at s at - at) ≡ b → get_or (tail at) (8 + j) 0 ≡ get_or s (at + (8 + j)) 0
        by true e = let k = ltb-true (8 + j) (next_at s at - at) e in in_record at h a (8 + j) k ∙ payload_byte at h a j (omega arith)
        by false e =
            let k = ltb-false (8 + j) (next_at s at - at) e in
            let w = whole_at s at h a in
            let x = w.long in
            let d = 8 + j - (next_at s at - at) in
            let p : 8 + j ≡ next_at s at - at + d = omega arith in
            let q : next_at s at + d ≡ at + (8 + j) = omega arith in
            ap (λ (i : ℕ). get_or (tail at) i 0) p
            ∙ past_record at h a d
            ∙ tail_head (next_at s at) (sound_next s at h a) d (omega arith)
            ∙ ap (λ (i : ℕ). get_or s i 0) q

-- the rest's record at a place is the session's so far on, its time less by the cycles
pub record Alike (s r : List ℕ) (c from at : ℕ) : Type 0 where
  pub lengths : length_at r at ≡ length_at s (from + at)
  pub kinds : kind_at r at ≡ kind_at s (from + at)
  pub values : payload_at r at 0 ≡ payload_at s (from + at) 0
  pub stops : payload_at r at 1 ≡ payload_at s (from + at) 1
  pub times : time_at r at ≡ time_at s (from + at) - c

-- and so is each from there on
pub data Matched (s r : List ℕ) (c from : ℕ) : ℕ → Type 0 where
  over : {at : ℕ} → length s ≤ from + at → Matched s r c from at
  goes : {at : ℕ} → from + at < length s → Alike s r c from at → Matched s r c from (next_at r at) → Matched s r c from at

pub event_there : (s r : List ℕ) (c from at : ℕ) → Alike s r c from at → event_at s (from + at) ≡ event_at r at
event_there s r c from at k = rw (k.kinds, k.values, k.stops)

module _ (s : List ℕ) (c from : ℕ) where
  -- the rest, of which the records before a place stand in `w`
  module _ (r w : List ℕ) (at : ℕ) (e : r ≡ w ++ tail s c at) (f : at ≡ from + length w) where
    byte_there : (j : ℕ) → get_or r (length w + j) 0 ≡ get_or (tail s c at) j 0
    byte_there j = ap (λ (l : List ℕ). get_or l (length w + j) 0) e ∙ get_or-append-add w (tail s c at) j 0

    pub alike : at < length s → SoundFrom s at → Alike s r c from (length w)
    unfolding length_at kind_at time_at payload_at
    alike h a =
        let head : (j : ℕ) → j < 4 → get_or r (length w + j) 0 ≡ get_or s (from + length w + j) 0 =
        λ j l. byte_there j ∙ tail_head s c at a j l ∙ ap (λ (k : ℕ). get_or s (k + j) 0) f in
        let payload : (j : ℕ) → j < 2 → get_or r (length w + (8 + j)) 0 ≡ get_or s (from + length w + (8 + j)) 0 =
        λ j l. byte_there (8 + j) ∙ tail_payload s c at h a j l ∙ ap (λ (k : ℕ). get_or s (k + (8 + j)) 0) f in
        let time : (j : ℕ) → j < 4 → get_or r (length w + (4 + j)) 0 ≡ get_or (four_bytes (time_at s at - c)) j 0 =
        λ j l. byte_there (4 + j) ∙ tail_time s c at h a j l in
        record {
          lengths = rw (head 0 (omega arith), head 1 (omega arith));
          kinds = rw (head 2 (omega arith), head 3 (omega arith));
          values = payload 0 (omega arith);
          stops = payload 1 (omega arith);
          times = four_back _ _ _ _ _ (time 0 (omega arith)) (time 1 (omega arith)) (time 2 (omega arith)) (time 3 (omega arith))
              ∙ ap (λ (k : ℕ). time_at s k - c) f;
        }

  pub next_there : (r : List ℕ) (at : ℕ) → Alike s r c from at → next_at s (from + at) ≡ from + next_at r at
  unfolding next_at
  next_there r at k = let l = k.lengths in omega arith

  matched : (f : ℕ) (r w : List ℕ) (at : ℕ) → length s - at < f → r ≡ w ++ tail s c at → at ≡ from + length w → SoundFrom s at → Matched s r c from (length w)
  matched zero r w at l e g a = absurd (let z : ⊥ = omega arith in z)
  matched (suc f) r w at l e g a = by (λ v n. matched f r v n) (ltb at (length s)) refl
    where
      by : ((v : List ℕ) (n : ℕ) → length s - n < f → r ≡ v ++ tail s c n → n ≡ from + length v → SoundFrom s n → Matched s r c from (length v))
          → (b : Bool) → ltb at (length s) ≡ b → Matched s r c from (length w)
      by ih false t = let h = ltb-false at (length s) t in over (let z : length s ≤ from + length w = omega arith in z)
      by ih true t =
          let h = ltb-true at (length s) t in
          let x = whole_at s at h a in
          let v = w ++ shifted_at s c at in
          let k = alike r w at e g h a in
          let n = shifted_length s c at x.long x.within in
          let m = length-append w (shifted_at s c at) in
          let o = ap (next_at s) g ∙ next_there r (length w) k in
          let y = x.long in
          let q : length v ≡ next_at r (length w) = omega arith in
          goes (let z : from + length w < length s = omega arith in z) k
          (subst (Matched s r c from) q
          (ih v (next_at s at) (omega arith)
          (e ∙ ap (λ (t : List ℕ). w ++ t) (tail_more s c at h a) ∙ sym (append_assoc w (shifted_at s c at) (tail s c (next_at s at))))
          (omega arith) (sound_next s at h a)))

  -- the records of the rest are those of the session from its place on
  pub rest_matched : SoundFrom s from → Matched s (rest_from s c from []) c from 0
  rest_matched a = matched (suc (length s - from)) (tail s c from) [] from (omega arith) refl (omega arith) a

  module _ (r : List ℕ) (long : length s ≡ from + length r) where
    -- a record of the rest is due as many cycles earlier
    pub due_shifted : {at : ℕ} → Matched s r c from at → (n : ℕ) → due_at s (c + n) (from + at) ≡ due_at r n at
    unfolding due_at
    due_shifted {at} (over h) n = rw (le-ltb _ _ h, le-ltb at (length r) (let z : length r ≤ at = omega arith in z))
    due_shifted {at} (goes h k m) n =
        rw (lt-ltb _ _ h, lt-ltb at (length r) (let z : at < length r = omega arith in z), k.times) (leb_shifted (time_at s (from + at)) c n)

    pub due_goes : {at : ℕ} → Matched s r c from at → (n : ℕ) → due_at r n at ≡ true → Alike s r c from at × Matched s r c from (next_at r at)
    due_goes {at} (over h) n e = let d = (due_there r n at e).0 in absurd (let z : ⊥ = omega arith in z)
    due_goes (goes h k m) n e = (k, m)

    -- the tests of a record say the same of it
    faultless : (at number before i earlier : ℕ) → Alike s r c from at → Found s number before (from + at) (Ok tt) → before ≤ time_at s (from + at)
        → earlier ≤ before - c → Found r i earlier at (Ok tt)
    unfolding cut_short
    faultless at number before i earlier k g l q =
        let e : length r - at ≡ length s - (from + at) = omega arith in (
          rw (e, k.lengths) g.0,
          rw k.kinds g.1,
          rw (k.lengths, k.kinds) g.2,
          rw (k.kinds, k.values, k.stops) g.3,
          rw k.times (le-ltb (time_at s (from + at) - c) earlier (let z : earlier ≤ time_at s (from + at) - c = omega arith in z)),
        )

    sound_there : {at : ℕ} → Matched s r c from at → (number before i earlier : ℕ) → earlier ≤ before - c → check_from s number before (from + at) ≡ Ok tt
        → check_from r i earlier at ≡ Ok tt
    sound_there {at} (over h) number before i earlier q e = check_ends r i earlier at (omega arith)
    sound_there {at} (goes h k m) number before i earlier q e =
        let w = whole s number before (from + at) h e in
        let t = k.times in
        let f = told_fault_lem r i earlier at (Ok tt) (faultless at number before i earlier k w.faultless w.later q) in
        check_past r i earlier at (omega arith) f
        ∙ sound_there m (number + 1) (time_at s (from + at)) (i + 1) (time_at r at) (omega arith)
        (ap (check_from s (number + 1) (time_at s (from + at))) (sym (next_there r at k)) ∙ w.rest)

  -- so that a sound session's rest is sound
  pub rest_sound : SoundFrom s from → check_of (rest_from s c from []) ≡ Ok tt
  rest_sound a =
      let n = rest_length s c from a in
      let w = a.within in
      sound_there (rest_from s c from []) (omega arith) (rest_matched a) a.number a.before 0 0 (omega arith)
      (ap (check_from s a.number a.before) (let z : from + 0 ≡ from = omega arith in z) ∙ a.sound)
