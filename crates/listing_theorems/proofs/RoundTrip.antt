-- Assembling a listing gives the bytes listed, for every image and every good range. Assumes nothing.
use Prim.Native.Nat.{ℕ, zero, suc, ◌+◌, ◌-◌, ◌≤◌, ◌<◌}
use native.Mathlib.Omega.{arith}
use mathlib.Core.Path.{◌≡◌, refl, ap, ◌∙◌}
use mathlib.Core.Bool.{Bool, true, false}
use mathlib.Core.List.{List, [], ◌∷◌, ◌++◌}
use lib.Dec.{ltb}
use lib.ListN.{get_or, length, take, drop, length-drop, length-append}
use lib.Seq.{drop-cons, take-add, drop-drop, length-take-le}
use borrow.Author.Tests.{eq-eqb, ne_eqb, le-ltb, ltb-true, ltb-false}
use Rattle.numbers.specs.Numbers.{over}
use Rattle.opcodes.specs.Opcodes.{decode_of}
use Rattle.std.specs.Prelude.{Option, None, Some}
use Rattle.opcodes.specs.declared.Instruction.{Instruction}
use Rattle.listing_lines.specs.Lines.{bytes_of, item_line}
use Rattle.listing_lines.proofs.Laws.{item_size_lem, item_least}
use Rattle.listing_codes.specs.Codes.{piece, line_of}
use Rattle.listing_codes.specs.declared.Piece.{Piece}
use Rattle.listing_reading.specs.Reading.{address_in, line_in}
use Rattle.listing.specs.Listing.{image_byte, shown_at, line_at, listed_bytes, listing_from}
use Rattle.listing.proofs.Laws.{Item, data_byte, whole, item_at, bytes_bounds, listing_more, listing_done}
use Rattle.assembling.specs.Assembling.{follows, good, text_from, outcome_of, wrote, assemble_answer, assemble_buffer}
use Rattle.assembling.proofs.Laws.{text_line, text_done}
use Rattle.listing_theorems.proofs.Back.{address_back}
use Rattle.listing_theorems.proofs.Item.{second_of, third_of, item_back, data_back}

-- one to three bytes of a memory
three : (m : List ℕ) (a n : ℕ) → 1 ≤ n → n ≤ 3 → a + n ≤ length m
    → take n (get_or m a 0 ∷ second_of n (get_or m (a + 1) 0) ∷ third_of n (get_or m (a + 2) 0) ∷ []) ≡ take n (drop a m)
three m a zero h l i = absurd (let z : ⊥ = omega arith in z)
three m a (suc zero) h l i = rw (drop-cons m a 0 (omega arith))
three m a (suc (suc zero)) h l i =
    let e : a + 1 ≡ suc a = omega arith in
    rw (drop-cons m a 0 (omega arith), drop-cons m (suc a) 0 (omega arith), e)
three m a (suc (suc (suc zero))) h l i =
    let e : a + 1 ≡ suc a = omega arith in
    let f : a + 2 ≡ suc (suc a) = omega arith in
    rw (drop-cons m a 0 (omega arith), drop-cons m (suc a) 0 (omega arith), drop-cons m (suc (suc a)) 0 (omega arith), e, f)
three m a (suc (suc (suc (suc n)))) h l i = absurd (let z : ⊥ = omega arith in z)

module _ (image : List ℕ) (last : ℕ) (size : length image ≡ 65536) (small : (k : ℕ) → get_or image k 0 < 256) (end : last < 65536) where
  abbrev piece_at : ℕ → ℕ → Piece
  piece_at a n = piece a n (image_byte image a) (second_of n (image_byte image (a + 1))) (third_of n (image_byte image (a + 2)))

  shown_back : (a : ℕ) → a ≤ last → (rest : List ℕ) {d : Option Instruction} → Item (decode_of (image_byte image a)) (last + 1 - a) d
      → line_in (item_line a d (image_byte image a) (image_byte image (a + 1)) (image_byte image (a + 2)) ++ rest)
      ≡ line_of (piece_at a (bytes_of d)) (length (item_line a d (image_byte image a) (image_byte image (a + 1)) (image_byte image (a + 2))))
  shown_back a h rest (data_byte _) = data_back a (image_byte image a) (image_byte image (a + 1)) (image_byte image (a + 2)) (omega arith) (small a) rest
  shown_back a h rest (whole i e l) =
      item_back a (image_byte image a) (image_byte image (a + 1)) (image_byte image (a + 2)) (omega arith) (small a) (small (a + 1)) (small (a + 2)) rest i e (omega arith)

  -- a line of the listing is read again as its bytes
  line_again : (a : ℕ) → a ≤ last → (rest : List ℕ) → line_in (line_at image last a ++ rest) ≡ line_of (piece_at a (listed_bytes image last a)) (length (line_at image last a))
  unfolding line_at listed_bytes
  line_again a h rest = shown_back a h rest (item_at image last a)

  abbrev listed : ℕ → List ℕ
  listed a = take (last + 1 - a) (drop a image)

  listed_more : (a n : ℕ) → a + n ≤ last + 1 → take n (drop a image) ++ listed (a + n) ≡ listed a
  listed_more a n h =
      let e : last + 1 - a ≡ n + (last + 1 - (a + n)) = omega arith in
      rw (e, take-add n (last + 1 - (a + n)) (drop a image), drop-drop n a image)

  back : (k a : ℕ) (due : Option ℕ) (line : ℕ) → last + 1 ≤ a + k → follows due a ≡ true → text_from (listing_from image last a) due line ≡ good (listed a)
  back zero a due line h f =
      let e : last + 1 - a ≡ 0 = omega arith in
      rw (listing_done image last a (omega arith), e) (text_done due line)
  back (suc k) a due line h f = by (λ b due line. back k b due line) (ltb last a) refl
    where
      by : ((b : ℕ) (due : Option ℕ) (line : ℕ) → last + 1 ≤ b + k → follows due b ≡ true → text_from (listing_from image last b) due line ≡ good (listed b))
          → (t : Bool) → ltb last a ≡ t → text_from (listing_from image last a) due line ≡ good (listed a)
      by ih true e =
          let m = ltb-true last a e in
          let z : last + 1 - a ≡ 0 = omega arith in
          rw (listing_done image last a m, z) (text_done due line)
      by ih false e =
          let m = ltb-false last a e in
          let n = listed_bytes image last a in
          let b = bytes_bounds image last a m in
          ap (λ (w : List ℕ). text_from w due line) (listing_more image last a m)
          ∙ text_line (line_at image last a) (listing_from image last (a + n)) (record { piece = piece_at a n; size = length (line_at image last a) }) due line
          (line_again a m (listing_from image last (a + n))) refl f
          ∙ rw (ih (a + n) (Some (a + n)) (line + 1) (omega arith) (eq-eqb (a + n) (a + n) refl), three image a n b.0 b.1 (omega arith))
          (ap good (listed_more a n b.2))

  -- the theorem
  pub round_trip : (first : ℕ) → first ≤ last → outcome_of (listing_from image last first) ≡ good (take (last + 1 - first) (drop first image))
  unfolding outcome_of
  round_trip first h = back (last + 1) first None 1 (omega arith) refl

  line_some : (a : ℕ) → a ≤ last → length (listing_from image last a) ≡ 0 → ⊥
  unfolding line_at
  line_some a h e =
      let d = shown_at image last a in
      let m = ap (λ (l : List ℕ). length l) (listing_more image last a h) in
      let n = length-append (line_at image last a) (listing_from image last (a + listed_bytes image last a)) in
      let s = item_size_lem a d (image_byte image a) (image_byte image (a + 1)) (image_byte image (a + 2)) in
      let l = item_least d in
      omega arith

  first_address : (a : ℕ) → a ≤ last → address_in (listing_from image last a) ≡ a
  unfolding line_at item_line
  first_address a h = ap address_in (listing_more image last a h) ∙ by (shown_at image last a)
    where
      by : (d : Option Instruction) → address_in (item_line a d (image_byte image a) (image_byte image (a + 1)) (image_byte image (a + 2)) ++ listing_from image last (a + listed_bytes image last a)) ≡ a
      by None = address_back a (omega arith) _ _ _ _ _
      by (Some i) = address_back a (omega arith) _ _ _ _ _

  -- the same of the call: the first address and as many bytes as the range has, which are at the buffer's front
  pub answered : (first : ℕ) (buffer : List ℕ) → first ≤ last → last + 1 - first ≤ length buffer
      → (assemble_answer (listing_from image last first) buffer ≡ wrote first (last + 1 - first))
      × (assemble_buffer (listing_from image last first) buffer ≡ over (take (last + 1 - first) (drop first image)) buffer)
  unfolding assemble_answer assemble_buffer
  answered first buffer h r =
      let n = length-drop first image in
      let k = length-take-le (last + 1 - first) (drop first image) (omega arith) in
      let s = ne_eqb (length (listing_from image last first)) 0 (line_some first h) in
      let l = le-ltb (length buffer) (length (listed first)) (rw k r) in
      (rw (s, round_trip first h, l, k, first_address first h), rw (s, round_trip first h, l))
