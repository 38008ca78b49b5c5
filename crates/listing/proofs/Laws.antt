-- The laws of a listing: what is listed at an address, its first line and then the listing after it, how a line is counted and written. Assumes nothing.
use Prim.Native.Nat.{ℕ, zero, suc, ◌+◌, ◌-◌, ◌≤◌, ◌<◌}
use native.Mathlib.Omega.{arith}
use mathlib.Core.Path.{◌≡◌, refl, sym, ap, ◌∙◌}
use mathlib.Core.Logic.{◌⊎◌, inl, inr}
use mathlib.Core.Bool.{Bool, true, false, cond, not}
use mathlib.Core.List.{List, [], ◌++◌}
use lib.Dec.{ltb}
use lib.ListN.{length, length-append}
use lib.Seq.{sets}
use borrow.Author.Tests.{lt-ltb, le-ltb, ltb-true, ltb-false, eq-eqb, ne_eqb}
use Rattle.laws.proofs.Bools.{neither}
use Rattle.laws.proofs.Conds.{picks, passes}
use Rattle.laws.proofs.Lists.{sets_append}
use Rattle.numbers.proofs.Laws.{sets_over}
use Rattle.opcodes.specs.Opcodes.{decode_of}
use Rattle.opcodes.specs.declared.Instruction.{Instruction}
use Rattle.std.specs.Prelude.{Option, None, Some}
use Rattle.opcodes.proofs.Bounds.{bounds}
use Rattle.asking.specs.Asking.{Given, gives, replies}
use Rattle.listing_lines.specs.Lines.{bytes_of, item_line}
use Rattle.listing.specs.Listing.{image_byte, fitting_in, shown_at, line_at, listed_bytes, listed_from, listing_from}
use Rattle.listing.specs.Listing.{is_bad_range, list_answer, listed_buffer, list_buffer}

-- an instruction that the range's end cuts off
abbrev pub CutOff : Option Instruction → ℕ → Type 0
CutOff None room = ⊥
CutOff (Some i) room = room < i.length

-- what is listed is a data byte, the opcode being undefined or cut off, or the instruction that it means, all of whose bytes are in the range
pub data Item (decoded : Option Instruction) (room : ℕ) : Option Instruction → Type 0 where
  data_byte : (decoded ≡ None) ⊎ CutOff decoded room → Item decoded room None
  whole : (i : Instruction) → decoded ≡ Some i → i.length ≤ room → Item decoded room (Some i)

item : (decoded : Option Instruction) (room : ℕ) → Item decoded room (fitting_in room decoded)
item None room = data_byte (inl refl)
item (Some i) room = by (ltb room i.length) refl
  where
    by : (t : Bool) → ltb room i.length ≡ t → Item (Some i) room (cond t None (Some i))
    by true e = data_byte (inr (ltb-true room i.length e))
    by false e = whole i refl (ltb-false room i.length e)

item_bounds : (opcode room : ℕ) {shown : Option Instruction} → 1 ≤ room → Item (decode_of opcode) room shown
    → (1 ≤ bytes_of shown) × (bytes_of shown ≤ 3) × (bytes_of shown ≤ room)
item_bounds opcode room h (data_byte _) = (omega arith, omega arith, h)
item_bounds opcode room h (whole i e l) = let b = bounds opcode i e in (b.0.0, b.0.1, l)

module _ (image : List ℕ) (last : ℕ) where
  pub item_at : (address : ℕ) → Item (decode_of (image_byte image address)) (last + 1 - address) (shown_at image last address)
  unfolding shown_at
  item_at address = item (decode_of (image_byte image address)) (last + 1 - address)

  -- what is listed has one to three bytes, and stays within the range
  pub bytes_bounds : (address : ℕ) → address ≤ last
      → (1 ≤ listed_bytes image last address) × (listed_bytes image last address ≤ 3) × (address + listed_bytes image last address ≤ last + 1)
  unfolding listed_bytes
  bytes_bounds address h =
      let b = item_bounds (image_byte image address) (last + 1 - address) (omega arith) (item_at address) in
      (b.0, b.1, omega (arith, b.2))

  pub shown_bounds : (address : ℕ) {shown : Option Instruction} → address ≤ last → shown ≡ shown_at image last address
      → (shown ≡ shown_at image last address) × (1 ≤ bytes_of shown) × (bytes_of shown ≤ 3) × (address + bytes_of shown ≤ last + 1)
  unfolding listed_bytes
  shown_bounds address h e = let b = bytes_bounds address h in (e, rw e b.0, rw e b.1, rw e b.2)

  -- any two numbers of lines that are enough do
  enough : (f g address : ℕ) → last + 1 ≤ address + f → last + 1 ≤ address + g → listed_from image last f address ≡ listed_from image last g address
  unfolding listed_from
  enough zero zero address p q = refl
  enough zero (suc g) address p q = rw (lt-ltb last address (omega arith))
  enough (suc f) zero address p q = rw (lt-ltb last address (omega arith))
  enough (suc f) (suc g) address p q = by (λ b. enough f g b) (ltb last address) refl
    where
      by : ((b : ℕ) → last + 1 ≤ b + f → last + 1 ≤ b + g → listed_from image last f b ≡ listed_from image last g b)
          → (t : Bool) → ltb last address ≡ t
          → cond t [] (line_at image last address ++ listed_from image last f (address + listed_bytes image last address))
          ≡ cond t [] (line_at image last address ++ listed_from image last g (address + listed_bytes image last address))
      by ih true e = refl
      by ih false e =
          let b = bytes_bounds address (ltb-false last address e) in
          ap (λ (r : List ℕ). line_at image last address ++ r) (ih (address + listed_bytes image last address) (omega arith) (omega arith))

  -- the first line, and the listing of what follows
  pub listing_more : (address : ℕ) → address ≤ last
      → listing_from image last address ≡ line_at image last address ++ listing_from image last (address + listed_bytes image last address)
  unfolding listing_from listed_from
  listing_more address h =
      let n : last + 1 - address ≡ suc (last - address) = omega arith in
      let b = bytes_bounds address h in
      let next = address + listed_bytes image last address in
      rw (n, le-ltb last address h)
      (ap (λ (r : List ℕ). line_at image last address ++ r) (enough (last - address) (last + 1 - next) next (omega arith) (omega arith)))

  pub listing_done : (address : ℕ) → last < address → listing_from image last address ≡ []
  unfolding listing_from listed_from
  listing_done address h = let n : last + 1 - address ≡ 0 = omega arith in rw n

  -- a turn of a loop: the characters of the line at an address, and the bytes of what is listed there
  pub record Turn (address size bytes : ℕ) (line : List ℕ) : Type 0 where
    pub there : address ≤ last
    pub same : line ≡ line_at image last address
    pub long : length line ≡ size
    pub wide : bytes ≡ listed_bytes image last address

  -- .. of what was found there
  pub found : (address : ℕ) {size bytes : ℕ} {shown : Option Instruction} → address ≤ last → shown ≡ shown_at image last address → bytes ≡ bytes_of shown
      → let line = item_line address shown (image_byte image address) (image_byte image (address + 1)) (image_byte image (address + 2)) in
      length line ≡ size → Turn address size bytes line
  unfolding line_at listed_bytes
  found address h e f g = record { there = h; same = rw e; long = g; wide = f ∙ ap bytes_of e }

  pub listing_split : {address size bytes : ℕ} {line : List ℕ} → Turn address size bytes line
      → length (listing_from image last address) ≡ size + length (listing_from image last (address + bytes))
  listing_split {address} t =
      rw (t.wide, ← t.long, t.same) (ap (λ (l : List ℕ). length l) (listing_more address t.there) ∙ length-append (line_at image last address) _)

  -- one more line is counted
  pub counts_more : (n : ℕ) {address size bytes total : ℕ} {line : List ℕ} → Turn address size bytes line
      → total ≡ n + length (listing_from image last address) → total ≡ n + size + length (listing_from image last (address + bytes))
  counts_more n t e = let s = listing_split t in omega arith

  pub counts_done : (n : ℕ) {address total : ℕ} → last < address → total ≡ n + length (listing_from image last address) → n ≡ total
  counts_done n {address} h e = let d = ap (λ (l : List ℕ). length l) (listing_done address h) in omega arith

  -- one more line is written
  pub writes_more : (at : ℕ) (buffer : List ℕ) {address size bytes : ℕ} {line buffer' : List ℕ} → Turn address size bytes line → buffer' ≡ sets buffer at line
      → sets buffer at (listing_from image last address) ≡ sets buffer' (at + size) (listing_from image last (address + bytes))
  writes_more at buffer {address} t e =
      rw (e, t.wide, ← t.long, t.same)
      (ap (λ (l : List ℕ). sets buffer at l) (listing_more address t.there) ∙ sym (sets_append buffer at (line_at image last address) _))

  pub writes_done : (at : ℕ) (buffer : List ℕ) {address : ℕ} → last < address → sets buffer at (listing_from image last address) ≡ buffer
  writes_done at buffer {address} h = rw (listing_done address h)

-- a range that is not refused
pub good_range : (first last : ℕ) → is_bad_range first last ≡ false → (first ≤ last) × (last < 65536)
good_range first last e =
    let b = neither (ltb 65535 last) (ltb last first) e in
    let h = ltb-false 65535 last b.0 in
    (ltb-false last first b.1, omega arith)

-- the ways that the call can end
module _ (image : List ℕ) (first last : ℕ) (buffer : List ℕ) where
  abbrev text : List ℕ
  text = listing_from image last first

  abbrev Ends : Given ℕ → List ℕ → Type 0
  Ends answer left = (answer ≡ list_answer image first last buffer) × (left ≡ list_buffer image first last buffer)

  ends : {answer : Given ℕ} → list_answer image first last buffer ≡ answer → Ends answer (listed_buffer answer text buffer)
  unfolding list_buffer
  ends e = (sym e, ap (λ (a : Given ℕ). listed_buffer a text buffer) (sym e))

  pub wrong_image : (length image ≡ 65536 → ⊥) → Ends (replies 1) buffer
  unfolding list_answer
  wrong_image h = ends (picks _ _ (ap not (ne_eqb _ _ h)))

  module _ (right : length image ≡ 65536) where
    pub wrong_range : is_bad_range first last ≡ true → Ends (replies 22) buffer
    unfolding list_answer
    wrong_range bad = ends (passes _ _ (ap not (eq-eqb _ _ right)) ∙ picks _ _ bad)

    module _ (good : is_bad_range first last ≡ false) {n : ℕ} (e : n ≡ length text) where
      pub no_room : length buffer < n → Ends (replies 23) buffer
      unfolding list_answer
      no_room h =
          let l : length buffer < length text = omega arith in
          ends (passes _ _ (ap not (eq-eqb _ _ right)) ∙ passes _ _ good ∙ picks _ _ (lt-ltb _ _ l))

      pub wrote : n ≤ length buffer → {left : List ℕ} → left ≡ sets buffer 0 text → Ends (gives n) left
      unfolding list_answer
      wrote h f =
          let l : length text ≤ length buffer = omega arith in
          let w = ends (passes _ _ (ap not (eq-eqb _ _ right)) ∙ passes _ _ good ∙ passes _ _ (le-ltb _ _ l)) in
          (ap gives e ∙ w.0, f ∙ sets_over text buffer l ∙ w.1)
