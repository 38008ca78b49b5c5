-- The laws of a listing with its column: its first line and then the listing after it, how a line is counted and written. Assumes nothing.
use Prim.Native.Nat.{ℕ, zero, suc, ◌+◌, ◌-◌, ◌*◌, ◌≤◌, ◌<◌}
use native.Mathlib.Omega.{arith}
use mathlib.Core.Path.{◌≡◌, refl, sym, ap, ◌∙◌}
use mathlib.Core.Bool.{Bool, true, false, cond, not}
use mathlib.Core.List.{List, [], ◌∷◌, ◌++◌}
use lib.Dec.{ltb}
use lib.ListN.{length, length-append, length-set, set}
use lib.Seq.{sets}
use borrow.Author.Tests.{lt-ltb, le-ltb, ltb-false, eq-eqb, ne_eqb}
use Rattle.laws.proofs.Conds.{picks, passes}
use Rattle.laws.proofs.Lists.{sets_append}
use Rattle.numbers.proofs.Laws.{sets_over}
use Rattle.std.specs.Prelude.{Option}
use Rattle.opcodes.specs.declared.Instruction.{Instruction}
use Rattle.asking.specs.Asking.{Given, gives, replies}
use Rattle.map_file.specs.MapFile.{file_bytes, is_map_file}
use Rattle.listing_lines.specs.Lines.{bytes_of}
use Rattle.listing.specs.Listing.{shown_at, listed_bytes, is_bad_range, listed_buffer}
use Rattle.listing.proofs.Laws.{bytes_bounds}
use Rattle.listing_marks.specs.Marks.{marked_line, marked_from, marked_listing, marked_answer, marked_buffer}

pub length_sets : (buffer : List ℕ) (i x j y : ℕ) → length (set (set buffer i x) j y) ≡ length buffer
length_sets buffer i x j y = length-set (set buffer i x) j y ∙ length-set buffer i x

-- a column and a line are put one after the other
pub puts_line : (buffer : List ℕ) (at m : ℕ) {cells line buffer' : List ℕ} → cells ≡ line
    → buffer' ≡ sets (set (set buffer at m) (at + 1) 32) (at + 2) cells → buffer' ≡ sets buffer at (m ∷ 32 ∷ line)
puts_line buffer at m q p = let e : at + 1 ≡ suc at = omega arith in let f : at + 2 ≡ suc (suc at) = omega arith in rw (e, f, q) at p

module _ (map image : List ℕ) (last : ℕ) where
  abbrev line_from : ℕ → List ℕ
  line_from address = marked_line map image address (shown_at image last address)

  abbrev from : ℕ → List ℕ
  from address = marked_listing map image last address

  -- any two numbers of lines that are enough do
  enough : (f g address : ℕ) → last + 1 ≤ address + f → last + 1 ≤ address + g → marked_from map image last f address ≡ marked_from map image last g address
  unfolding marked_from
  enough zero zero address p q = refl
  enough zero (suc g) address p q = rw (lt-ltb last address (omega arith))
  enough (suc f) zero address p q = rw (lt-ltb last address (omega arith))
  enough (suc f) (suc g) address p q = by (λ b. enough f g b) (ltb last address) refl
    where
      by : ((b : ℕ) → last + 1 ≤ b + f → last + 1 ≤ b + g → marked_from map image last f b ≡ marked_from map image last g b)
          → (t : Bool) → ltb last address ≡ t
          → cond t [] (line_from address ++ marked_from map image last f (address + listed_bytes image last address))
          ≡ cond t [] (line_from address ++ marked_from map image last g (address + listed_bytes image last address))
      by ih true e = refl
      by ih false e =
          let b = bytes_bounds image last address (ltb-false last address e) in
          ap (λ (r : List ℕ). line_from address ++ r) (ih (address + listed_bytes image last address) (omega arith) (omega arith))

  -- the first line, and the listing of what follows
  pub marked_more : (address : ℕ) → address ≤ last → from address ≡ line_from address ++ from (address + listed_bytes image last address)
  unfolding marked_listing marked_from
  marked_more address h =
      let n : last + 1 - address ≡ suc (last - address) = omega arith in
      let b = bytes_bounds image last address h in
      let next = address + listed_bytes image last address in
      rw (n, le-ltb last address h)
      (ap (λ (r : List ℕ). line_from address ++ r) (enough (last - address) (last + 1 - next) next (omega arith) (omega arith)))

  pub marked_done : (address : ℕ) → last < address → from address ≡ []
  unfolding marked_listing marked_from
  marked_done address h = let n : last + 1 - address ≡ 0 = omega arith in rw n

  -- a turn of the loop: the line of what is listed at an address, its characters and bytes
  pub record Turn (address size bytes : ℕ) (shown : Option Instruction) : Type 0 where
    pub there : address ≤ last
    pub same : shown ≡ shown_at image last address
    pub long : length (marked_line map image address shown) ≡ size
    pub wide : bytes ≡ bytes_of shown

  more : {address size bytes : ℕ} {shown : Option Instruction} → Turn address size bytes shown → from address ≡ marked_line map image address shown ++ from (address + bytes)
  unfolding listed_bytes
  more {address} t = rw (t.wide, t.same) (marked_more address t.there)

  pub counts_more : (at : ℕ) {address size bytes total : ℕ} {shown : Option Instruction} → Turn address size bytes shown
      → total ≡ at + length (from address) → total ≡ at + size + length (from (address + bytes))
  counts_more at {address} {shown = shown} t e =
      let s = ap (λ (l : List ℕ). length l) (more t) ∙ length-append (marked_line map image address shown) _ in
      let l = t.long in
      omega arith

  pub counts_done : (at : ℕ) {address total : ℕ} → last < address → total ≡ at + length (from address) → at ≡ total
  counts_done at {address} h e = let d = ap (λ (l : List ℕ). length l) (marked_done address h) in omega arith

  pub writes_more : (at : ℕ) (buffer : List ℕ) {address size bytes : ℕ} {shown : Option Instruction} {buffer' : List ℕ} → Turn address size bytes shown
      → buffer' ≡ sets buffer at (marked_line map image address shown)
      → sets buffer at (from address) ≡ sets buffer' (at + size) (from (address + bytes))
  writes_more at buffer {address} {shown = shown} t e =
      rw (e, ← t.long) (ap (λ (l : List ℕ). sets buffer at l) (more t) ∙ sym (sets_append buffer at (marked_line map image address shown) _))

  pub writes_done : (at : ℕ) (buffer : List ℕ) {address : ℕ} → last < address → sets buffer at (from address) ≡ buffer
  writes_done at buffer {address} h = rw (marked_done address h)

-- the ways that the call can end
module _ (image : List ℕ) (first last : ℕ) (file buffer : List ℕ) where
  abbrev text : List ℕ
  text = marked_listing (file_bytes file) image last first

  abbrev Ends : Given ℕ → List ℕ → Type 0
  Ends answer left = (answer ≡ marked_answer image first last file buffer) × (left ≡ marked_buffer image first last file buffer)

  ends : {answer : Given ℕ} → marked_answer image first last file buffer ≡ answer → Ends answer (listed_buffer answer text buffer)
  unfolding marked_buffer
  ends e = (sym e, ap (λ (a : Given ℕ). listed_buffer a text buffer) (sym e))

  pub wrong_image : (length image ≡ 65536 → ⊥) → Ends (replies 1) buffer
  unfolding marked_answer
  wrong_image h = ends (picks _ _ (ap not (ne_eqb _ _ h)))

  module _ (right : length image ≡ 65536) where
    pub wrong_range : is_bad_range first last ≡ true → Ends (replies 22) buffer
    unfolding marked_answer
    wrong_range bad = ends (passes _ _ (ap not (eq-eqb _ _ right)) ∙ picks _ _ bad)

    module _ (good : is_bad_range first last ≡ false) where
      pub wrong_map : is_map_file file ≡ false → Ends (replies 15) buffer
      unfolding marked_answer
      wrong_map h = ends (passes _ _ (ap not (eq-eqb _ _ right)) ∙ passes _ _ good ∙ picks _ _ (ap not h))

      module _ (sound : is_map_file file ≡ true) where
        pub no_room : length buffer < 30 * (last + 1 - first) → Ends (replies 23) buffer
        unfolding marked_answer
        no_room h = ends (passes _ _ (ap not (eq-eqb _ _ right)) ∙ passes _ _ good ∙ passes _ _ (ap not sound) ∙ picks _ _ (lt-ltb _ _ h))

        pub wrote : 30 * (last + 1 - first) ≤ length buffer → {map left : List ℕ} {n : ℕ} → map ≡ file_bytes file
            → (let marked = marked_listing map image last first in (left ≡ sets buffer 0 marked) × (n ≡ length marked) × (n ≤ length buffer)) → Ends (gives n) left
        unfolding marked_answer
        wrote h {n = n} e f =
            let g = rw e at f in
            let l : length text ≤ length buffer = omega (arith, g.1, g.2) in
            let w = ends (passes _ _ (ap not (eq-eqb _ _ right)) ∙ passes _ _ good ∙ passes _ _ (ap not sound) ∙ passes _ _ (le-ltb _ _ h)) in
            (ap gives g.1 ∙ w.0, g.0 ∙ sets_over text buffer l ∙ w.1)
