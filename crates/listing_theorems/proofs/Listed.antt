-- The call `list`: each answer exactly when, one result for each input, a refused buffer as it was, and how long a listing can be. Assumes nothing.
use Prim.Native.Nat.{ℕ, zero, suc, ◌+◌, ◌-◌, ◌*◌, ◌≤◌, ◌<◌}
use native.Mathlib.Omega.{arith}
use mathlib.Core.Path.{◌≡◌, refl, sym, ap, subst, ◌∙◌}
use mathlib.Core.Logic.{◌↔◌, ◌⊎◌, inl, inr}
use mathlib.Core.Bool.{Bool, true, false, cond, not, ◌||◌}
use mathlib.Core.List.{List}
use lib.Dec.{T, leb, ltb, eqb, leb→le}
use lib.ListN.{length}
use borrow.Author.Tests.{lt-ltb, le-ltb, ltb-true, ltb-false, eqb-true, eqb-false, not-true, not-false}
use Rattle.laws.proofs.Apart.{apart}
use Rattle.laws.proofs.Conds.{cases}
use Rattle.laws.proofs.Known.{known}
use Rattle.numbers.specs.Numbers.{over}
use Rattle.opcodes.specs.Opcodes.{decode_of}
use Rattle.std.specs.Prelude.{Option, Result, Ok, Err}
use Rattle.opcodes.specs.declared.Instruction.{Instruction}
use Rattle.opcodes.proofs.Table.{passes}
use Rattle.asking.specs.Asking.{Given, gives, replies}
use Rattle.mnemonics.specs.Mnemonics.{mnemonic_of}
use Rattle.listing_lines.specs.Lines.{bytes_of}
use Rattle.listing_lines.specs.Cells.{item_size}
use Rattle.listing_lines.proofs.Laws.{item_size_lem}
use Rattle.listing.specs.Listing.{image_byte, shown_at, listing_from, is_bad_range, told_listed, list_answer, listed_buffer, list_buffer}
use Rattle.listing.specs.declared.ListRefusal.{ListRefusal}
use Rattle.listing.specs.declared.ListRefusal.TheVariants.{WrongImage, WrongRange, NoRoom}
use Rattle.listing.proofs.Laws.{Item, data_byte, whole, item_at, shown_bounds, found, listing_split, listing_done}
use Rattle.listing.proofs.Laws.{good_range, wrong_image, wrong_range, no_room, wrote}

-- "last is above $FFFF or below first"
abbrev pub Bad : ℕ → ℕ → Type 0
Bad first last = (65535 < last) ⊎ (last < first)

abbrev pub Good : ℕ → ℕ → Type 0
Good first last = (first ≤ last) × (last < 65536)

bad : (first last : ℕ) → is_bad_range first last ≡ true → Bad first last
bad first last e = by (ltb 65535 last) refl
  where
    by : (t : Bool) → ltb 65535 last ≡ t → Bad first last
    by true f = inl (ltb-true _ _ f)
    by false f = inr (ltb-true _ _ (sym (ap (λ (t : Bool). t || ltb last first) f) ∙ e))

is_bad : (first last : ℕ) → Bad first last → is_bad_range first last ≡ true
is_bad first last (inl h) = ap (λ (t : Bool). t || ltb last first) (lt-ltb _ _ h)
is_bad first last (inr h) = ap (λ (t : Bool). ltb 65535 last || t) (lt-ltb _ _ h) ∙ or_true (ltb 65535 last)
  where
    or_true : (t : Bool) → (t || true) ≡ true
    or_true true = refl
    or_true false = refl

is_good_lem : (first last : ℕ) → Good first last → is_bad_range first last ≡ false
is_good_lem first last h =
    let l : last ≤ 65535 = omega (arith, h.1) in
    ap (λ (t : Bool). t || ltb last first) (le-ltb 65535 last l) ∙ le-ltb last first h.0

abbrev listed_back : Given ℕ → Result ℕ ListRefusal
listed_back (gives n) = Ok n
listed_back (replies k) = Err (cond (eqb k 1) WrongImage (cond (eqb k 22) WrongRange NoRoom))

listed_known : (a b : Result ℕ ListRefusal) → told_listed a ≡ told_listed b → a ≡ b
listed_known = known told_listed listed_back back
  where
    back : (a : Result ℕ ListRefusal) → listed_back (told_listed a) ≡ a
    back (Ok n) = refl
    back (Err WrongImage) = refl
    back (Err WrongRange) = refl
    back (Err NoRoom) = refl

module _ (image : List ℕ) (first last : ℕ) (buffer : List ℕ) where
  abbrev pub Answers : Given ℕ → Type 0
  Answers a = list_answer image first last buffer ≡ a

  abbrev pub Right : Type 0
  Right = length image ≡ 65536

  abbrev pub text : List ℕ
  text = listing_from image last first

  -- each way that the call can go
  answer_cases : (P : Given ℕ → Type 0)
      → ((Right → ⊥) → P (replies 1))
      → (Right → Bad first last → P (replies 22))
      → (Right → Good first last → length buffer < length text → P (replies 23))
      → (Right → Good first last → length text ≤ length buffer → P (gives (length text)))
      → P (list_answer image first last buffer)
  unfolding list_answer
  answer_cases P p q u v =
      cases P (not (eqb (length image) 65536)) (λ e. p (eqb-false _ _ (not-true _ e)))
      (λ e.
      let r = eqb-true _ _ (not-false _ e) in
      cases P (is_bad_range first last) (λ b. q r (bad first last b))
      (λ b.
      let g = good_range first last b in
      cases P (ltb (length buffer) (length text)) (λ l. u r g (ltb-true _ _ l)) (λ l. v r g (ltb-false _ _ l))))

  -- 1 exactly where the image is not 65,536 bytes
  pub reply_1 : Answers (replies 1) ↔ (Right → ⊥)
  reply_1 = (
    answer_cases (λ a. a ≡ replies 1 → Right → ⊥) (λ h _. h) (λ _ _ e. apart cc) (λ _ _ _ e. apart cc) (λ _ _ _ e. apart cc),
    (λ h. sym (wrong_image image first last buffer h).0),
  )

  -- 22 exactly where it is, and the range goes past $FFFF or backward
  pub reply_22 : Answers (replies 22) ↔ (Right × Bad first last)
  reply_22 = (
    answer_cases (λ a. a ≡ replies 22 → Right × Bad first last)
        (λ _ e. apart cc) (λ r b _. (r, b)) (λ _ _ _ e. apart cc) (λ _ _ _ e. apart cc),
    (λ h. sym (wrong_range image first last buffer h.0 (is_bad first last h.1)).0),
  )

  -- 23 exactly where both are well, and the buffer is shorter than the listing
  pub reply_23 : Answers (replies 23) ↔ (Right × Good first last × (length buffer < length text))
  reply_23 = (
    answer_cases (λ a. a ≡ replies 23 → Right × Good first last × (length buffer < length text))
        (λ _ e. apart cc) (λ _ _ e. apart cc) (λ r g l _. (r, g, l)) (λ _ _ _ e. apart cc),
    (λ h. sym (no_room image first last buffer h.0 (is_good_lem first last h.1) refl h.2).0),
  )

  -- else how long the listing is
  pub list_gives : (n : ℕ) → Answers (gives n) ↔ (Right × Good first last × (length text ≤ length buffer) × (n ≡ length text))
  list_gives n = (
    answer_cases (λ a. a ≡ gives n → Right × Good first last × (length text ≤ length buffer) × (n ≡ length text))
        (λ _ e. apart cc) (λ _ _ e. apart cc) (λ _ _ _ e. apart cc) (λ r g l e. (r, g, l, sym (ap long e))),
    (λ h. sym (wrote image first last buffer h.0 (is_good_lem first last h.1) refl h.2 refl).0 ∙ ap gives (sym h.3)),
  )
    where
      long : Given ℕ → ℕ
      long (gives m) = m
      long (replies k) = 0

  -- a refusal leaves the buffer as it was
  pub refused_untouched : (k : ℕ) → Answers (replies k) → list_buffer image first last buffer ≡ buffer
  unfolding list_buffer
  refused_untouched k e = ap (λ (a : Given ℕ). listed_buffer a text buffer) e

  -- else the listing stands at its front, and the bytes after it are unchanged
  pub listing_left : (n : ℕ) → Answers (gives n) → list_buffer image first last buffer ≡ over text buffer
  unfolding list_buffer
  listing_left n e = ap (λ (a : Given ℕ). listed_buffer a text buffer) e

  -- any two results that the contract admits are equal
  abbrev pub Gives : Result ℕ ListRefusal → List ℕ → Type 0
  Gives r left = (told_listed r ≡ list_answer image first last buffer) × (left ≡ list_buffer image first last buffer)

  pub list_settled : (r r' : Result ℕ ListRefusal) (left left' : List ℕ) → Gives r left → Gives r' left' → (r ≡ r') × (left ≡ left')
  list_settled r r' left left' p q = (listed_known r r' (p.0 ∙ sym q.0), p.1 ∙ sym q.1)

-- a line has at most 25 characters for each byte that it lists
abbrev is_short : Option Instruction → Bool
is_short shown = leb (item_size shown) (25 * bytes_of shown)

short : (opcode : ℕ) → T (is_short (decode_of opcode))
unfolding mnemonic_of
short = passes is_short tt tt

line_short : (opcode room : ℕ) {shown : Option Instruction} → Item (decode_of opcode) room shown → item_size shown ≤ 25 * bytes_of shown
line_short opcode room (data_byte _) = omega arith
line_short opcode room (whole i e l) = leb→le _ _ (subst (λ (d : Option Instruction). T (is_short d)) e (short opcode))

module _ (image : List ℕ) (last : ℕ) where
  long : (k address : ℕ) → last + 1 ≤ address + k → length (listing_from image last address) ≤ 25 * (last + 1 - address)
  long zero address h = let d = ap (λ (l : List ℕ). length l) (listing_done image last address (omega arith)) in omega (arith, d)
  long (suc k) address h = by (λ b. long k b) (ltb last address) refl
    where
      by : ((b : ℕ) → last + 1 ≤ b + k → length (listing_from image last b) ≤ 25 * (last + 1 - b))
          → (t : Bool) → ltb last address ≡ t → length (listing_from image last address) ≤ 25 * (last + 1 - address)
      by ih true e = let d = ap (λ (l : List ℕ). length l) (listing_done image last address (ltb-true _ _ e)) in omega (arith, d)
      by ih false e =
          let m = ltb-false last address e in
          let shown = shown_at image last address in
          let t = found image last address m refl refl (item_size_lem address shown _ _ _) in
          let s = listing_split image last t in
          let b = shown_bounds image last address m refl in
          let l = line_short (image_byte image address) (last + 1 - address) (item_at image last address) in
          let r = ih (address + bytes_of shown) (omega (arith, b.1)) in
          omega (arith, b.3)

  -- a listing has at most 25 characters for each byte of its range, and so 1,638,400
  pub listing_long : (first : ℕ) → length (listing_from image last first) ≤ 25 * (last + 1 - first)
  listing_long first = long (last + 1) first (omega arith)

  pub listing_most : (first : ℕ) → Good first last → length (listing_from image last first) ≤ 1638400
  listing_most first g = let l = listing_long first in omega (arith, g.1)
