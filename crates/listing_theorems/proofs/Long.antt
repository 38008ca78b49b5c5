-- A text of good lines has at most 25 characters for each byte, 1,638,400 in all, and a text cut 28 characters past that comes to the same. Assumes nothing.
use Prim.Native.Nat.{ℕ, zero, suc, ◌+◌, ◌*◌, ◌-◌, ◌≤◌, ◌<◌}
use native.Mathlib.Omega.{arith}
use mathlib.Core.Path.{◌≡◌, refl, sym, ap, subst, ◌∙◌}
use mathlib.Core.Bool.{Bool, true, cond, ◌&&◌}
use mathlib.Core.List.{List, [], ◌∷◌}
use lib.Dec.{ltb, eqb}
use lib.ListN.{get_or, length, take, drop, length-append, length-drop, length-take}
use lib.Seq.{get_or-take, take-nil}
use borrow.Author.Tests.{eqb-true}
use Rattle.laws.proofs.Apart.{apart}
use Rattle.laws.proofs.Bools.{both}
use Rattle.laws.proofs.Conds.{cases}
use Rattle.bits.specs.Words.{low}
use Rattle.opcodes.specs.Opcodes.{decode_of}
use Rattle.opcodes.specs.declared.Place.{Place}
use Rattle.opcodes.specs.declared.Place.TheVariants as place
use Rattle.std.specs.Prelude.{Option, None, Some, Result, Ok, Err}
use Rattle.opcodes.specs.declared.Instruction.{Instruction}
use Rattle.listing_lines.specs.Lines.{cells_from, form_of, published_line, data_name}
use Rattle.listing_lines.specs.Cells.{size_of}
use Rattle.listing_lines.specs.declared.Form.{Form}
use Rattle.listing_lines.specs.declared.Form.TheVariants.{Bare, HashByte, HashWord, Byte, Word, Indexed}
use Rattle.listing_lines.proofs.Laws.{line_size, size_most}
use Rattle.listing_codes.specs.Codes.{same_name, form_number, same_form, code_for, piece, line_of, branch_distance, is_far, placed_at, coded_as, is_data, coded_of}
use Rattle.listing_codes.specs.declared.Piece.{Piece}
use Rattle.listing_codes.specs.declared.Line.{Line}
use Rattle.listing_codes.specs.declared.Unread.{Unread}
use Rattle.listing_codes.specs.declared.Unread.TheVariants.{Bad, Far}
use Rattle.listing_codes.proofs.Whole.{coded_whole}
use Rattle.listing_reading.specs.Reading.{two_in, address_in, column_in, name_in, form_in, operand_in, begins, no_end, line_in}
use Rattle.listing_reading.proofs.Whole.{read_whole}
use Rattle.assembling.specs.Assembling.{piece_bytes, follows, due_next, good, text_from, outcome_of}
use Rattle.assembling.proofs.Laws.{on_both, text_at, piece_length}
use Rattle.listing_theorems.specs.Texts.{GoesOn, here, onward}
use Rattle.listing_theorems.proofs.Known.{name_of, found_at}
use Rattle.listing_theorems.proofs.Shows.{reads}
use Rattle.listing_theorems.proofs.Assembled.{goes_through}

-- two forms are told apart by their numbers
abbrev forms : List Form
forms = Bare ∷ HashByte ∷ HashWord ∷ Byte ∷ Word ∷ Indexed ∷ []

numbered : (f : Form) → get_or forms (form_number f) Bare ≡ f
numbered Bare = refl
numbered HashByte = refl
numbered HashWord = refl
numbered Byte = refl
numbered Word = refl
numbered Indexed = refl

same_form_lem : (f g : Form) → same_form f g ≡ true → f ≡ g
same_form_lem f g e = sym (numbered f) ∙ ap (λ (k : ℕ). get_or forms k Bare) (eqb-true (form_number f) (form_number g) e) ∙ numbered g

-- a line of s characters has at most 25 for each of its bytes
abbrev Short : ℕ → Result Line Unread → Type 0
Short s (Err Bad) = Unit {0}
Short s (Err (Far a)) = Unit {0}
Short s (Ok l) = s ≤ 25 * l.piece.length

module _ (a v size c : ℕ) where
  bare_most : size_of c Bare ≤ 25
  bare_most = cases (λ (n : ℕ). n ≤ 25) (eqb c 32) (λ _. omega arith) (λ _. omega arith)

  placed_short : (op : ℕ) (p : Place) → Short (size_of c (form_of p)) (placed_at a op p v size)
  placed_short op place.Inherent = bare_most
  placed_short op place.AccumulatorA = bare_most
  placed_short op place.AccumulatorB = bare_most
  placed_short op place.ImmediateByte = omega arith
  placed_short op place.ImmediateWord = omega arith
  placed_short op place.Direct = omega arith
  placed_short op place.Indexed = omega arith
  placed_short op place.Extended = omega arith
  placed_short op place.Relative =
      let d = branch_distance a v in
      cases (Short 27) (is_far d) {x = Err (Far a)} {y = line_of (piece a 2 op (low d) 0) size} (λ _. tt) (λ _. omega arith)

  module _ (name : List ℕ) (form : Form) where
    as_short : (d : Option Instruction) → decode_of (code_for name form) ≡ d → Short (size_of c form) (coded_as a (code_for name form) d v size)
    as_short None e = tt
    as_short (Some i) e =
        let f = same_form_lem form (form_of i.place) (both (same_name name (name_of i)) _ (found_at name form i e).0).1 in
        cases (Short (size_of c form)) (ltb 65536 (a + i.length)) {x = Err Bad} {y = placed_at a (code_for name form) i.place v size} (λ _. tt)
        (λ _. rw f (placed_short (code_for name (form_of i.place)) i.place))

    coded_short : Short (size_of c form) (coded_of a name form v size)
    unfolding coded_of
    coded_short =
        let op = code_for name form in
        cases (Short (size_of c form)) (is_data name form) {x = line_of (piece a 1 (low v) 0 0) size} {y = coded_as a op (decode_of op) v size}
        (λ e. rw (same_form_lem form Byte (both (same_name name data_name) _ e).1) (omega arith))
        (λ _. as_short (decode_of op) refl)

    coded_most : (l : Line) → coded_of a name form v size ≡ Ok l → size_of c form ≤ 25 * l.piece.length
    coded_most l e = subst (Short (size_of c form)) e coded_short

-- a line that is read
line_short : (w : List ℕ) (l : Line) → line_in w ≡ Ok l → l.size ≤ 25 * l.piece.length
line_short w l e =
    let s = (reads w (Ok l) (λ z. apart cc)).0 e in
    let k = line_size s.address s.column s.name s.form s.operand in
    let sized = (coded_whole s.address s.operand _ s.name s.form l s.comes).sized in
    let most = coded_most s.address s.operand _ (get_or s.name 3 0) s.name s.form l s.comes in
    omega arith

-- so many bytes can follow
abbrev room : Option ℕ → ℕ
room None = 65536
room (Some next) = 65536 - next

-- a line that is taken takes its bytes of them
room_after : (due : Option ℕ) (p : Piece) → follows due p.address ≡ true → p.address + p.length ≤ 65536 → p.length + room (due_next p) ≤ room due
room_after None p e h = omega arith
room_after (Some next) p e h = let f = eqb-true next p.address e in omega arith

-- lines that are behind
goes_short : {text bytes rest : List ℕ} {due due' : Option ℕ} {k : ℕ} → GoesOn text due k bytes rest due'
    → (length text ≤ 25 * length bytes + length rest) × (length bytes ≤ room due)
goes_short here = (omega arith, omega arith)
goes_short (onward {text} {bytes} {rest} {due} q e f g) =
    let i = goes_short g in
    let w = read_whole text q e in
    let s = line_short text q e in
    let r = room_after due q.piece f w.5 in
    let b = length-append (piece_bytes q.piece) bytes in
    let l = piece_length q.piece w.3 in
    (omega (arith, i.0, length-drop q.size text), omega (arith, i.1))

-- a text of good lines has at most 25 characters for each byte
pub good_long : (text bytes : List ℕ) → outcome_of text ≡ good bytes → length text ≤ 25 * length bytes
good_long text bytes e = let g = goes_short ((goes_through text bytes).0 e).goes in omega (arith, g.0)

pub good_most : (text bytes : List ℕ) → outcome_of text ≡ good bytes → length text ≤ 1638400
good_most text bytes e = let g = goes_short ((goes_through text bytes).0 e).goes in omega (arith, g.0, g.1)

-- what is read of a text that is cut after 28 characters or more
module _ (k : ℕ) (w : List ℕ) (h : 28 ≤ k) where
  seen : (j : ℕ) → j < 28 → get_or (take k w) j 0 ≡ get_or w j 0
  seen j l = get_or-take k w j 0 (omega arith)

  cells_seen : (i n : ℕ) → i + n ≤ 28 → cells_from (take k w) i n ≡ cells_from w i n
  cells_seen i zero l = refl
  cells_seen i (suc n) l = rw (seen i (omega arith), cells_seen (suc i) n (omega arith))

  form_seen : form_in (take k w) ≡ form_in w
  unfolding form_in
  form_seen = rw (seen 19 (omega arith), seen 20 (omega arith), seen 21 (omega arith), seen 24 (omega arith), seen 25 (omega arith))

  two_seen : (j : ℕ) → j + 1 < 28 → two_in (take k w) (j + 1) ≡ two_in w (j + 1)
  two_seen j l = let a : j + 1 - 1 ≡ j = omega arith in let b : j + 1 + 1 - 1 ≡ j + 1 = omega arith in rw (a, b, seen j (omega arith), seen (j + 1) l)

  operand_seen : (form : Form) → operand_in form (take k w) ≡ operand_in form w
  operand_seen Bare = refl
  operand_seen HashByte = two_seen 23 (omega arith)
  operand_seen HashWord = rw (two_seen 23 (omega arith), two_seen 25 (omega arith))
  operand_seen Byte = two_seen 22 (omega arith)
  operand_seen Word = rw (two_seen 22 (omega arith), two_seen 24 (omega arith))
  operand_seen Indexed = two_seen 22 (omega arith)

  address_seen : address_in (take k w) ≡ address_in w
  address_seen = rw (two_seen 0 (omega arith), two_seen 2 (omega arith))

  name_seen : name_in (take k w) ≡ name_in w
  name_seen = rw (seen 16 (omega arith), seen 17 (omega arith), seen 18 (omega arith), seen 19 (omega arith))

begins_cut : (k : ℕ) (w l : List ℕ) → length l ≤ k → begins (take k w) l ≡ begins w l
unfolding begins
begins_cut zero w [] h = refl
begins_cut zero w (c ∷ l) h = absurd (let z : ⊥ = omega arith in z)
begins_cut (suc k) w [] h = refl
begins_cut (suc k) [] (c ∷ l) h = refl
begins_cut (suc k) (d ∷ w) (c ∷ l) h = ap (λ (b : Bool). eqb d c && b) (begins_cut k w l (omega arith))

-- what is read by what the columns say
read_by : List ℕ → ℕ → List ℕ → List ℕ → Form → ℕ → Result Line Unread
read_by w a column name form v =
    let line = published_line a column name form v in
    cond (begins w line && no_end column) (coded_of a name form v (length line)) (Err Bad)

read_by_lem : (w : List ℕ) → line_in w ≡ read_by w (address_in w) (column_in w) (name_in w) (form_in w) (operand_in (form_in w) w)
unfolding line_in read_by
read_by_lem w = refl

by_cut : (k : ℕ) (w : List ℕ) → 28 ≤ k → (a : ℕ) (column name : List ℕ) (form : Form) (v : ℕ) → read_by (take k w) a column name form v ≡ read_by w a column name form v
unfolding read_by
by_cut k w h a column name form v =
    let l = line_size a column name form v in
    let m = size_most (get_or name 3 0) form in
    rw (begins_cut k w (published_line a column name form v) (omega arith))

line_cut : (k : ℕ) (w : List ℕ) → 28 ≤ k → line_in (take k w) ≡ line_in w
line_cut k w h =
    let o : operand_in (form_in (take k w)) (take k w) ≡ operand_in (form_in w) w =
    ap (λ (f : Form). operand_in f (take k w)) (form_seen k w h) ∙ operand_seen k w h (form_in w) in
    read_by_lem (take k w)
    ∙ rw (o, form_seen k w h, address_seen k w h, name_seen k w h, cells_seen k w h 6 8 (omega arith)) (by_cut k w h _ _ _ _ _)
    ∙ sym (read_by_lem w)

-- what follows a cut line
drop_cut : (m n : ℕ) (l : List ℕ) → drop m (take n l) ≡ take (n - m) (drop m l)
drop_cut zero n l = let e : n - 0 ≡ n = omega arith in rw e
drop_cut (suc m) zero l = let e : 0 - suc m ≡ 0 = omega arith in rw e
drop_cut (suc m) (suc n) [] = sym (take-nil (suc n - suc m))
drop_cut (suc m) (suc n) (c ∷ l) = let e : suc n - suc m ≡ n - m = omega arith in rw e (drop_cut m n l)

text_cut : (fuel : ℕ) (text : List ℕ) (n : ℕ) (due : Option ℕ) (line : ℕ) → length text ≤ fuel → 25 * room due + 28 ≤ n
    → text_from (take n text) due line ≡ text_from text due line
text_cut zero [] n due line l h = ap (λ (w : List ℕ). text_from w due line) (take-nil n)
text_cut zero (c ∷ text) n due line l h = absurd (let z : ⊥ = omega arith in z)
text_cut (suc fuel) [] n due line l h = ap (λ (w : List ℕ). text_from w due line) (take-nil n)
text_cut (suc fuel) (c ∷ text) n due line l h =
    let w : List ℕ = c ∷ text in
    text_at (take n w) due line (omega (arith, length-take n w)) ∙ rw (line_cut n w (omega arith))
    (on_both (line_in w) due line _ _ (λ x e f.
    let s = line_short w x e in
    let q = read_whole w x e in
    let r = room_after due x.piece f q.5 in
    ap (λ (v : List ℕ). text_from v (due_next x.piece) (line + 1)) (drop_cut x.size n w)
    ∙ text_cut fuel (drop x.size w) (n - x.size) (due_next x.piece) (line + 1) (omega (arith, q.0, length-drop x.size w)) (omega arith)))
    ∙ sym (text_at w due line (omega arith))

-- a text that is cut the longest line after the longest text of good lines, or later, comes to what the whole comes to
pub cut_same : (text : List ℕ) (n : ℕ) → 1638428 ≤ n → outcome_of (take n text) ≡ outcome_of text
unfolding outcome_of
cut_same text n h = text_cut (length text) text n None 1 (omega arith) (omega arith)
