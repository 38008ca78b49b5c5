-- Columns 7 to 14 do not matter, as long as no LF stands there: one line, and a line after whole good lines of a text. Assumes nothing.
use Prim.Native.Nat.{ℕ, ◌+◌, ◌-◌, ◌≤◌}
use native.Mathlib.Omega.{arith}
use mathlib.Core.Path.{◌≡◌, refl, sym, ap, subst, ◌∙◌}
use mathlib.Core.Bool.{Bool, true, cond}
use mathlib.Core.List.{List, [], ◌∷◌, ◌++◌}
use lib.ListN.{get_or, length, drop, length-append}
use lib.Seq.{drop-append-add}
use borrow.Author.Tests.{eq-eqb}
use Rattle.std.specs.Prelude.{Option, None, Result, Err}
use Rattle.laws.proofs.Bools.{and_true}
use Rattle.listing_lines.specs.Lines.{cells, statement, operand_text, line_end, published_line}
use Rattle.listing_lines.specs.Cells.{size_of}
use Rattle.listing_lines.proofs.Laws.{line_size}
use Rattle.listing_lines.specs.declared.Form.{Form}
use Rattle.listing_lines.specs.declared.Form.TheVariants.{Bare, HashByte, HashWord, Byte, Word, Indexed}
use Rattle.listing_codes.specs.Codes.{coded_of}
use Rattle.listing_codes.specs.declared.Line.{Line}
use Rattle.listing_codes.specs.declared.Unread.{Unread}
use Rattle.listing_codes.specs.declared.Unread.TheVariants.{Bad}
use Rattle.listing_reading.specs.Reading.{address_in, column_in, name_in, form_in, operand_in, written_as, begins, no_end, line_in}
use Rattle.listing_reading.proofs.Whole.{read_whole}
use Rattle.assembling.specs.Assembling.{due_next, Outcome, good, ◌then◌, text_from, outcome_of}
use Rattle.assembling.proofs.Laws.{on_both, text_at}
use Rattle.listing_reading.proofs.Unbroken.{cells_all}
use Rattle.listing_theorems.proofs.Append.{text_append}

-- what is read of a text, its columns 7 to 14 being no LF
abbrev read_as : List ℕ → Bool → Form → ℕ → Result Line Unread
read_as w b form v = cond b (coded_of (address_in w) (name_in w) form v (size_of (get_or (name_in w) 3 0) form)) (Err Bad)

read_as_lem : (w : List ℕ) → no_end (column_in w) ≡ true → line_in w ≡ read_as w (begins w (written_as w)) (form_in w) (operand_in (form_in w) w)
unfolding line_in
read_as_lem w k =
    rw (k, and_true (begins w (written_as w)), line_size (address_in w) (column_in w) (name_in w) (form_in w) (operand_in (form_in w) w))

begins_past : (e r s : List ℕ) → begins (e ++ r) (e ++ s) ≡ begins r s
unfolding begins
begins_past [] r s = refl
begins_past (c ∷ e) r s = rw (eq-eqb c c refl) (begins_past e r s)

module _ (h0 h1 h2 h3 h4 h5 : ℕ) (r : List ℕ) (d0 d1 d2 d3 d4 d5 d6 d7 e0 e1 e2 e3 e4 e5 e6 e7 : ℕ) where
  abbrev d : List ℕ
  d = d0 ∷ d1 ∷ d2 ∷ d3 ∷ d4 ∷ d5 ∷ d6 ∷ d7 ∷ []

  abbrev e : List ℕ
  e = e0 ∷ e1 ∷ e2 ∷ e3 ∷ e4 ∷ e5 ∷ e6 ∷ e7 ∷ []

  abbrev w : List ℕ → List ℕ
  w column = h0 ∷ h1 ∷ h2 ∷ h3 ∷ h4 ∷ h5 ∷ (column ++ r)

  form_same : form_in (w d) ≡ form_in (w e)
  unfolding form_in
  form_same = refl

  operand_same : (form : Form) → operand_in form (w d) ≡ operand_in form (w e)
  operand_same Bare = refl
  operand_same HashByte = refl
  operand_same HashWord = refl
  operand_same Byte = refl
  operand_same Word = refl
  operand_same Indexed = refl

  begins_same : (a : ℕ) (name : List ℕ) (form : Form) (v : ℕ) → begins (w d) (published_line a d name form v) ≡ begins (w e) (published_line a e name form v)
  unfolding published_line begins
  begins_same a name form v =
      let s : List ℕ = 32 ∷ 32 ∷ (statement name (operand_text form v) ++ line_end) in
      rw (begins_past d r s, begins_past e r s)

  columns_spelled : no_end d ≡ true → no_end e ≡ true → line_in (w d) ≡ line_in (w e)
  columns_spelled k l =
      let o : operand_in (form_in (w d)) (w d) ≡ operand_in (form_in (w e)) (w e) = ap (λ (f : Form). operand_in f (w d)) form_same ∙ operand_same (form_in (w e)) in
      read_as_lem (w d) k ∙ rw (o, form_same, begins_same (address_in (w e)) (name_in (w e)) (form_in (w e)) (operand_in (form_in (w e)) (w e))) (sym (read_as_lem (w e) l))

pub columns_free : (h d e r : List ℕ) → length h ≡ 6 → length d ≡ 8 → length e ≡ 8 → no_end d ≡ true → no_end e ≡ true → line_in (h ++ d ++ r) ≡ line_in (h ++ e ++ r)
columns_free h d e r six m n k l =
    let c = cells_all 8 d m in
    let b = cells_all 8 e n in
    subst (λ (x : List ℕ). line_in (x ++ d ++ r) ≡ line_in (x ++ e ++ r)) (cells_all 6 h six)
    (subst (λ (x : List ℕ). line_in (cells 6 h ++ x ++ r) ≡ line_in (cells 6 h ++ e ++ r)) c
    (subst (λ (x : List ℕ). line_in (cells 6 h ++ cells 8 d ++ r) ≡ line_in (cells 6 h ++ x ++ r)) b
    (columns_spelled _ _ _ _ _ _ r _ _ _ _ _ _ _ _ _ _ _ _ _ _ _ _ (ap no_end c ∙ k) (ap no_end b ∙ l))))

past_columns : (h d r : List ℕ) (n : ℕ) → length h ≡ 6 → length d ≡ 8 → 20 ≤ n → drop n (h ++ d ++ r) ≡ drop (n - 14) r
past_columns h d r n p q m =
    let e : n ≡ length (h ++ d) + (n - 14) = omega (arith, length-append h d) in
    ap (λ (k : ℕ). drop k (h ++ d ++ r)) e ∙ drop-append-add (h ++ d) r (n - 14)

-- two texts that differ in columns 7 to 14 of their first line
module _ (h d e r : List ℕ) (six : length h ≡ 6) (m : length d ≡ 8) (n : length e ≡ 8) (k : no_end d ≡ true) (l : no_end e ≡ true) where
  first_free : (due : Option ℕ) (line : ℕ) → text_from (h ++ d ++ r) due line ≡ text_from (h ++ e ++ r) due line
  first_free due line =
      text_at (h ++ d ++ r) due line (omega (arith, length-append (h ++ d) r, length-append h d))
      ∙ rw (columns_free h d e r six m n k l)
      (on_both (line_in (h ++ e ++ r)) due line _ _ (λ l x _. let a = (read_whole (h ++ e ++ r) l x).0 in
      ap (λ (w : List ℕ). text_from w (due_next l.piece) (line + 1)) (past_columns h d r l.size six m a ∙ sym (past_columns h e r l.size six n a))))
      ∙ sym (text_at (h ++ e ++ r) due line (omega (arith, length-append (h ++ e) r, length-append h e)))

  -- .. and in those of any line after whole good lines
  pub text_free : (lines bytes : List ℕ) → outcome_of lines ≡ good bytes → outcome_of (lines ++ (h ++ d ++ r)) ≡ outcome_of (lines ++ (h ++ e ++ r))
  unfolding outcome_of
  text_free lines bytes z =
      let t = text_append lines None 1 bytes z in
      t.onward (h ++ d ++ r) ∙ ap (λ (o : Outcome). bytes then o) (first_free t.next t.number) ∙ sym (t.onward (h ++ e ++ r))
