-- A line written and read again: its address, mnemonic, form and operand come back, whatever columns 7 to 14 hold. Assumes nothing.
use Prim.Native.Nat.{ℕ, ◌/◌, ◌%◌, ◌<◌}
use native.Mathlib.Omega.{arith}
use mathlib.Core.Path.{◌≡◌, refl, sym, ap, subst, ◌∙◌}
use mathlib.Core.Bool.{Bool, true, false}
use mathlib.Core.List.{List, [], ◌∷◌, ◌++◌}
use lib.Dec.{eqb}
use lib.ListN.{get_or, length}
use borrow.Author.Tests.{eqb-true}
use Rattle.listing_lines.specs.Lines.{cells, published_line}
use Rattle.listing_lines.specs.declared.Form.{Form}
use Rattle.listing_lines.specs.declared.Form.TheVariants.{Bare, HashByte, HashWord, Byte, Word, Indexed}
use Rattle.listing_codes.specs.Codes.{coded_of}
use Rattle.listing_reading.specs.Reading.{address_in, column_in, name_in, form_in, operand_in, begins, no_end, line_in}
use Rattle.listing_reading.proofs.Begins.{begins_append}
use Rattle.listing_reading.proofs.Unbroken.{cells_all}
use Rattle.listing_theorems.specs.Published.{Writes}
use Rattle.listing_theorems.proofs.Digits.{byte_back, word_back, no_end_lem, no_comma}

-- a text whose columns say a line, and that begins with it, is read as that line
read_by_lem : (a : ℕ) (column name : List ℕ) (form : Form) (v : ℕ) (rest w : List ℕ) → w ≡ published_line a column name form v ++ rest → no_end column ≡ true
    → address_in w ≡ a → column_in w ≡ column → name_in w ≡ name → form_in w ≡ form → operand_in form w ≡ v
    → line_in w ≡ coded_of a name form v (length (published_line a column name form v))
unfolding line_in
read_by_lem a column name form v rest w e k p q r s t =
    let b : begins w (published_line a column name form v) ≡ true = rw e (begins_append (published_line a column name form v) rest) in
    let m : no_end (column_in w) ≡ true = ap no_end q ∙ k in
    rw (p, q, r, s, t, b, m)

pub address_back : (a : ℕ) → a < 65536 → (column name : List ℕ) (form : Form) (v : ℕ) (rest : List ℕ) → address_in (published_line a column name form v ++ rest) ≡ a
unfolding published_line
address_back a h column name form v rest = word_back a h

module _ (a : ℕ) (h : a < 65536) (e0 e1 e2 e3 e4 e5 e6 e7 : ℕ) (k : no_end (e0 ∷ e1 ∷ e2 ∷ e3 ∷ e4 ∷ e5 ∷ e6 ∷ e7 ∷ []) ≡ true) (n0 n1 n2 n3 : ℕ)
    (g : eqb n3 10 ≡ false) (rest : List ℕ) where
  abbrev column : List ℕ
  column = e0 ∷ e1 ∷ e2 ∷ e3 ∷ e4 ∷ e5 ∷ e6 ∷ e7 ∷ []

  abbrev name : List ℕ
  name = n0 ∷ n1 ∷ n2 ∷ n3 ∷ []

  pub line_back : (form : Form) (v : ℕ) → Writes form v
      → line_in (published_line a column name form v ++ rest) ≡ coded_of a name form v (length (published_line a column name form v))
  unfolding published_line form_in
  line_back HashByte v l = read_by_lem a column name HashByte v rest _ refl k (word_back a h) refl (rw g) (rw g) (byte_back v l)
  line_back HashWord v l = read_by_lem a column name HashWord v rest _ refl k (word_back a h) refl (rw g) (rw (g, no_end_lem (v / 16 % 16) (omega arith))) (word_back v l)
  line_back Byte v l = read_by_lem a column name Byte v rest _ refl k (word_back a h) refl (rw g) (rw g) (byte_back v l)
  line_back Word v l =
      read_by_lem a column name Word v rest _ refl k (word_back a h) refl (rw g) (rw (g, no_end_lem (v / 16 % 16) (omega arith), no_comma (v / 16 % 16) (omega arith))) (word_back v l)
  line_back Indexed v l = read_by_lem a column name Indexed v rest _ refl k (word_back a h) refl (rw g) (rw g) (byte_back v l)
  line_back Bare v l = by (eqb n3 32) refl
    where
      by : (t : Bool) → eqb n3 32 ≡ t → line_in (published_line a column name Bare v ++ rest) ≡ coded_of a name Bare v (length (published_line a column name Bare v))
      by true e =
          let m = eqb-true n3 32 e in
          read_by_lem a column name Bare v rest _ refl k (word_back a h) refl (rw e (ap (λ (c : ℕ). n0 ∷ n1 ∷ n2 ∷ c ∷ []) (sym m))) (rw e) (sym l)
      by false e = read_by_lem a column name Bare v rest _ refl k (word_back a h) refl (rw (e, g)) (rw (e, g)) (sym l)

-- the same of any eight characters and any four
module _ (a : ℕ) (h : a < 65536) (column : List ℕ) (c : length column ≡ 8) (k : no_end column ≡ true) (name : List ℕ) (n : length name ≡ 4)
    (g : eqb (get_or name 3 0) 10 ≡ false) (rest : List ℕ) where
  pub any_back : (form : Form) (v : ℕ) → Writes form v
      → line_in (published_line a column name form v ++ rest) ≡ coded_of a name form v (length (published_line a column name form v))
  any_back form v l =
      let p = cells_all 8 column c in
      let q = cells_all 4 name n in
      let t = line_back a h _ _ _ _ _ _ _ _ (ap no_end p ∙ k) _ _ _ _ g rest form v l in
      subst (λ (x : List ℕ). line_in (published_line a x name form v ++ rest) ≡ coded_of a name form v (length (published_line a x name form v))) p
      (subst (λ (x : List ℕ). line_in (published_line a (cells 8 column) x form v ++ rest) ≡ coded_of a x form v (length (published_line a (cells 8 column) x form v))) q t)
