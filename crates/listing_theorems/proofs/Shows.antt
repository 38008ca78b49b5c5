-- What "of the published form" is, without the reader: a text begins with the line of an address, any eight characters but LF, a mnemonic, a form and an
-- operand. The reader takes a text for exactly that. Assumes nothing.
use Prim.Native.Nat.{ℕ}
use mathlib.Core.Path.{◌≡◌, refl, sym, ap, ◌∙◌}
use mathlib.Core.Logic.{◌↔◌}
use mathlib.Core.Bool.{true, false, ◌&&◌}
use mathlib.Core.List.{List}
use lib.Dec.{eqb}
use lib.ListN.{get_or, length, drop}
use borrow.Author.Tests.{eqb-true}
use Rattle.laws.proofs.Apart.{apart}
use Rattle.laws.proofs.Bools.{both}
use Rattle.laws.proofs.Conds.{cases}
use Rattle.opcodes.specs.Opcodes.{decode_of}
use Rattle.std.specs.Prelude.{Option, None, Some, Result, Ok, Err}
use Rattle.opcodes.specs.declared.Instruction.{Instruction}
use Rattle.listing_lines.specs.Lines.{data_name}
use Rattle.listing_lines.specs.declared.Form.{Form}
use Rattle.listing_lines.specs.declared.Form.TheVariants.{Bare, HashByte, HashWord, Byte, Word, Indexed}
use Rattle.listing_codes.specs.Codes.{same_name, code_for, is_data, coded_as, coded_of}
use Rattle.listing_codes.specs.declared.Line.{Line}
use Rattle.listing_codes.specs.declared.Unread.{Unread}
use Rattle.listing_codes.specs.declared.Unread.TheVariants.{Bad, Far}
use Rattle.listing_reading.specs.Reading.{address_in, column_in, name_in, form_in, operand_in, written_as, begins, no_end, is_line, line_in}
use Rattle.listing_reading.proofs.Begins.{begins_rest}
use Rattle.listing_reading.proofs.Whole.{byte_small, word_small}
use Rattle.listing_theorems.specs.Published.{Writes, ShowsLine}
use Rattle.listing_theorems.proofs.Known.{name_of, known_at, found_at}
use Rattle.listing_theorems.proofs.Back.{any_back}

operand_written : (w : List ℕ) (form : Form) → Writes form (operand_in form w)
operand_written w Bare = refl
operand_written w HashByte = byte_small w 24
operand_written w HashWord = word_small w 24
operand_written w Byte = byte_small w 23
operand_written w Word = word_small w 23
operand_written w Indexed = byte_small w 23

-- a mnemonic that comes to something does not end in an LF
name_whole : (address : ℕ) (name : List ℕ) (form : Form) (v size : ℕ) → (coded_of address name form v size ≡ Err Bad → ⊥) → eqb (get_or name 3 0) 10 ≡ false
unfolding coded_of
name_whole address name form v size =
    cases (λ (r : Result Line Unread). (r ≡ Err Bad → ⊥) → eqb (get_or name 3 0) 10 ≡ false) (is_data name form)
    (λ e n. fourth data_name refl (both (same_name name data_name) _ e).0) (λ e. by (decode_of (code_for name form)) refl)
  where
    fourth : (other : List ℕ) → eqb (get_or other 3 0) 10 ≡ false → same_name name other ≡ true → eqb (get_or name 3 0) 10 ≡ false
    fourth other f e =
        let s = both (eqb (get_or name 0 0) (get_or other 0 0) && eqb (get_or name 1 0) (get_or other 1 0) && eqb (get_or name 2 0) (get_or other 2 0)) _ e in
        rw (eqb-true (get_or name 3 0) (get_or other 3 0) s.1) f

    by : (d : Option Instruction) → decode_of (code_for name form) ≡ d → (coded_as address (code_for name form) d v size ≡ Err Bad → ⊥) → eqb (get_or name 3 0) 10 ≡ false
    by None e n = absurd (n refl)
    by (Some i) e n =
        let f = found_at name form i e in
        fourth (name_of i) (known_at (code_for name form) i f.1 e).no_end_lem (both (same_name name (name_of i)) _ f.0).0

module _ (w : List ℕ) (r : Result Line Unread) (n : r ≡ Err Bad → ⊥) where
  read_shows : line_in w ≡ r → ShowsLine w r
  unfolding line_in
  read_shows = cases (λ (x : Result Line Unread). x ≡ r → ShowsLine w r) (is_line w) yes (λ _ e. absurd (n (sym e)))
    where
      yes : is_line w ≡ true → coded_of (address_in w) (name_in w) (form_in w) (operand_in (form_in w) w) (length (written_as w)) ≡ r → ShowsLine w r
      yes t e =
          let b = both (begins w (written_as w)) (no_end (column_in w)) t in
          record {
            address = address_in w;
            column = column_in w;
            name = name_in w;
            form = form_in w;
            operand = operand_in (form_in w) w;
            rest = drop (length (written_as w)) w;
            below = word_small w 1;
            eight = refl;
            unbroken = b.1;
            four = refl;
            written = operand_written w (form_in w);
            line = begins_rest w (written_as w) b.0;
            comes = e;
          }

  shows_read : ShowsLine w r → line_in w ≡ r
  shows_read s =
      let f = name_whole s.address s.name s.form s.operand _ (λ b. n (sym s.comes ∙ b)) in
      ap line_in s.line ∙ any_back s.address s.below s.column s.eight s.unbroken s.name s.four f s.rest s.form s.operand s.written
      ∙ s.comes

  -- the reader takes a text for r exactly where it begins with a line that comes to r
  pub reads : (line_in w ≡ r) ↔ ShowsLine w r
  reads = (read_shows, shows_read)

-- .. and for no line exactly where it begins with none
pub not_of_the_form : (w : List ℕ) → (line_in w ≡ Err Bad) ↔ ((r : Result Line Unread) → (r ≡ Err Bad → ⊥) → ShowsLine w r → ⊥)
not_of_the_form w = (λ e r n s. n (sym (shows_read w r n s) ∙ e), λ f. by f (line_in w) refl)
  where
    by : ((r : Result Line Unread) → (r ≡ Err Bad → ⊥) → ShowsLine w r → ⊥) → (r : Result Line Unread) → line_in w ≡ r → line_in w ≡ Err Bad
    by f (Err Bad) e = e
    by f (Err (Far a)) e =
        let n : ◌≡◌ {A = Result Line Unread} (Err (Far a)) (Err Bad) → ⊥ = λ z. apart cc in
        absurd (f (Err (Far a)) n (read_shows w (Err (Far a)) n e))
    by f (Ok l) e = let n : ◌≡◌ {A = Result Line Unread} (Ok l) (Err Bad) → ⊥ = λ z. apart cc in absurd (f (Ok l) n (read_shows w (Ok l) n e))
