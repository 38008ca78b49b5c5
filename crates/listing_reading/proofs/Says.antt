-- A text read by what its columns say, and by the line that says so. Assumes nothing.
use Prim.Native.Nat.{ℕ}
use mathlib.Core.Path.{◌≡◌, refl, sym}
use mathlib.Core.Bool.{Bool, true, false, ◌&&◌}
use mathlib.Core.List.{List}
use lib.ListN.{length}
use Rattle.laws.proofs.Conds.{picks, passes}
use Rattle.listing_lines.specs.Lines.{published_line}
use Rattle.listing_lines.specs.declared.Form.{Form}
use Rattle.listing_codes.specs.Codes.{coded_of}
use Rattle.std.specs.Prelude.{Err}
use Rattle.listing_codes.specs.declared.Unread.TheVariants.{Bad}
use Rattle.listing_reading.specs.Reading.{address_in, column_in, name_in, form_in, operand_in, written_as, begins, no_end, is_line, line_in}

bad : (w : List ℕ) → is_line w ≡ false → Err Bad ≡ line_in w
unfolding line_in
bad w e = sym (passes _ _ e)

good : (w : List ℕ) → is_line w ≡ true → coded_of (address_in w) (name_in w) (form_in w) (operand_in (form_in w) w) (length (written_as w)) ≡ line_in w
unfolding line_in
good w e = sym (picks _ _ e)

-- what a text's columns say, and the line that says so
pub record Said (w column name line : List ℕ) (address v : ℕ) (form : Form) : Type 0 where
  pub its_address : address ≡ address_in w
  pub its_column : column ≡ column_in w
  pub its_name : name ≡ name_in w
  pub its_form : form ≡ form_in w
  pub its_operand : v ≡ operand_in form w
  pub its_line : line ≡ published_line address column name form v

module _ {w column name line : List ℕ} {address v : ℕ} {form : Form} (s : Said w column name line address v form) where
  is_line_lem : (b e : Bool) → b ≡ begins w line → e ≡ no_end column → is_line w ≡ (b && e)
  is_line_lem b e p q = rw (p, q, s.its_line, s.its_operand, s.its_address, s.its_column, s.its_name, s.its_form)

  -- it does not begin with the line
  pub unlike : false ≡ begins w line → Err Bad ≡ line_in w
  unlike p = bad w (is_line_lem false (no_end column) p refl)

  -- it does, but columns 7 to 14 have a LF
  pub broken : true ≡ begins w line → false ≡ no_end column → Err Bad ≡ line_in w
  broken p q = bad w (is_line_lem true false p q)

  -- it is of the published form
  pub coded_so : true ≡ begins w line → true ≡ no_end column → coded_of address name form v (length line) ≡ line_in w
  coded_so p q =
      rw (s.its_line, s.its_operand, s.its_address, s.its_column, s.its_name, s.its_form) (good w (is_line_lem true true p q))
