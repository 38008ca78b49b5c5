-- `listing_reading::read_line` meets its contract: its tests are the definition's, on the line that `line` wrote. Assumes nothing.
use mathlib.Core.Path.{sym, ap, ◌∙◌}
use lib.ListN.{length, take}
use Rattle.listing_codes.specs.Codes.{coded_of}
use Rattle.listing_reading.proofs.Says.{Said, unlike, broken, coded_so}
use Rattle.listing_reading.proofs.read_line.Goals as goal
use Rattle.listing_reading.proofs.read_line.Goals.{After-begins_with}
use Rattle.listing_reading.proofs.read_line.Goals.{then-not-begins_with-via-then-not-begins_with, then-not-begins_with-via-else-not-begins_with+then-not-is_unbroken}

said : (c : After-begins_with) → Said c.args.text.now c.column_in-column.result c.name_in-name.result
    (take c.line-line.result.length c.line-line.result.bytes) c.address_in-address.result c.operand_in-v.result c.form_in-form.result
said c = record {
  its_address = c.address_in-address.ensures;
  its_column = c.column_in-column.ensures;
  its_name = c.name_in-name.ensures;
  its_form = c.form_in-form.ensures;
  its_operand = c.operand_in-v.ensures;
  its_line = c.line-line.ensures.0;
}

pub returns-then-not-begins_with : goal.returns-then-not-begins_with
returns-then-not-begins_with c =
    let s = said (goal.at.returns-then-not-begins_with c).After-begins_with in
    elim c.then-not-begins_with.branch [
      | then-not-begins_with-via-then-not-begins_with w ↦ unlike s (sym w.if-not-begins_with.true ∙ c.begins_with.ensures)
      | then-not-begins_with-via-else-not-begins_with+then-not-is_unbroken w ↦
          broken s (sym w.if-not-begins_with.false ∙ c.begins_with.ensures) (sym w.if-not-is_unbroken.true ∙ w.is_unbroken.ensures)
    ]

pub returns : goal.returns
returns c =
    let s = said (goal.at.returns c).After-begins_with in
    let begins = sym c.if-not-begins_with.false ∙ c.begins_with.ensures in
    let size = sym (ap length c.line-line.ensures.0 ∙ c.line-line.ensures.1) in
    c.coded.ensures ∙ ap (coded_of _ _ _ _) size ∙ coded_so s begins (sym c.if-not-is_unbroken.false ∙ c.is_unbroken.ensures)
