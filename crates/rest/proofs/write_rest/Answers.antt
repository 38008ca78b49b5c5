-- `rest::write_rest` meets its contract: too few records, no room, or the rest. Assumes nothing.
use native.Mathlib.Omega.{arith}
use mathlib.Core.Path.{◌≡◌, sym, ◌∙◌}
use Rattle.std.specs.Prelude.{Some, None}
use Rattle.std.proofs.lemmas.Result.{err_from_is_err_and}
use Rattle.rest.specs.Rest.{skip_of}
use Rattle.rest.specs.declared.RestRefusal.TheVariants.{TooFew}
use Rattle.rest.proofs.Given.{skipped_sound, given_fewer, given_no_room, given_written}
use Rattle.rest.proofs.write_rest.Goals as goal
use Rattle.rest.proofs.write_rest.Goals.{In_ok-at}

-- where the unused records begin
there : (c : In_ok-at) → let a = c.args in
    Some c.in_ok-at.at ≡ skip_of a.session.now a.used.0
there c = let h : c.skip.result ≡ Some c.in_ok-at.at = grind arith in sym h ∙ c.skip.ensures

pub returns-in_err-at : goal.returns-in_err-at
returns-in_err-at c =
    let p = err_from_is_err_and c.from_residual.result c.from_residual.ensures.1 in
    let h : c.skip.result ≡ None = grind arith in
    let e : c.in_err-at.field-0.0 ≡ TooFew = grind arith in
    rw (p.1, p.2, e) (given_fewer _ _ _ _ c.requires (sym h ∙ c.skip.ensures))

pub overflow_sub-left : goal.overflow_sub-left
overflow_sub-left c = (skipped_sound _ _ _ c.requires (there (goal.at.overflow_sub-left c).In_ok-at)).within

pub returns-then-buffer-left : goal.returns-then-buffer-left
returns-then-buffer-left c = given_no_room _ _ _ _ c.requires _ (there (goal.at.returns-then-buffer-left c).In_ok-at) c.if-buffer-left.true

pub copy_records-requires : goal.copy_records-requires
copy_records-requires c = (skipped_sound _ _ _ c.requires (there (goal.at.copy_records-requires c).In_ok-at), c.if-buffer-left.false)

pub returns : goal.returns
returns c = given_written _ _ _ _ c.requires _ (there (goal.at.returns c).In_ok-at) c.if-buffer-left.false c.copy_records.ensures
