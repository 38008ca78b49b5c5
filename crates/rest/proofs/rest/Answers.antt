-- `rest::rest` meets its contract: the check's refusals, and else the rest of a sound session. Assumes nothing.
use mathlib.Core.Path.{sym, ◌∙◌}
use Rattle.std.proofs.lemmas.Result.{err_from_is_err_and}
use Rattle.rest.proofs.Given.{given_bad}
use Rattle.rest.proofs.rest.Goals as goal

pub returns-in_err-check : goal.returns-in_err-check
returns-in_err-check c =
    let p = err_from_is_err_and c.from_residual.result c.from_residual.ensures.1 in
    rw (p.1, p.2) (given_bad _ _ _ _ _ (sym c.check.ensures ∙ c.in_err-check.was))
