-- `State::lacks_row` meets its contract: in each of its ways. Assumes nothing.
use Rattle.std.proofs.Common.{sym, ◌∙◌, true≢false}
use borrow.Author.Tests.{not-false, not-true}
use Rattle.boundary.proofs.Cases.{lacks_unasked, lacks_fitting, lacks_asked}
use Rattle.boundary.proofs.State.lacks_row.Goals as goal
use Rattle.boundary.proofs.State.lacks_row.Goals.{then-logs, else-logs}

pub returns-then-not-fits_row : goal.returns-then-not-fits_row
returns-then-not-fits_row c = let a = c.args in
    elim c.if-logs.branch [
      | then-logs w ↦
          lacks_asked a.logs a.self a.log.now w.if-logs.true (sym w.fits_row.ensures ∙ not-true _ (sym w.value-is ∙ c.if-not-fits_row.true))
          (rw (← c.pending.ensures) c.is_some.ensures)
      | else-logs w ↦ absurd (true≢false (sym c.if-not-fits_row.true ∙ w.value-is ∙ w.if-logs.false))
    ]

pub returns-else-not-fits_row : goal.returns-else-not-fits_row
returns-else-not-fits_row c = let a = c.args in
    elim c.if-logs.branch [
      | then-logs w ↦ rw c.if-not-fits_row.false (lacks_fitting a.logs a.self a.log.now (sym w.fits_row.ensures ∙ not-false _ (sym w.value-is ∙ c.if-not-fits_row.false)))
      | else-logs w ↦ rw c.if-not-fits_row.false (lacks_unasked a.logs a.self a.log.now w.if-logs.false)
    ]
