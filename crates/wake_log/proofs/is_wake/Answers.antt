-- `wake_log::is_wake` meets its contract: the same tests. Assumes nothing.
use borrow.Author.Tests.{le-leb, lt-leb}
use Rattle.wake_log.specs.Log.{is_wake}
use Rattle.wake_log.proofs.Laws.{step_of, step_positive}
use Rattle.wake_log.proofs.is_wake.Goals as goal

pub nonzero_rem-result : goal.nonzero_rem-result
nonzero_rem-result c = step_positive _ c.if-row-le5.true

pub returns-then-row-le5 : goal.returns-then-row-le5
unfolding is_wake
returns-then-row-le5 c = rw (le-leb _ _ c.if-row-le5.true, step_of _ c.if-row-le5.true)

pub returns-else-row-le5 : goal.returns-else-row-le5
unfolding is_wake
returns-else-row-le5 c = rw (lt-leb _ _ c.if-row-le5.false)
