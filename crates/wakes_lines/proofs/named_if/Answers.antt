-- `wakes_lines::named_if` meets its contract: the same test. Assumes nothing.
use borrow.Author.Tests.{ne_eqb}
use Rattle.wakes_lines.proofs.Laws.{puts_none}
use Rattle.wakes_lines.proofs.named_if.Goals as goal

pub returns : goal.returns
returns c = rw (ne_eqb _ _ c.if-mask-cause-eq1.false) (puts_none _)
