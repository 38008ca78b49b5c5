-- `execution_map::mark` meets its contract: where the bit is set, nothing changes. Assumes nothing.
use mathlib.Core.Path.{sym, ◌∙◌}
use borrow.Author.Tests.{eq-eqb}
use Rattle.execution_map.proofs.Laws.{ran_within, marked_again}
use Rattle.execution_map.proofs.mark.Goals as goal

pub returns-then-byte-at-eq1 : goal.returns-then-byte-at-eq1
returns-then-byte-at-eq1 c = sym (marked_again _ _ (sym (ran_within c.args.map.now _ c.if-i-map.false) ∙ eq-eqb _ _ c.if-byte-at-eq1.true))
