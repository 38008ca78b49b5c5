-- `Line::text` meets its contract: each turn puts one byte more. Assumes nothing.
use mathlib.Core.Path.{sym, ◌∙◌}
use Rattle.printing.proofs.Laws.{puts_turn, puts_all}
use Rattle.printing.proofs.Line.text.Goals as goal

pub loop-byte-preserved : goal.loop-byte-preserved
loop-byte-preserved c = puts_turn _ _ _ c.loop-byte-test.true c.loop-byte.invariant c.put-line.ensures

pub returns : goal.returns
returns c = sym (c.loop-byte.invariant ∙ puts_all _ _ _ c.loop-byte-test.false)
