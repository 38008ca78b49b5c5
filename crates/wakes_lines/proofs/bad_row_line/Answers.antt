-- `wakes_lines::bad_row_line` meets its contract: words and numbers in the same order. Assumes nothing.
use Rattle.printing.proofs.Laws.{puts_then}
use Rattle.wakes_lines.specs.WakesLines.{bad_row_text}
use Rattle.wakes_lines.proofs.bad_row_line.Goals as goal

pub returns : goal.returns
unfolding bad_row_text
returns c = puts_then _ _ _ (puts_then _ _ _ c.refused.ensures c.numbered.ensures) c.text.ensures
