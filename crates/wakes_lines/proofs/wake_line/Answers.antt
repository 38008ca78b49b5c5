-- `wakes_lines::wake_line` meets its contract: cycle, cause and those behind in the same order. Assumes nothing.
use Rattle.printing.proofs.Laws.{puts_then}
use Rattle.wakes_lines.specs.WakesLines.{wake_text}
use Rattle.wakes_lines.proofs.wake_line.Goals as goal

pub returns : goal.returns
unfolding wake_text
returns c = let l = puts_then _ _ _ c.decimal-cycle.ensures c.named.ensures in
    rw (← c.empty.ensures) (puts_then _ _ _ (puts_then _ _ _ l c.behind.ensures) c.text.ensures)
