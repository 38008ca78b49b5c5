-- `stopped` meets its contract: words, numbers and registers in the same order. Assumes nothing.
use Rattle.printing.proofs.Laws.{puts_then}
use Rattle.night_lines.specs.NightLines.{stopped_text}
use Rattle.night_lines.proofs.stopped.Goals as goal

pub returns : goal.returns
unfolding stopped_text
returns c = rw (← c.empty.ensures)
    (puts_then _ _ _
    (puts_then _ _ _ (puts_then _ _ _ c.numbered-stopped.ensures c.numbered-sliced.ensures) c.leapt.ensures)
    c.registers.ensures)
