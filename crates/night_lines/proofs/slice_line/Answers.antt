-- `slice_line` meets its contract: words and numbers in the same order. Assumes nothing.
use Rattle.printing.proofs.Laws.{puts_then}
use Rattle.night_lines.specs.NightLines.{slice_text}
use Rattle.night_lines.proofs.slice_line.Goals as goal

pub returns : goal.returns
unfolding slice_text
returns c = rw (← c.empty.ensures)
    (puts_then _ _ _
    (puts_then _ _ _ (puts_then _ _ _ c.numbered-slice.ensures c.numbered-stopped.ensures) c.leapt.ensures)
    c.text.ensures)
