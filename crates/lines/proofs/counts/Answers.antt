-- `counts` meets its contract: words and numbers in the same order. Assumes nothing.
use Rattle.printing.proofs.Laws.{puts_then}
use Rattle.lines.specs.Lines.{counts_text}
use Rattle.lines.proofs.counts.Goals as goal

pub returns : goal.returns
unfolding counts_text
returns c = puts_then _ _ _
    (puts_then _ _ _
    (puts_then _ _ _
    (puts_then _ _ _
    c.numbered-timed.ensures
    c.numbered-executed.ensures)
    c.numbered-entered.ensures)
    c.numbered-used.ensures)
    c.numbered.ensures
