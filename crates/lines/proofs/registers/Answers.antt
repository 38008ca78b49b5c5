-- `registers` meets its contract: words and registers in the same order. Assumes nothing.
use Rattle.printing.proofs.Laws.{puts_then}
use Rattle.lines.specs.Lines.{registers_text}
use Rattle.lines.proofs.registers.Goals as goal

pub returns : goal.returns
unfolding registers_text
returns c = rw (← c.from.ensures)
    (puts_then _ _ _
    (puts_then _ _ _
    (puts_then _ _ _
    (puts_then _ _ _
    (puts_then _ _ _
    c.with_word-pc.ensures
    c.with_byte-a.ensures)
    c.with_byte-b.ensures)
    c.with_word-x.ensures)
    c.with_word-sp.ensures)
    c.with_byte.ensures)
