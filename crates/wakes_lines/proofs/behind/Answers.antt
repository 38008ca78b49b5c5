-- `wakes_lines::behind` meets its contract: nothing, or the causes of the mask one after the other. Assumes nothing.
use borrow.Author.Tests.{eq-eqb, ne_eqb}
use Rattle.printing.proofs.Laws.{puts_then}
use Rattle.wakes_lines.specs.WakesLines.{behind_text}
use Rattle.wakes_lines.proofs.Laws.{puts_none}
use Rattle.wakes_lines.proofs.behind.Goals as goal

pub returns-then-mask-eq0 : goal.returns-then-mask-eq0
unfolding behind_text
returns-then-mask-eq0 c = rw (eq-eqb _ _ c.if-mask-eq0.true) (puts_none _)

pub returns : goal.returns
unfolding behind_text
returns c = let l0 = puts_then _ _ _ c.text.ensures c.named_if-nmi.ensures in
    let l1 = puts_then _ _ _ l0 c.named_if-irq1.ensures in
    let l2 = puts_then _ _ _ l1 c.named_if-icf.ensures in
    let l3 = puts_then _ _ _ l2 c.named_if-ocf.ensures in
    let l4 = puts_then _ _ _ l3 c.named_if-tof.ensures in
    rw (ne_eqb _ _ c.if-mask-eq0.false) (puts_then _ _ _ l4 c.named_if.ensures)
