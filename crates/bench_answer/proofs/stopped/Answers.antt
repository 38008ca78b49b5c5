-- `stopped` meets its contract: the reply, the counts, and then the registers. Assumes nothing.
use Rattle.printing.proofs.Laws.{puts_then}
use Rattle.bench_answer.specs.Answer.{stop_text}
use Rattle.bench_answer.proofs.stopped.Goals as goal

pub returns : goal.returns
unfolding stop_text
returns c = rw (← c.empty.ensures, ← c.run_numbers-numbers.ensures, ← c.number.ensures)
    (puts_then _ _ _ (puts_then _ _ _ c.numbered-stop.ensures c.counts.ensures) c.registers.ensures)
