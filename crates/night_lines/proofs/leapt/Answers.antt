-- `leapt` meets its contract: the counts, and then the leaps. Assumes nothing.
use Rattle.printing.proofs.Laws.{puts_then}
use Rattle.night_lines.specs.NightLines.{leapt_text}
use Rattle.night_lines.proofs.leapt.Goals as goal

pub returns : goal.returns
unfolding leapt_text
returns c = puts_then _ _ _ c.counts.ensures c.numbered.ensures
