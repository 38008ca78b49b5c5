-- `night_slices::Night::line` meets its contract: what the night tells, and a newline. Assumes nothing.
use Rattle.printing.proofs.Laws.{puts_then}
use Rattle.night_slices.specs.Slices.{night_text}
use Rattle.night_slices.proofs.Night.line.Goals as goal

pub returns : goal.returns
unfolding night_text
returns c = puts_then _ _ _ c.closing.ensures c.text.ensures
