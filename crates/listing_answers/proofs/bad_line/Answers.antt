-- `listing_answers::bad_line` meets its contract: words and numbers in the same order. Assumes nothing.
use Rattle.printing.proofs.Laws.{puts_then}
use Rattle.listing_answers.specs.Answers.{refusal_text}
use Rattle.listing_answers.proofs.bad_line.Goals as goal

pub returns : goal.returns
unfolding refusal_text
returns c = puts_then _ _ _ c.refused.ensures (puts_then _ _ _ c.numbered.ensures c.text.ensures)
