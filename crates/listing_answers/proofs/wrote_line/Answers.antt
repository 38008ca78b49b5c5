-- `listing_answers::wrote_line` meets its contract: words and numbers in the same order. Assumes nothing.
use Rattle.printing.proofs.Laws.{puts_then}
use Rattle.listing_answers.specs.Answers.{wrote_text}
use Rattle.listing_answers.proofs.wrote_line.Goals as goal

pub returns : goal.returns
unfolding wrote_text
returns c = let l = puts_then _ _ _ c.numbered.ensures c.text.ensures in
    rw (← c.empty.ensures) (puts_then _ _ _ (puts_then _ _ _ l c.word.ensures) c.text-2.ensures)
