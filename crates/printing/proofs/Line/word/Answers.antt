-- `Line::word` meets its contract: the four digits are those of its two bytes. Assumes nothing.
use mathlib.Core.Path.{ap, ◌∙◌}
use Rattle.printing.specs.Printing.{puts_of}
use Rattle.printing.proofs.Laws.{puts_then, word_digits}
use Rattle.printing.proofs.Line.word.Goals as goal

pub returns : goal.returns
returns c = puts_then _ _ _ c.byte.ensures c.byte-2.ensures ∙ ap (λ t. puts_of c.args.self t) (word_digits c.args.v)
