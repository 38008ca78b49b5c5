-- `bad_line` meets its contract: the refusal, and then a newline. Assumes nothing.
use Rattle.printing.proofs.Laws.{puts_then}
use Rattle.bench_answer.specs.Answer.{input_text}
use Rattle.bench_answer.proofs.bad_line.Goals as goal

pub returns : goal.returns
unfolding input_text
returns c = puts_then _ _ _ c.refused.ensures c.text.ensures
