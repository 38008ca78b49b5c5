-- `report` meets its contract: the reply is a stop, or a refusal. Assumes nothing.
use Rattle.bench_answer.specs.Answer.{text_of}
use Rattle.bench_answer.proofs.report.Goals as goal

pub returns-then-is_stop : goal.returns-then-is_stop
unfolding text_of
returns-then-is_stop c = rw (← c.is_stop.ensures, c.if-is_stop.true) c.stopped.ensures

pub returns : goal.returns
unfolding text_of
returns c = rw (← c.is_stop.ensures, c.if-is_stop.false) c.refusal_line.ensures
