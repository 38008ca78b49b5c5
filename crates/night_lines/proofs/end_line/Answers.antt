-- `end_line` meets its contract: the reply is a stop, or a refusal. Assumes nothing.
use Rattle.night_lines.specs.NightLines.{end_text}
use Rattle.night_lines.proofs.end_line.Goals as goal

pub returns-then-is_stop : goal.returns-then-is_stop
unfolding end_text
returns-then-is_stop c = rw (← c.is_stop.ensures, c.if-is_stop.true, ← c.number.ensures) c.stopped.ensures

pub returns : goal.returns
unfolding end_text
returns c = rw (← c.is_stop.ensures, c.if-is_stop.false) c.refusal_line.ensures
