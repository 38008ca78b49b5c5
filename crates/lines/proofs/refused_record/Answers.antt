-- `refused_record` meets its contract: the reply's words, and then the record's. Assumes nothing.
use Rattle.printing.proofs.Laws.{puts_then}
use Rattle.lines.specs.Lines.{refused_text}
use Rattle.lines.proofs.refused_record.Goals as goal

pub returns : goal.returns
unfolding refused_text
returns c = puts_then _ _ _ c.refused.ensures c.numbered.ensures
