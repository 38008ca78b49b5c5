use Rattle.moments.specs.Moment.{read_at}
use Rattle.moments.proofs.Laws.{read_high_law}
use Rattle.moments.proofs.Clocked.read.Goals as goal

pub returns : goal.returns
unfolding read_at
returns c = read_high_law _ _ _ _ c.advance-c.ensures c.in_default.ensures c.held.ensures
