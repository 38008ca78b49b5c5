use Rattle.moments.specs.Moment.{read_at}
use Rattle.moments.proofs.Laws.{fetch_high_law}
use Rattle.moments.proofs.Clocked.fetch.Goals as goal

pub returns : goal.returns
unfolding read_at
returns c = λ area. fetch_high_law _ _ _ _ c.advance-c.ensures c.in_default.ensures
