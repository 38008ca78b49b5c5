use Rattle.moments.specs.Moment.{write_at, stored_at}
use Rattle.moments.proofs.Laws.{write_high_law, store_law}
use Rattle.moments.proofs.Clocked.write.Goals as goal

pub returns : goal.returns
unfolding write_at stored_at
returns c = let k = c.advance-c.ensures in
    record { fact_1 = write_high_law _ _ _ _ k c.in_default.ensures; fact_2 = store_law _ _ _ _ _ k c.write_high.ensures }
