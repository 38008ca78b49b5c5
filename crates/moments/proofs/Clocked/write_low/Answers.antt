use mathlib.Core.Path.{refl}
use Rattle.moments.proofs.Laws.{write_low_law, store_law}
use Rattle.moments.proofs.Clocked.write_low.Goals as goal

pub returns : goal.returns
returns c = let k = c.catch_up-c.ensures in
    let w = c.write_low-bus.ensures in
    record { fact_1 = write_low_law _ _ _ _ k.fact_1 k.fact_2 w.fact_1 refl; fact_2 = λ area. store_law _ _ _ _ _ k.fact_1 (w.fact_2 area) }
