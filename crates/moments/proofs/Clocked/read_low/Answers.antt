use mathlib.Core.Path.{refl}
use Rattle.moments.proofs.Laws.{read_low_law}
use Rattle.moments.proofs.Clocked.read_low.Goals as goal

pub returns : goal.returns
returns c = λ area. read_low_law _ _ _ _ c.catch_up-c.ensures.fact_1 c.catch_up-c.ensures.fact_2 (c.read_low-f.ensures area) refl
