-- `bench_cases::show_all` ends, as each turn leaves less. Assumes nothing.
use lib.ListN.{length}
use Rattle.bench_cases.proofs.show_all.Given as goal

abbrev pub invariant-loop-rest : goal.invariant-loop-rest
invariant-loop-rest g l = Unit

abbrev pub decreases-loop-rest : goal.decreases-loop-rest
decreases-loop-rest g l = length l.left
