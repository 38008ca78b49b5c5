-- `rest::copy_records` meets its contract: each turn copies one record more. Assumes nothing.
use Prim.Native.Nat.{◌-◌}
use lib.ListN.{length}
use Rattle.rest.proofs.Laws.{Copying}
use Rattle.rest.proofs.copy_records.Given as goal

abbrev pub invariant-loop-at : goal.invariant-loop-at
invariant-loop-at l = Copying l.session l.cycles.0 l.from l.initial.buffer l.at l.buffer

abbrev pub decreases-loop-at : goal.decreases-loop-at
decreases-loop-at l = length l.session - l.at
