-- `assembling::write` meets its contract: each turn writes one line's bytes more. Assumes nothing.
use Prim.Native.Nat.{◌-◌}
use lib.ListN.{length}
use Rattle.assembling.proofs.Laws.{Writing}
use Rattle.assembling.proofs.write.Given as goal

abbrev pub invariant-loop-at : goal.invariant-loop-at
invariant-loop-at l = Writing l.text l.initial.buffer l.at l.due l.to l.buffer

abbrev pub decreases-loop-at : goal.decreases-loop-at
decreases-loop-at l = length l.text - l.at
