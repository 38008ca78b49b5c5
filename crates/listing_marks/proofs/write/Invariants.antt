-- `listing_marks::write` meets its contract: each turn writes one line more. Assumes nothing.
use Prim.Native.Nat.{◌-◌, ◌+◌, ◌*◌, ◌≤◌}
use mathlib.Core.Path.{◌≡◌}
use lib.ListN.{length}
use lib.Seq.{sets}
use Rattle.listing_marks.specs.Marks.{marked_listing}
use Rattle.listing_marks.proofs.write.Given as goal

abbrev pub invariant-loop-address : goal.invariant-loop-address
invariant-loop-address l = (l.address ≤ l.last + 1) × (length l.buffer ≡ length l.initial.buffer) × (l.at + 30 * (l.last + 1 - l.address) ≤ length l.initial.buffer)
    × (length (marked_listing l.map l.image l.last l.first) ≡ l.at + length (marked_listing l.map l.image l.last l.address))
    × (sets l.initial.buffer 0 (marked_listing l.map l.image l.last l.first) ≡ sets l.buffer l.at (marked_listing l.map l.image l.last l.address))

abbrev pub decreases-loop-address : goal.decreases-loop-address
decreases-loop-address l = l.last + 1 - l.address
