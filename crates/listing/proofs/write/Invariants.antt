-- `listing::write` meets its contract: each turn writes one line more. Assumes nothing.
use Prim.Native.Nat.{◌-◌, ◌+◌, ◌≤◌}
use mathlib.Core.Path.{◌≡◌}
use lib.ListN.{length}
use lib.Seq.{sets}
use Rattle.listing.specs.Listing.{listing_from}
use Rattle.listing.proofs.write.Given as goal

abbrev pub invariant-loop-address : goal.invariant-loop-address
invariant-loop-address l = (l.address ≤ l.last + 1) × (length l.buffer ≡ length l.initial.buffer) × (l.at + length (listing_from l.image l.last l.address) ≤ length l.initial.buffer)
    × (sets l.initial.buffer 0 (listing_from l.image l.last l.first) ≡ sets l.buffer l.at (listing_from l.image l.last l.address))

abbrev pub decreases-loop-address : goal.decreases-loop-address
decreases-loop-address l = l.last + 1 - l.address
