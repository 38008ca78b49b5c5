-- `listing::measure` meets its contract: each turn counts one line more. Assumes nothing.
use Prim.Native.Nat.{◌-◌, ◌+◌, ◌*◌, ◌≤◌}
use mathlib.Core.Path.{◌≡◌}
use lib.ListN.{length}
use Rattle.listing.specs.Listing.{listing_from}
use Rattle.listing.proofs.measure.Given as goal

abbrev pub invariant-loop-address : goal.invariant-loop-address
invariant-loop-address l = (l.address ≤ l.last + 1) × (l.n ≤ 28 * l.address) × (length (listing_from l.image l.last l.first) ≡ l.n + length (listing_from l.image l.last l.address))

abbrev pub decreases-loop-address : goal.decreases-loop-address
decreases-loop-address l = l.last + 1 - l.address
