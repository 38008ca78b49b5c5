-- `listing_codes::code_for` meets its contract: what is left to search has the first. Assumes nothing.
use mathlib.Core.Path.{◌≡◌}
use Rattle.listing_codes.proofs.Laws.{searched}
use Rattle.listing_codes.proofs.code_for.Given as goal

abbrev pub invariant-loop-op : goal.invariant-loop-op
invariant-loop-op l = searched l.wanted 0 ≡ searched l.wanted l.op
