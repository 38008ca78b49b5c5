-- `listing_cases::long_lines` meets its contract: so many bytes. Assumes nothing.
use Rattle.std.proofs.Common.{ℕ, sym}
use lib.ListN.{length-replicate}
use Rattle.listing_cases.proofs.long_lines.Goals as goal

pub returns : goal.returns
returns c = sym (length-replicate {A = ℕ} 1638400 238)
