-- `listing_reading::is_unbroken` meets its contract: the library's test. Assumes nothing.
use mathlib.Core.Bool.{not}
use mathlib.Core.Path.{ap, ◌∙◌}
use Rattle.listing_reading.proofs.Unbroken.{none_ends}
use Rattle.listing_reading.proofs.is_unbroken.Goals as goal

pub returns : goal.returns
returns c = ap not c.contains.ensures.value ∙ none_ends c.args.column
