-- `night_names::is_among` meets its contract: the parts, of which one is the name. Assumes nothing.
use lib.Dec.{eqb}
use borrow.Author.Tests.{tests}
use Rattle.std.proofs.Common.{rules, ℕ, bytes_eq}
use Rattle.std.proofs.lemmas.Iterator.Search.{any_from_yields_List}
use Rattle.std.proofs.lemmas.Iterator.Splits.{YieldsList-from_slice_split}
use Rattle.night_names.specs.Names.{parts_of}
use Rattle.night_names.proofs.is_among.Goals as goal

pub returns : goal.returns
unfolding parts_of
returns c =
    any_from_yields_List (bytes_eq c.args.name.now) _ _ _ c.any.ensures.ran
    (YieldsList-from_slice_split _ (λ (x : ℕ). eqb x 47) c.args.names.now c.split.ensures.rest c.split.ensures.done c.split.ensures.closure
    (λ x b q k. search (rules, tests)))
    (λ x b q k. search (rules, tests))
