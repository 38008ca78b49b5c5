-- `night_names::none_empty` meets its contract: the parts, each of which has a byte. Assumes nothing.
use lib.Dec.{eqb, ltb}
use lib.ListN.{length}
use borrow.Author.Tests.{tests}
use Rattle.std.proofs.Common.{rules, ℕ, List}
use Rattle.std.proofs.lemmas.Iterator.Search.{all_from_yields_List}
use Rattle.std.proofs.lemmas.Iterator.Splits.{YieldsList-from_slice_split}
use Rattle.night_names.specs.Names.{parts_of}
use Rattle.night_names.proofs.none_empty.Goals as goal

pub returns : goal.returns
unfolding parts_of
returns c =
    all_from_yields_List (λ (part : List ℕ). ltb 0 (length part)) _ _ _ c.all.ensures.ran
    (YieldsList-from_slice_split _ (λ (x : ℕ). eqb x 47) c.args.names.now c.split.ensures.rest c.split.ensures.done c.split.ensures.closure
    (λ x b q k. search (rules, tests)))
    (λ x b q k. search (rules, tests))
