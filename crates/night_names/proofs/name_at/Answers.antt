-- `night_names::name_at` meets its contract: the part with a number. Assumes nothing.
use denote.Ref.{Bor}
use lib.Dec.{eqb}
use mathlib.Core.Path.{◌≡◌, refl, ap, ◌∙◌}
use borrow.Author.Tests.{tests}
use Rattle.std.proofs.Common.{rules, ℕ, List, [], Option, Some, None}
use Rattle.std.specs.List.{slice_split}
use Rattle.std.specs.Option.{option_map, unwrap_or}
use Rattle.std.proofs.lemmas.Option.{unwrap_or-slice_get}
use Rattle.std.proofs.lemmas.Iterator.Consumers.{nth_from_yields_List}
use Rattle.std.proofs.lemmas.Iterator.Splits.{YieldsList-from_slice_split}
use Rattle.night_names.specs.Names.{parts_of, name_at}
use Rattle.night_names.proofs.name_at.Goals as goal

text_of : (o : Option (Bor (List ℕ))) (d : Bor (List ℕ)) → (unwrap_or o d).now ≡ unwrap_or (option_map (λ (x : Bor (List ℕ)). x.now) o) d.now
text_of None d = refl
text_of (Some x) d = refl

pub returns : goal.returns
unfolding parts_of name_at
returns c =
    ap (λ (r : Bor (List ℕ)). r.now) c.unwrap_or.ensures ∙ text_of c.nth.result _
    ∙ ap (λ (o : Option (List ℕ)). unwrap_or o [])
    (nth_from_yields_List _ _ _ c.nth.ensures.ran
    (YieldsList-from_slice_split _ (λ (x : ℕ). eqb x 47) c.args.names.now c.split.ensures.rest c.split.ensures.done c.split.ensures.closure
    (λ x b q k. search (rules, tests))))
    ∙ unwrap_or-slice_get (slice_split (λ (x : ℕ). eqb x 47) c.args.names.now) c.args.k []
