-- Any two results that the contract of `first_unrun` admits are equal. Assumes nothing.
use Prim.Native.Nat.{ℕ}
use mathlib.Core.List.{List}
use mathlib.Core.Path.{◌≡◌, refl, sym, ◌∙◌}
use Rattle.std.specs.Prelude.{Option, Result, Ok, Err}
use Rattle.laws.proofs.Known.{known}
use Rattle.asking.specs.Asking.{Given, gives, replies}
use Rattle.execution_map.specs.declared.WrongMap.{WrongMap}
use Rattle.execution_map.specs.Map.{told_search, unrun_answer}

abbrev search_back : Given (Option ℕ) → Result (Option ℕ) WrongMap
search_back (gives found) = Ok found
search_back (replies k) = Err (record {})

unrun_known : (a b : Result (Option ℕ) WrongMap) → told_search a ≡ told_search b → a ≡ b
unrun_known = known told_search search_back back
  where
    back : (a : Result (Option ℕ) WrongMap) → search_back (told_search a) ≡ a
    back (Ok found) = refl
    back (Err e) = refl

pub unrun_settled : (bytes : List ℕ) (first last : ℕ) (r r' : Result (Option ℕ) WrongMap) → told_search r ≡ unrun_answer bytes first last
    → told_search r' ≡ unrun_answer bytes first last → r ≡ r'
unrun_settled bytes first last r r' e e' = unrun_known r r' (e ∙ sym e')
