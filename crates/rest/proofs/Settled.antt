-- "Any two results it admits are proved equal": the call's answer tells every result apart, and its contract fixes the buffer. Assumes
-- nothing.
use Prim.Native.Nat.{ℕ, ◌-◌}
use mathlib.Core.List.{List, [], ◌∷◌}
use mathlib.Core.Bool.{cond}
use mathlib.Core.Path.{◌≡◌, refl, sym, ◌∙◌}
use lib.Dec.{ltb}
use lib.ListN.{get_or}
use Rattle.laws.proofs.Known.{known}
use Rattle.session.specs.declared.Fault.TheVariants.{Length, Kind, Value, Time}
use Rattle.replies.proofs.Known.{fault_back}
use Rattle.rest.specs.Answers.{RestReply, rest_wrote, refuses, told_rest}
use Rattle.std.specs.Prelude.{Result, Ok, Err}
use Rattle.rest.specs.declared.RestRefusal.{RestRefusal}
use Rattle.rest.specs.declared.RestRefusal.TheVariants.{Bad, TooFew, NoRoom}
use Rattle.rest.proofs.Given.{Gives}

abbrev rest_back : RestReply → Result ℕ RestRefusal
rest_back (rest_wrote n) = Ok n
rest_back (refuses t) = Err (cond (ltb t.number 30) (Bad (fault_back t)) (get_or (TooFew ∷ []) (t.number - 30) NoRoom))

rest_known : (a b : Result ℕ RestRefusal) → told_rest a ≡ told_rest b → a ≡ b
rest_known = known told_rest rest_back back
  where
    back : (a : Result ℕ RestRefusal) → rest_back (told_rest a) ≡ a
    back (Ok n) = refl
    back (Err (Bad (Length k))) = refl
    back (Err (Bad (Kind k))) = refl
    back (Err (Bad (Value k))) = refl
    back (Err (Bad (Time k))) = refl
    back (Err TooFew) = refl
    back (Err NoRoom) = refl

pub rest_settled : (session : List ℕ) (used cycles : ℕ) (buffer : List ℕ) (r r' : Result ℕ RestRefusal) (b b' : List ℕ)
    → Gives session used cycles buffer r b → Gives session used cycles buffer r' b' → (r ≡ r') × (b ≡ b')
rest_settled session used cycles buffer r r' b b' p q = (rest_known r r' (p.0 ∙ sym q.0), p.1 ∙ sym q.1)
