-- The numbers and values tell every answer apart, and any two results that a contract admits are equal, bytes included. Assumes nothing.
use Prim.Native.Nat.{ℕ}
use mathlib.Core.Path.{◌≡◌, refl, sym, ◌∙◌}
use mathlib.Core.Bool.{cond}
use mathlib.Core.List.{List}
use Rattle.std.specs.Prelude.{Option, None, Some, Result, Ok, Err}
use lib.Dec.{eqb}
use Rattle.laws.proofs.Known.{known}
use Rattle.machine.specs.declared.Machine.{Machine}
use Rattle.saved.specs.declared.WrongLength.{WrongLength}
use Rattle.saved.specs.declared.LoadRefusal.{LoadRefusal}
use Rattle.saved.specs.declared.LoadRefusal.TheVariants as refusal
use Rattle.asking.specs.Asking.{Given, gives, replies}
use Rattle.saved.specs.Answers.{told_saved, save_of, left_of, told_loaded, load_of}

abbrev saved_back : Option ℕ → Result (Unit {0}) WrongLength
saved_back None = Ok tt
saved_back (Some k) = Err (record {})

pub saved_known : (a b : Result (Unit {0}) WrongLength) → told_saved a ≡ told_saved b → a ≡ b
saved_known = known told_saved saved_back back
  where
    back : (a : Result (Unit {0}) WrongLength) → saved_back (told_saved a) ≡ a
    back (Ok _) = refl
    back (Err _) = refl

abbrev loaded_back : Given Machine → Result Machine LoadRefusal
loaded_back (gives m) = Ok m
loaded_back (replies k) =
    cond (eqb k 26) (Err refusal.WrongLength) (cond (eqb k 27) (Err refusal.WrongVersion) (cond (eqb k 28) (Err refusal.NoMachine) (Err refusal.WrongMachine)))

pub loaded_known : (a b : Result Machine LoadRefusal) → told_loaded a ≡ told_loaded b → a ≡ b
loaded_known = known told_loaded loaded_back back
  where
    back : (a : Result Machine LoadRefusal) → loaded_back (told_loaded a) ≡ a
    back (Ok m) = refl
    back (Err refusal.WrongLength) = refl
    back (Err refusal.WrongVersion) = refl
    back (Err refusal.NoMachine) = refl
    back (Err refusal.WrongMachine) = refl

-- the promise of saving: an answer, and the lent bytes afterwards
abbrev pub Saves : Machine → List ℕ → Result (Unit {0}) WrongLength → List ℕ → Type 0
Saves m bytes r o = (told_saved r ≡ save_of bytes) × (o ≡ left_of m bytes)

pub save_settled : (m : Machine) (bytes : List ℕ) (r r' : Result (Unit {0}) WrongLength) (o o' : List ℕ) → Saves m bytes r o → Saves m bytes r' o' → (r ≡ r') × (o ≡ o')
save_settled m bytes r r' o o' p q = (saved_known r r' (p.0 ∙ sym q.0), p.1 ∙ sym q.1)

pub load_settled : (bytes : List ℕ) (r r' : Result Machine LoadRefusal) → told_loaded r ≡ load_of bytes → told_loaded r' ≡ load_of bytes → r ≡ r'
load_settled bytes r r' p q = loaded_known r r' (p ∙ sym q)
