-- Number and record tell every reply apart, and every fault: two that tell the same are one. Assumes nothing.
use Prim.Native.Nat.{ℕ, ◌-◌}
use mathlib.Core.Path.{◌≡◌, refl}
use mathlib.Core.List.{[], ◌∷◌}
use mathlib.Core.Option
use lib.ListN.{get_or}
use Rattle.laws.proofs.Known.{known}
use Rattle.session.specs.declared.Fault.{Fault}
use Rattle.session.specs.declared.Fault.TheVariants as fault
use Rattle.replies.specs.declared.Reply.{Reply}
use Rattle.replies.specs.declared.Reply.TheVariants.{Limit, WrongImage, WrongMachine, WrongLimit, Length, Kind, Value, Time, Undefined, Full, LogFull, WrongArea}
use Rattle.replies.specs.Replies.{Told, told_reply, told_fault}

-- no reply to a run has the number 10
abbrev reply_by : ℕ → ℕ → Reply
reply_by number k =
    get_or (Limit ∷ WrongImage ∷ WrongMachine ∷ WrongLimit ∷ Length k ∷ Kind k ∷ Value k ∷ Time k ∷ Undefined ∷ Full ∷ Limit ∷ LogFull ∷ WrongArea ∷ []) number Limit

abbrev reply_back : Told → Reply
reply_back t = reply_by t.number (Option.get_or t.named 0)

pub reply_known : (a b : Reply) → told_reply a ≡ told_reply b → a ≡ b
reply_known = known told_reply reply_back back
  where
    back : (a : Reply) → reply_back (told_reply a) ≡ a
    back Limit = refl
    back WrongImage = refl
    back WrongMachine = refl
    back WrongLimit = refl
    back (Length k) = refl
    back (Kind k) = refl
    back (Value k) = refl
    back (Time k) = refl
    back Undefined = refl
    back Full = refl
    back LogFull = refl
    back WrongArea = refl

-- the fault that a reply of 4 to 7 tells
abbrev pub fault_back : Told → Fault
fault_back t =
    let k = Option.get_or t.named 0 in
    get_or (fault.Length k ∷ fault.Kind k ∷ fault.Value k ∷ []) (t.number - 4) (fault.Time k)

pub fault_back_lem : (f : Fault) → fault_back (told_fault f) ≡ f
fault_back_lem (fault.Length k) = refl
fault_back_lem (fault.Kind k) = refl
fault_back_lem (fault.Value k) = refl
fault_back_lem (fault.Time k) = refl

pub fault_known : (a b : Fault) → told_fault a ≡ told_fault b → a ≡ b
fault_known = known told_fault fault_back fault_back_lem
