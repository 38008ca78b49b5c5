-- 01's table of replies, and 02's further ones: the number of each, the record that it names, and whether a run stops with it.
use Rattle.std.specs.Prelude.{ℕ, Bool, ◌||◌, eqb, Result, Ok, Err, ⊤}
use Rattle.std.proofs.Math.Option.{Option, none, some}
use Rattle.session.specs.Session.{fault_number, fault_record}
use Rattle.session.specs.declared.Fault.{Fault}
use Rattle.replies.specs.declared.Reply.{Reply}
use Rattle.replies.specs.declared.Reply.TheVariants.{Limit, WrongImage, WrongMachine, WrongLimit, Length, Kind, Value, Time, Undefined, Full}
use Rattle.replies.specs.declared.Reply.TheVariants.{LogFull, WrongArea}

-- a reply: its number, and "4 to 7 name the record, counted from 0"
pub record Told : Type 0 where
  pub number : ℕ
  pub named : Option ℕ

abbrev pub told : ℕ → Option ℕ → Told
told number named = record { number = number; named = named }

abbrev pub told_reply : Reply → Told
told_reply Limit = told 0 none
told_reply WrongImage = told 1 none
told_reply WrongMachine = told 2 none
told_reply WrongLimit = told 3 none
told_reply (Length k) = told 4 (some k)
told_reply (Kind k) = told 5 (some k)
told_reply (Value k) = told 6 (some k)
told_reply (Time k) = told 7 (some k)
told_reply Undefined = told 8 none
told_reply Full = told 9 none
told_reply LogFull = told 11 none
told_reply WrongArea = told 12 none

-- a session's fault, and its check: 4 to 7, or no refusal
abbrev pub told_fault : Fault → Told
told_fault f = told (fault_number f) (some (fault_record f))

abbrev pub told_check : Result ⊤ Fault → Option Told
told_check (Ok x) = none
told_check (Err f) = some (told_fault f)

-- the replies that a run stops with
abbrev pub stops : ℕ → Bool
stops reply = eqb reply 0 || eqb reply 8 || eqb reply 9 || eqb reply 11
