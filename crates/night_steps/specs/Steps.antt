-- The sequence of a night's operations: the next one, from the last one and its answer; and the events of the model that an operation is.
use Rattle.std.specs.Prelude.{Bool, true, false, ◌||◌, List, [], ◌∷◌, ◌++◌, ℕ, zero, suc, ◌+◌, eqb, ltb, cond, Option, Some, None}
use Rattle.night_steps.specs.declared.Refusal.{Refusal}
use Rattle.night_steps.specs.declared.Refusal.TheVariants.{Unread, Failed, Taken}
use Rattle.night_steps.specs.declared.Op.{Op}
use Rattle.night_steps.specs.declared.Op.TheVariants.{Find, ReadNames, Take, Blocked, FindAgain, Settle, GiveBack, Run, Make, SyncNight, Unlink}
use Rattle.night_steps.specs.declared.Op.TheVariants.{RemoveNight}
use Rattle.night_steps.specs.declared.Op.TheVariants.{Commit, SyncCommit, Put, SyncPlaces, RemoveDone, SyncLast, Placed, Refused, Stopped}
use Rattle.night_folders.specs.Folders.{Deed, ◌at◌, create, write, fsync_file, fsync_night, commit, call, fsync_commit, put, fsync_place, rmdir_done}
use Rattle.night_folders.specs.Folders.{fsync_last}
use Rattle.night_folders.specs.Folders.{fail, unlink, rmdir_night, kill}
use Rattle.night_folders.specs.Effects.{one, none, all}

-- the number that a call tells
abbrev pub refusal_number : Refusal → ℕ
refusal_number Unread = 33
refusal_number Failed = 34
refusal_number Taken = 35

abbrev pub choice : Bool → Op → Op → Op
choice true a b = a
choice false a b = b

-- the next of n files, where there is one
abbrev pub following : ℕ → ℕ → Option ℕ
following n i = cond (ltb (i + 1) n) (Some (i + 1)) None

-- the same with the next of n files, or what follows the last
abbrev pub after_make : ℕ → ℕ → Op
after_make n i = choice (ltb (i + 1) n) (Make (i + 1)) SyncNight

abbrev pub after_put : ℕ → ℕ → Op
after_put n i = choice (ltb (i + 1) n) (Put (i + 1)) SyncPlaces

abbrev pub after_unlink : ℕ → ℕ → Op
after_unlink n i = choice (ltb (i + 1) n) (Unlink (i + 1)) RemoveNight

-- one of the three numbers
abbrev pub is_refusal : ℕ → Bool
is_refusal k = eqb k (refusal_number Unread) || eqb k (refusal_number Failed) || eqb k (refusal_number Taken)

-- where an operation refuses, it does with one of them
abbrev pub tells_refusal : Op → Bool
tells_refusal (GiveBack k) = is_refusal k
tells_refusal (Refused k) = is_refusal k
tells_refusal (Stopped k) = is_refusal k
tells_refusal op = true

-- n: the files of the night; ok: the operation went well; own: this call has begun its own night. Before the commit a failure leads to the clean-up,
-- from it on to a stop: a rename that reports failure may have been done
abbrev pub next_op : ℕ → Op → Bool → Bool → Op
next_op n Find ok own = choice ok Take ReadNames
next_op n ReadNames ok own = choice ok SyncCommit (Stopped 33)
next_op n Take ok own = choice ok FindAgain Blocked
next_op n Blocked ok own = choice ok (Refused 35) (Refused 34)
next_op n FindAgain ok own = choice ok Settle (GiveBack 35)
next_op n Settle ok own = choice ok Run (GiveBack 34)
next_op n (GiveBack k) ok own = Refused k
next_op n Run ok own = choice ok (Make 0) RemoveNight
next_op n (Make i) ok own = choice ok (after_make n i) (Unlink 0)
next_op n SyncNight ok own = choice ok Commit (Unlink 0)
next_op n (Unlink i) ok own = after_unlink n i
next_op n RemoveNight ok own = Refused 34
next_op n Commit ok own = choice ok SyncCommit (Stopped 34)
next_op n SyncCommit ok own = choice ok (Put 0) (Stopped 34)
next_op n (Put i) ok own = choice ok (after_put n i) (Stopped 34)
next_op n SyncPlaces ok own = choice ok RemoveDone (Stopped 34)
next_op n RemoveDone ok own = choice ok SyncLast (Stopped 34)
next_op n SyncLast ok own = choice ok (choice own Placed Take) (Stopped 34)
next_op n Placed ok own = Placed
next_op n (Refused k) ok own = Refused k
next_op n (Stopped k) ok own = Stopped k

-- What an operation is in the model, by its answer. The model begins where a call has looked, taken STATE.night, looked again and brought the
-- folder to the device, so these are no events of it. A Make that fails has come as far as it likes.
abbrev pub events : Op → Bool → List Deed
events Find true = []
events Find false = call at none ∷ []
events ReadNames true = []
events ReadNames false = kill at none ∷ []
events Take ok = []
events Blocked ok = []
events FindAgain ok = []
events Settle ok = []
events (GiveBack k) ok = []
events Run true = []
events Run false = fail at none ∷ []
events (Make i) true = create at one i ∷ write at one i ∷ fsync_file at one i ∷ []
events (Make i) false = create at one i ∷ fail at none ∷ []
events SyncNight true = fsync_night at none ∷ []
events SyncNight false = fail at none ∷ []
events (Unlink i) ok = unlink at one i ∷ []
events RemoveNight ok = rmdir_night at none ∷ []
events Commit true = commit at none ∷ []
events Commit false = kill at none ∷ []
events SyncCommit true = fsync_commit at none ∷ []
events SyncCommit false = kill at none ∷ []
events (Put i) true = put at one i ∷ []
events (Put i) false = kill at none ∷ []
events SyncPlaces true = fsync_place at all ∷ []
events SyncPlaces false = kill at none ∷ []
events RemoveDone true = rmdir_done at none ∷ []
events RemoveDone false = kill at none ∷ []
events SyncLast true = fsync_last at none ∷ []
events SyncLast false = kill at none ∷ []
events Placed ok = []
events (Refused k) ok = []
events (Stopped k) ok = []

-- what a call on n files does with these answers, k operations from op on; and the operation that it comes to
abbrev pub walk : ℕ → ℕ → (ℕ → Bool) → Bool → Op → List Deed
walk n zero answers own op = []
walk n (suc k) answers own op = events op (answers 0) ++ walk n k (λ j. answers (suc j)) own (next_op n op (answers 0) own)

abbrev pub end : ℕ → ℕ → (ℕ → Bool) → Bool → Op → Op
end n zero answers own op = op
end n (suc k) answers own op = end n k (λ j. answers (suc j)) own (next_op n op (answers 0) own)

-- an end, or an operation that is another function's to carry out
abbrev pub waits_of : Op → Bool
waits_of Find = false
waits_of ReadNames = true
waits_of Take = false
waits_of Blocked = false
waits_of FindAgain = false
waits_of Settle = false
waits_of (GiveBack k) = false
waits_of Run = true
waits_of (Make i) = true
waits_of SyncNight = false
waits_of (Unlink i) = false
waits_of RemoveNight = false
waits_of Commit = false
waits_of SyncCommit = false
waits_of (Put i) = false
waits_of SyncPlaces = false
waits_of RemoveDone = false
waits_of SyncLast = false
waits_of Placed = true
waits_of (Refused k) = true
waits_of (Stopped k) = true

abbrev pub is_make : Op → Bool
is_make Find = false
is_make ReadNames = false
is_make Take = false
is_make Blocked = false
is_make FindAgain = false
is_make Settle = false
is_make (GiveBack k) = false
is_make Run = false
is_make (Make i) = true
is_make SyncNight = false
is_make (Unlink i) = false
is_make RemoveNight = false
is_make Commit = false
is_make SyncCommit = false
is_make (Put i) = false
is_make SyncPlaces = false
is_make RemoveDone = false
is_make SyncLast = false
is_make Placed = false
is_make (Refused k) = false
is_make (Stopped k) = false
