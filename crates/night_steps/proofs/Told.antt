-- Where an operation refuses with one of the three numbers or not at all, so does the next. Assumes nothing.
use Prim.Native.Nat.{ℕ, ◌+◌}
use mathlib.Core.Bool.{Bool, true}
use mathlib.Core.Path.{◌≡◌, refl}
use lib.Dec.{ltb}
use Rattle.night_steps.specs.declared.Op.{Op}
use Rattle.night_steps.specs.declared.Op.TheVariants.{Find, ReadNames, Take, Blocked, FindAgain, Settle, GiveBack, Run, Make, SyncNight, Unlink, RemoveNight}
use Rattle.night_steps.specs.declared.Op.TheVariants.{Commit, SyncCommit, Put, SyncPlaces, RemoveDone, SyncLast, Placed, Refused, Stopped}
use Rattle.night_steps.specs.Steps.{next_op, tells_refusal}
use Rattle.night_steps.proofs.Ahead.{chosen}

abbrev Tells : Op → Type 0
Tells op = tells_refusal op ≡ true

pub tells_on : (n : ℕ) (op : Op) (ok own : Bool) → tells_refusal op ≡ true → tells_refusal (next_op n op ok own) ≡ true
tells_on n Find ok own h = chosen Tells ok (λ t. refl) (λ f. refl)
tells_on n ReadNames ok own h = chosen Tells ok (λ t. refl) (λ f. refl)
tells_on n Take ok own h = chosen Tells ok (λ t. refl) (λ f. refl)
tells_on n Blocked ok own h = chosen Tells ok (λ t. refl) (λ f. refl)
tells_on n FindAgain ok own h = chosen Tells ok (λ t. refl) (λ f. refl)
tells_on n Settle ok own h = chosen Tells ok (λ t. refl) (λ f. refl)
tells_on n (GiveBack k) ok own h = h
tells_on n Run ok own h = chosen Tells ok (λ t. refl) (λ f. refl)
tells_on n (Make i) ok own h = chosen Tells ok (λ t. chosen Tells (ltb (i + 1) n) (λ t. refl) (λ f. refl)) (λ f. refl)
tells_on n SyncNight ok own h = chosen Tells ok (λ t. refl) (λ f. refl)
tells_on n (Unlink i) ok own h = chosen Tells (ltb (i + 1) n) (λ t. refl) (λ f. refl)
tells_on n RemoveNight ok own h = refl
tells_on n Commit ok own h = chosen Tells ok (λ t. refl) (λ f. refl)
tells_on n SyncCommit ok own h = chosen Tells ok (λ t. refl) (λ f. refl)
tells_on n (Put i) ok own h = chosen Tells ok (λ t. chosen Tells (ltb (i + 1) n) (λ t. refl) (λ f. refl)) (λ f. refl)
tells_on n SyncPlaces ok own h = chosen Tells ok (λ t. refl) (λ f. refl)
tells_on n RemoveDone ok own h = chosen Tells ok (λ t. refl) (λ f. refl)
tells_on n SyncLast ok own h = chosen Tells ok (λ t. chosen Tells own (λ t. refl) (λ f. refl)) (λ f. refl)
tells_on n Placed ok own h = refl
tells_on n (Refused k) ok own h = h
tells_on n (Stopped k) ok own h = h
