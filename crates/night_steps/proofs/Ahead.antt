-- How many operations are ahead in a night of n files: so many files to make, and from any operation so many until one that waits. Assumes nothing.
use Prim.Native.Nat.{ℕ, ◌+◌, ◌-◌, ◌<◌}
use native.Mathlib.Omega.{arith}
use mathlib.Core.Bool.{Bool, true, false, true≢false}
use mathlib.Core.Path.{◌≡◌, refl, sym}
use lib.Dec.{ltb}
use borrow.Author.Tests.{ltb-true}
use Rattle.night_steps.specs.declared.Op.{Op}
use Rattle.night_steps.specs.declared.Op.TheVariants.{Find, ReadNames, Take, Blocked, FindAgain, Settle, GiveBack, Run, Make, SyncNight, Unlink, RemoveNight}
use Rattle.night_steps.specs.declared.Op.TheVariants.{Commit, SyncCommit, Put, SyncPlaces, RemoveDone, SyncLast, Placed, Refused, Stopped}
use Rattle.night_steps.specs.Steps.{choice, next_op, waits_of, is_make}

abbrev pub ahead : ℕ → Op → ℕ
ahead n Find = 5
ahead n ReadNames = 0
ahead n Take = 4
ahead n Blocked = 1
ahead n FindAgain = 3
ahead n Settle = 2
ahead n (GiveBack k) = 1
ahead n Run = 0
ahead n (Make i) = 0
ahead n SyncNight = 11 + n
ahead n (Unlink i) = 2 + (n - i)
ahead n RemoveNight = 1
ahead n Commit = 10 + n
ahead n SyncCommit = 9 + n
ahead n (Put i) = 8 + (n - i)
ahead n SyncPlaces = 7
ahead n RemoveDone = 6
ahead n SyncLast = 5
ahead n Placed = 0
ahead n (Refused k) = 0
ahead n (Stopped k) = 0

abbrev pub to_make : ℕ → Op → ℕ
to_make n Find = 0
to_make n ReadNames = 0
to_make n Take = 0
to_make n Blocked = 0
to_make n FindAgain = 0
to_make n Settle = 0
to_make n (GiveBack k) = 0
to_make n Run = 0
to_make n (Make i) = 1 + (n - i)
to_make n SyncNight = 0
to_make n (Unlink i) = 0
to_make n RemoveNight = 0
to_make n Commit = 0
to_make n SyncCommit = 0
to_make n (Put i) = 0
to_make n SyncPlaces = 0
to_make n RemoveDone = 0
to_make n SyncLast = 0
to_make n Placed = 0
to_make n (Refused k) = 0
to_make n (Stopped k) = 0

-- what holds of each side of a choice where it is chosen holds of the choice
pub chosen : (P : Op → Type 0) (b : Bool) {x y : Op} → (b ≡ true → P x) → (b ≡ false → P y) → P (choice b x y)
chosen P true p q = p refl
chosen P false p q = q refl

-- less is ahead of the choice of the next file, where there is one
next_file : (f : Op → ℕ) (n i m : ℕ) {x y : Op} → (i + 1 < n → f x < m) → f y < m → f (choice (ltb (i + 1) n) x y) < m
next_file f n i m p q = chosen (λ o. f o < m) (ltb (i + 1) n) (λ e. p (ltb-true (i + 1) n e)) (λ e. q)

pub falls : (n : ℕ) (op : Op) (ok own : Bool) → waits_of op ≡ false → ahead n (next_op n op ok own) < ahead n op
falls n Find ok own h = chosen (λ o. ahead n o < 5) ok (λ e. omega arith) (λ e. omega arith)
falls n ReadNames ok own h = absurd (true≢false h)
falls n Take ok own h = chosen (λ o. ahead n o < 4) ok (λ e. omega arith) (λ e. omega arith)
falls n Blocked ok own h = chosen (λ o. ahead n o < 1) ok (λ e. omega arith) (λ e. omega arith)
falls n FindAgain ok own h = chosen (λ o. ahead n o < 3) ok (λ e. omega arith) (λ e. omega arith)
falls n Settle ok own h = chosen (λ o. ahead n o < 2) ok (λ e. omega arith) (λ e. omega arith)
falls n (GiveBack k) ok own h = omega arith
falls n Run ok own h = absurd (true≢false h)
falls n (Make i) ok own h = absurd (true≢false h)
falls n SyncNight ok own h = chosen (λ o. ahead n o < 11 + n) ok (λ e. omega arith) (λ e. omega arith)
falls n (Unlink i) ok own h = next_file (ahead n) n i (2 + (n - i)) (λ g. omega arith) (omega arith)
falls n RemoveNight ok own h = omega arith
falls n Commit ok own h = chosen (λ o. ahead n o < 10 + n) ok (λ e. omega arith) (λ e. omega arith)
falls n SyncCommit ok own h = chosen (λ o. ahead n o < 9 + n) ok (λ e. omega arith) (λ e. omega arith)
falls n (Put i) ok own h =
    chosen (λ o. ahead n o < 8 + (n - i)) ok (λ t. next_file (ahead n) n i (8 + (n - i)) (λ g. omega arith) (omega arith)) (λ e. omega arith)
falls n SyncPlaces ok own h = chosen (λ o. ahead n o < 7) ok (λ e. omega arith) (λ e. omega arith)
falls n RemoveDone ok own h = chosen (λ o. ahead n o < 6) ok (λ e. omega arith) (λ e. omega arith)
falls n SyncLast ok own h = chosen (λ o. ahead n o < 5) ok (λ t. chosen (λ o. ahead n o < 5) own (λ e. omega arith) (λ e. omega arith)) (λ e. omega arith)
falls n Placed ok own h = absurd (true≢false h)
falls n (Refused k) ok own h = absurd (true≢false h)
falls n (Stopped k) ok own h = absurd (true≢false h)

pub makes_fall : (n : ℕ) (op : Op) (ok own : Bool) → is_make op ≡ true → to_make n (next_op n op ok own) < to_make n op
makes_fall n Find ok own h = absurd (true≢false (sym h))
makes_fall n ReadNames ok own h = absurd (true≢false (sym h))
makes_fall n Take ok own h = absurd (true≢false (sym h))
makes_fall n Blocked ok own h = absurd (true≢false (sym h))
makes_fall n FindAgain ok own h = absurd (true≢false (sym h))
makes_fall n Settle ok own h = absurd (true≢false (sym h))
makes_fall n (GiveBack k) ok own h = absurd (true≢false (sym h))
makes_fall n Run ok own h = absurd (true≢false (sym h))
makes_fall n (Make i) ok own h =
    chosen (λ o. to_make n o < 1 + (n - i)) ok (λ t. next_file (to_make n) n i (1 + (n - i)) (λ g. omega arith) (omega arith)) (λ e. omega arith)
makes_fall n SyncNight ok own h = absurd (true≢false (sym h))
makes_fall n (Unlink i) ok own h = absurd (true≢false (sym h))
makes_fall n RemoveNight ok own h = absurd (true≢false (sym h))
makes_fall n Commit ok own h = absurd (true≢false (sym h))
makes_fall n SyncCommit ok own h = absurd (true≢false (sym h))
makes_fall n (Put i) ok own h = absurd (true≢false (sym h))
makes_fall n SyncPlaces ok own h = absurd (true≢false (sym h))
makes_fall n RemoveDone ok own h = absurd (true≢false (sym h))
makes_fall n SyncLast ok own h = absurd (true≢false (sym h))
makes_fall n Placed ok own h = absurd (true≢false (sym h))
makes_fall n (Refused k) ok own h = absurd (true≢false (sym h))
makes_fall n (Stopped k) ok own h = absurd (true≢false (sym h))
