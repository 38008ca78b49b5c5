-- The program's sequence is the one of night_folders' theorems, and it keeps to the rules whatever the system answers: for a night of n files, one or
-- more. Assumes nothing.
use mathlib.Core.Path.{◌≡◌, refl, ap, ◌∙◌}
use mathlib.Core.Bool.{Bool, true, false}
use mathlib.Core.List.{List, [], ◌∷◌, ◌++◌}
use Prim.Native.Nat.{ℕ, zero, suc, ◌+◌, ◌≤◌, ◌<◌}
use native.Mathlib.Numerals.{add-one}
use native.Mathlib.Omega.{arith}
use lib.Dec.{T, ltb}
use borrow.Author.Tests.{lt-ltb, le-ltb}
use Rattle.night_steps.specs.declared.Op.{Op}
use Rattle.night_steps.specs.declared.Op.TheVariants.{Find, ReadNames, Take, Blocked, FindAgain, Settle, GiveBack, Run, Make, SyncNight, Unlink, RemoveNight}
use Rattle.night_steps.specs.declared.Op.TheVariants.{Commit, SyncCommit, Put, SyncPlaces, RemoveDone, SyncLast, Placed, Refused, Stopped}
use Rattle.night_steps.specs.Steps.{choice, next_op, events, walk, end}
use Rattle.night_steps.proofs.Ahead.{chosen}
use Rattle.night_steps.proofs.Held.{Held, held}
use Rattle.night_folders.specs.Folders.{Deed, ◌at◌, File, fresh, saved, Help, Disk, idle, call, put, fsync_commit, fsync_night, commit, create, write, fsync_file}
use Rattle.night_folders.specs.Rules.{asks}
use Rattle.night_folders.specs.Effects.{start, newcomers, nightly, recovery, each_from, writes_from, lawful, afterwards, step_of, allowed, forced, tests, changes, does, one, none}
use Rattle.night_folders.proofs.Beside.{inner, inners, outers, lawful_beside, allowed_beside}
use Rattle.night_folders.proofs.Every.{home_of, first, second, both}
use Rattle.night_folders.proofs.Ends.{Sized, start_sized, changes_sized, steps, done_step}

abbrev pub well : ℕ → Bool
well j = true

-- n operations, and then k
abbrev pub more : ℕ → ℕ → ℕ
more zero k = k
more (suc n) k = suc (more n k)

-- one file after the other, where all goes well: from the file i on, j files after it
module _ (n : ℕ) (own : Bool) where
  makes_on : (j i k : ℕ) → suc i + j ≡ n → (walk n (more (suc j) k) well own (Make i) ≡ writes_from i (suc j) (walk n k well own SyncNight))
      × (end n (more (suc j) k) well own (Make i) ≡ end n k well own SyncNight)
  makes_on zero i k e =
      let f = le-ltb (i + 1) n (omega arith) in
      (rw f refl, ap (λ (b : Bool). end n k well own (choice b (Make (i + 1)) SyncNight)) f)
  makes_on (suc j) i k e =
      let t = lt-ltb (i + 1) n (omega arith) in
      let r = makes_on j (i + 1) k (omega arith) in (
        rw t (ap (λ (ds : List Deed). create at one i ∷ write at one i ∷ fsync_file at one i ∷ ds)
            (r.0 ∙ ap (λ (x : ℕ). writes_from x (suc j) (walk n k well own SyncNight)) (add-one i))),
        ap (λ (b : Bool). end n (more (suc j) k) well own (choice b (Make (i + 1)) SyncNight)) t ∙ r.1,
      )

  puts_on : (j i k : ℕ) → suc i + j ≡ n → (walk n (more (suc j) k) well own (Put i) ≡ each_from i (suc j) put (walk n k well own SyncPlaces))
      × (end n (more (suc j) k) well own (Put i) ≡ end n k well own SyncPlaces)
  puts_on zero i k e =
      let f = le-ltb (i + 1) n (omega arith) in
      (rw f refl, ap (λ (b : Bool). end n k well own (choice b (Put (i + 1)) SyncPlaces)) f)
  puts_on (suc j) i k e =
      let t = lt-ltb (i + 1) n (omega arith) in
      let r = puts_on j (i + 1) k (omega arith) in (
        rw t (ap (λ (ds : List Deed). put at one i ∷ ds) (r.0 ∙ ap (λ (x : ℕ). each_from x (suc j) put (walk n k well own SyncPlaces)) (add-one i))),
        ap (λ (b : Bool). end n (more (suc j) k) well own (choice b (Put (i + 1)) SyncPlaces)) t ∙ r.1,
      )

-- how many operations a night of n files has
abbrev pub night_length : ℕ → ℕ
night_length n = suc (more n (suc (suc (suc (more n 3)))))

-- a night's operations are those of the theorems
pub night_in_order : (m : ℕ) → let n = suc m in (walk n (night_length n) well true Run ≡ nightly n) × (end n (night_length n) well true Run ≡ Placed)
night_in_order m =
    let n : ℕ = suc m in
    let h : suc 0 + m ≡ n = omega arith in
    let p = puts_on n true m 0 3 h in
    let q = makes_on n true m 0 (suc (suc (suc (more n 3)))) h in (
      q.0 ∙ ap (λ (ds : List Deed). writes_from 0 n (fsync_night at none ∷ commit at none ∷ fsync_commit at none ∷ ds)) p.0,
      q.1 ∙ p.1,
    )

-- STATE.done stands, and all else goes well: the theorems' recovery; then STATE.night is taken, and the night is to run
abbrev pub stands : ℕ → Bool
stands zero = false
stands (suc j) = true

abbrev pub recovery_length : ℕ → ℕ
recovery_length n = suc (suc (suc (more n 6)))

pub recovery_in_order : (m : ℕ) → let n = suc m in
    (walk n (recovery_length n) stands false Find ≡ recovery n) × (end n (recovery_length n) stands false Find ≡ Run)
recovery_in_order m =
    let n : ℕ = suc m in
    let p = puts_on n false m 0 6 (omega arith) in
    (ap (λ (ds : List Deed). call at none ∷ fsync_commit at none ∷ ds) p.0, p.1)

-- nothing stands: STATE.night is taken, and the night is to run
pub taken_in_order : (n : ℕ) → (walk n 4 well false Find ≡ []) × (end n 4 well false Find ≡ Run)
taken_in_order n = (refl, refl)

-- one list of events after another keeps to the rules if each does
both_lawful : (as' bs : List Deed) (w : Disk) → T (lawful as' w) → T (lawful bs (afterwards as' w)) → T (lawful (as' ++ bs) w)
both_lawful [] bs w s t = t
both_lawful (a ∷ as') bs w s t =
    both (allowed a w) (lawful (as' ++ bs) (step_of a w)) (first (allowed a w) (lawful as' (step_of a w)) s)
    (both_lawful as' bs (step_of a w) (second (allowed a w) (lawful as' (step_of a w)) s) t)

-- whichever way each operation goes, the events keep to the rules
either_way : (n k : ℕ) → 0 < n → (answers : ℕ → Bool) (own : Bool) (op : Op) (w : Disk) → Held n k own op w → T (lawful (walk n k answers own op) w)
either_way n zero c answers own op w h = tt
either_way n (suc k) c answers own op w h =
    let s = held n k c own (answers 0) op w h in
    let m : Op = next_op n op (answers 0) own in
    both_lawful (events op (answers 0)) (walk n k (λ j. answers (suc j)) own m) w s.0
    (either_way n k c (λ j. answers (suc j)) own m (afterwards (events op (answers 0)) w) s.1)

all_fresh : (n : ℕ) → T (steps fresh (newcomers n))
all_fresh zero = tt
all_fresh (suc n) = all_fresh n

-- whatever the system answers, a night's operations are allowed when their turn comes, however far it goes
pub night_lawful : (n k : ℕ) → 0 < n → (answers : ℕ → Bool) → T (lawful (walk n k answers true Run) (start n))
night_lawful n k c answers = either_way n k c answers true Run (start n) (tt, all_fresh n, start_sized n)

-- and those of a call that found STATE.done, until its own night is to run, whatever a crash has left of the files
abbrev found : Help → Bool → Bool → Bool → Bool → List File → Disk
found g x y d p fs = afterwards (events Find false) (record { home = home_of idle g x y true d p; files = fs })

asks_call : (fs : List File) → T (tests (asks call) none fs)
asks_call [] = tt
asks_call (f ∷ fs) = asks_call fs

all_saved : (fs : List File) → T (steps saved (changes (does call) none fs))
all_saved [] = tt
all_saved (f ∷ fs) = all_saved fs

pub recovery_lawful : (n k : ℕ) → 0 < n → k ≤ n + 8 → (answers : ℕ → Bool) (g : Help) (x y d p : Bool) (fs : List File) → Sized n fs
    → T (lawful (walk n k answers false ReadNames) (found g x y d p fs))
recovery_lawful n k c b answers g x y d p fs z =
    let w : Disk = record { home = home_of idle g x y true d p; files = fs } in
    either_way n k c answers false ReadNames (found g x y d p fs)
    (done_step (Held n k false ReadNames) (allowed (call at none) w) (forced (call at none) w) w (asks_call fs)
    (b, tt, all_saved fs, changes_sized n (does call) none fs z))

-- An operation fails. Before the commit: whatever the system answers to the clean-up, the call is refused with 34. From the commit on it stops.
module _ (n : ℕ) (own : Bool) where
  refused : (j k : ℕ) (answers : ℕ → Bool) → end n k answers own (Refused j) ≡ Refused j
  refused j zero answers = refl
  refused j (suc k) answers = refused j k (λ i. answers (suc i))

  stopped : (j k : ℕ) (answers : ℕ → Bool) → end n k answers own (Stopped j) ≡ Stopped j
  stopped j zero answers = refl
  stopped j (suc k) answers = stopped j k (λ i. answers (suc i))

  unlinks_on : (j i k : ℕ) (answers : ℕ → Bool) → suc i + j ≡ n → end n (more (suc j) (suc k)) answers own (Unlink i) ≡ Refused 34
  unlinks_on zero i k answers e =
      ap (λ (b : Bool). end n (suc k) (λ a. answers (suc a)) own (choice b (Unlink (i + 1)) RemoveNight)) (le-ltb (i + 1) n (omega arith))
      ∙ refused 34 k (λ a. answers (suc (suc a)))
  unlinks_on (suc j) i k answers e =
      ap (λ (b : Bool). end n (more (suc j) (suc k)) (λ a. answers (suc a)) own (choice b (Unlink (i + 1)) RemoveNight)) (lt-ltb (i + 1) n (omega arith))
      ∙ unlinks_on j (i + 1) k (λ a. answers (suc a)) (omega arith)

abbrev Ends : ℕ → ℕ → (ℕ → Bool) → Bool → Op → Op → Type 0
Ends n k answers own failed last = end n k answers own (next_op n failed false own) ≡ last

pub failed_before : (m k : ℕ) (answers : ℕ → Bool) (own : Bool) → let n = suc m in
    Ends n (more n (suc k)) answers own Run (Refused 34) × ((i : ℕ) → Ends n (more n (suc k)) answers own (Make i) (Refused 34))
    × Ends n (more n (suc k)) answers own SyncNight (Refused 34)
failed_before m k answers own =
    let n : ℕ = suc m in
    let u : end n (more n (suc k)) answers own (Unlink 0) ≡ Refused 34 = unlinks_on n own m 0 k answers (omega arith) in
    (refused n own 34 (more m (suc k)) (λ a. answers (suc a)), (λ i. u), u)

pub failed_from : (n k : ℕ) (answers : ℕ → Bool) (own : Bool) → Ends n k answers own Commit (Stopped 34) × Ends n k answers own SyncCommit (Stopped 34)
    × ((i : ℕ) → Ends n k answers own (Put i) (Stopped 34)) × Ends n k answers own SyncPlaces (Stopped 34) × Ends n k answers own RemoveDone (Stopped 34)
    × Ends n k answers own SyncLast (Stopped 34)
failed_from n k answers own = let s = stopped n own 34 k answers in (s, s, (λ i. s), s, s, s)

-- The same with what happens beside: the device gets anything unasked, and a second call works at what it found (night_folders' Beside). Find is the one
-- operation that goes by what it finds; it is the first, and none leads back to it.
abbrev under_way : Op → Bool
under_way Find = false
under_way ReadNames = true
under_way Take = true
under_way Blocked = true
under_way FindAgain = true
under_way Settle = true
under_way (GiveBack k) = true
under_way Run = true
under_way (Make i) = true
under_way SyncNight = true
under_way (Unlink i) = true
under_way RemoveNight = true
under_way Commit = true
under_way SyncCommit = true
under_way (Put i) = true
under_way SyncPlaces = true
under_way RemoveDone = true
under_way SyncLast = true
under_way Placed = true
under_way (Refused k) = true
under_way (Stopped k) = true

abbrev Goes : Op → Type 0
Goes op = T (under_way op)

goes_on_lem : (n : ℕ) (op : Op) (ok own : Bool) → T (under_way (next_op n op ok own))
goes_on_lem n Find ok own = chosen Goes ok (λ t. tt) (λ f. tt)
goes_on_lem n ReadNames ok own = chosen Goes ok (λ t. tt) (λ f. tt)
goes_on_lem n Take ok own = chosen Goes ok (λ t. tt) (λ f. tt)
goes_on_lem n Blocked ok own = chosen Goes ok (λ t. tt) (λ f. tt)
goes_on_lem n FindAgain ok own = chosen Goes ok (λ t. tt) (λ f. tt)
goes_on_lem n Settle ok own = chosen Goes ok (λ t. tt) (λ f. tt)
goes_on_lem n (GiveBack k) ok own = tt
goes_on_lem n Run ok own = chosen Goes ok (λ t. tt) (λ f. tt)
goes_on_lem n (Make i) ok own = chosen Goes ok (λ t. chosen Goes (ltb (i + 1) n) (λ t. tt) (λ f. tt)) (λ f. tt)
goes_on_lem n SyncNight ok own = chosen Goes ok (λ t. tt) (λ f. tt)
goes_on_lem n (Unlink i) ok own = chosen Goes (ltb (i + 1) n) (λ t. tt) (λ f. tt)
goes_on_lem n RemoveNight ok own = tt
goes_on_lem n Commit ok own = chosen Goes ok (λ t. tt) (λ f. tt)
goes_on_lem n SyncCommit ok own = chosen Goes ok (λ t. tt) (λ f. tt)
goes_on_lem n (Put i) ok own = chosen Goes ok (λ t. chosen Goes (ltb (i + 1) n) (λ t. tt) (λ f. tt)) (λ f. tt)
goes_on_lem n SyncPlaces ok own = chosen Goes ok (λ t. tt) (λ f. tt)
goes_on_lem n RemoveDone ok own = chosen Goes ok (λ t. tt) (λ f. tt)
goes_on_lem n SyncLast ok own = chosen Goes ok (λ t. chosen Goes own (λ t. tt) (λ f. tt)) (λ f. tt)
goes_on_lem n Placed ok own = tt
goes_on_lem n (Refused k) ok own = tt
goes_on_lem n (Stopped k) ok own = tt

events_inner : (op : Op) (ok : Bool) → T (under_way op) → T (inners (events op ok))
events_inner Find ok u = absurd u
events_inner ReadNames true u = tt
events_inner ReadNames false u = tt
events_inner Take ok u = tt
events_inner Blocked ok u = tt
events_inner FindAgain ok u = tt
events_inner Settle ok u = tt
events_inner (GiveBack k) ok u = tt
events_inner Run true u = tt
events_inner Run false u = tt
events_inner (Make i) true u = tt
events_inner (Make i) false u = tt
events_inner SyncNight true u = tt
events_inner SyncNight false u = tt
events_inner (Unlink i) ok u = tt
events_inner RemoveNight ok u = tt
events_inner Commit true u = tt
events_inner Commit false u = tt
events_inner SyncCommit true u = tt
events_inner SyncCommit false u = tt
events_inner (Put i) true u = tt
events_inner (Put i) false u = tt
events_inner SyncPlaces true u = tt
events_inner SyncPlaces false u = tt
events_inner RemoveDone true u = tt
events_inner RemoveDone false u = tt
events_inner SyncLast true u = tt
events_inner SyncLast false u = tt
events_inner Placed ok u = tt
events_inner (Refused k) ok u = tt
events_inner (Stopped k) ok u = tt

both_inner : (as' bs : List Deed) → T (inners as') → T (inners bs) → T (inners (as' ++ bs))
both_inner [] bs p q = q
both_inner (e at m ∷ as') bs p q = both (inner e) (inners (as' ++ bs)) (first (inner e) (inners as') p) (both_inner as' bs (second (inner e) (inners as') p) q)

walk_inner : (n k : ℕ) (answers : ℕ → Bool) (own : Bool) (op : Op) → T (under_way op) → T (inners (walk n k answers own op))
walk_inner n zero answers own op u = tt
walk_inner n (suc k) answers own op u =
    both_inner (events op (answers 0)) (walk n k (λ j. answers (suc j)) own (next_op n op (answers 0) own)) (events_inner op (answers 0) u)
    (walk_inner n k (λ j. answers (suc j)) own (next_op n op (answers 0) own) (goes_on_lem n op (answers 0) own))

pub night_beside : (n k : ℕ) → 0 < n → (answers : ℕ → Bool) (others : ℕ → List Deed) → ((j : ℕ) → T (outers (others j)))
    → T (lawful_beside others (walk n k answers true Run) (start n))
night_beside n k c answers others o =
    allowed_beside (walk n k answers true Run) (start n) others (walk_inner n k answers true Run tt) o (night_lawful n k c answers)

pub recovery_beside : (n k : ℕ) → 0 < n → k ≤ n + 8 → (answers : ℕ → Bool) (others : ℕ → List Deed) → ((j : ℕ) → T (outers (others j)))
    → (g : Help) (x y d p : Bool) (fs : List File) → Sized n fs → T (lawful_beside others (walk n k answers false ReadNames) (found g x y d p fs))
recovery_beside n k c b answers others o g x y d p fs z =
    allowed_beside (walk n k answers false ReadNames) (found g x y d p fs) others (walk_inner n k answers false ReadNames tt) o
    (recovery_lawful n k c b answers g x y d p fs z)
