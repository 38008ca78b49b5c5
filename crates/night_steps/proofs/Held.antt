-- What holds when an operation's turn comes, in a night of n files: its events are then allowed, and it holds for the next operation whatever the
-- system answers. Assumes nothing.
use Prim.Native.Nat.{ℕ, zero, suc, ◌+◌, ◌-◌, ◌≤◌, ◌<◌}
use native.Mathlib.Numerals.{add-one}
use native.Mathlib.Omega.{arith}
use mathlib.Core.Path.{◌≡◌, refl, sym, subst}
use mathlib.Core.Bool.{Bool, true, false, ◌&&◌}
use mathlib.Core.List.{List, [], ◌∷◌}
use lib.Dec.{T, ltb}
use borrow.Author.Tests.{ltb-true, ltb-false}
use Rattle.night_steps.specs.declared.Op.{Op}
use Rattle.night_steps.specs.declared.Op.TheVariants.{Find, ReadNames, Take, Blocked, FindAgain, Settle, GiveBack, Run, Make, SyncNight, Unlink, RemoveNight}
use Rattle.night_steps.specs.declared.Op.TheVariants.{Commit, SyncCommit, Put, SyncPlaces, RemoveDone, SyncLast, Placed, Refused, Stopped}
use Rattle.night_steps.specs.Steps.{choice, next_op, events}
use Rattle.night_folders.specs.Folders.{Step, fresh, made, written, saved, moved, down, making, sealed, decided, placing, clearing, undoing, File, Disk, Happening}
use Rattle.night_folders.specs.Folders.{create, write, fsync_file, fsync_night, commit, fsync_commit, put, fsync_place, rmdir_done, fsync_last, fail, unlink, rmdir_night, kill, Deed, ◌at◌}
use Rattle.night_folders.specs.Rules.{is_phase, is_step, may, asks}
use Rattle.night_folders.specs.Effects.{does, tests, changes, allowed, forced, step_of, afterwards, lawful, one, none, all}
use Rattle.night_folders.proofs.Every.{first, second, both}
use Rattle.night_folders.proofs.Ends.{Sized, changes_sized, steps, halfway, all_way, done_step}

-- the rule at every file
all_ask : (e : Happening) (m : ℕ → Bool) (s : Step) → ((j : ℕ) (f : File) → T (is_step s f) → T (asks e (m j) f)) → (fs : List File) → T (steps s fs)
    → T (tests (asks e) m fs)
all_ask e m s a [] t = tt
all_ask e m s a (f ∷ fs) t =
    both (asks e (m 0) f) (tests (asks e) (λ k. m (suc k)) fs) (a 0 f (first (is_step s f) (steps s fs) t))
    (all_ask e (λ k. m (suc k)) s (λ j. a (suc j)) fs (second (is_step s f) (steps s fs) t))

free : (e : Happening) (m : ℕ → Bool) → ((j : ℕ) (f : File) → T (asks e (m j) f)) → (fs : List File) → T (tests (asks e) m fs)
free e m a [] = tt
free e m a (f ∷ fs) = both (asks e (m 0) f) (tests (asks e) (λ k. m (suc k)) fs) (a 0 f) (free e (λ k. m (suc k)) (λ j. a (suc j)) fs)

-- every file comes from one step to another
all_come : (e : Happening) (m : ℕ → Bool) (s t : Step) → ((j : ℕ) (f : File) → T (is_step s f) → T (is_step t (does e (m j) f)))
    → (fs : List File) → T (steps s fs) → T (steps t (changes (does e) m fs))
all_come e m s t d [] h = tt
all_come e m s t d (f ∷ fs) h =
    both (is_step t (does e (m 0) f)) (steps t (changes (does e) (λ k. m (suc k)) fs)) (d 0 f (first (is_step s f) (steps s fs) h))
    (all_come e (λ k. m (suc k)) s t (λ j. d (suc j)) fs (second (is_step s f) (steps s fs) h))

-- the first i files are at t, the next at u, the others at s
abbrev midway : ℕ → Step → Step → Step → List File → Bool
midway zero u s t [] = true
midway zero u s t (f ∷ fs) = is_step u f && steps s fs
midway (suc i) u s t [] = true
midway (suc i) u s t (f ∷ fs) = is_step t f && midway i u s t fs

from_half : (i : ℕ) (s t : Step) (fs : List File) → T (halfway i s t fs) → T (midway i s s t fs)
from_half zero s t [] h = tt
from_half zero s t (f ∷ fs) h = h
from_half (suc i) s t [] h = tt
from_half (suc i) s t (f ∷ fs) h =
    both (is_step t f) (midway i s s t fs) (first (is_step t f) (halfway i s t fs) h) (from_half i s t fs (second (is_step t f) (halfway i s t fs) h))

to_half : (i : ℕ) (s t : Step) (fs : List File) → T (midway i t s t fs) → T (halfway (suc i) s t fs)
to_half zero s t [] h = tt
to_half zero s t (f ∷ fs) h = h
to_half (suc i) s t [] h = tt
to_half (suc i) s t (f ∷ fs) h =
    both (is_step t f) (halfway (suc i) s t fs) (first (is_step t f) (midway i t s t fs) h) (to_half i s t fs (second (is_step t f) (midway i t s t fs) h))

-- an event about the file i alone, which brings it from u to v
mid_ask : (e : Happening) (u s t : Step) → ((f : File) → T (is_step u f) → T (asks e true f)) → ((f : File) → T (asks e false f))
    → (i : ℕ) (fs : List File) → T (midway i u s t fs) → T (tests (asks e) (one i) fs)
mid_ask e u s t a b zero [] h = tt
mid_ask e u s t a b zero (f ∷ fs) h =
    both (asks e true f) (tests (asks e) none fs) (a f (first (is_step u f) (steps s fs) h)) (free e none (λ j g. b g) fs)
mid_ask e u s t a b (suc i) [] h = tt
mid_ask e u s t a b (suc i) (f ∷ fs) h =
    both (asks e false f) (tests (asks e) (one i) fs) (b f) (mid_ask e u s t a b i fs (second (is_step t f) (midway i u s t fs) h))

mid_come : (e : Happening) (u v s t : Step) → ((f : File) → T (is_step v (does e true f))) → ((r : Step) (f : File) → T (is_step r f) → T (is_step r (does e false f)))
    → (i : ℕ) (fs : List File) → T (midway i u s t fs) → T (midway i v s t (changes (does e) (one i) fs))
mid_come e u v s t d k zero [] h = tt
mid_come e u v s t d k zero (f ∷ fs) h =
    both (is_step v (does e true f)) (steps s (changes (does e) none fs)) (d f) (all_come e none s s (λ j. k s) fs (second (is_step u f) (steps s fs) h))
mid_come e u v s t d k (suc i) [] h = tt
mid_come e u v s t d k (suc i) (f ∷ fs) h =
    both (is_step t (does e false f)) (midway i v s t (changes (does e) (one i) fs)) (k t f (first (is_step t f) (midway i u s t fs) h))
    (mid_come e u v s t d k i fs (second (is_step t f) (midway i u s t fs) h))

-- an event that is allowed, and what follows it
follows : (Q : Disk → Type 0) (a : Deed) (as' : List Deed) (w : Disk) → T (allowed a w) → T (lawful as' (forced a w)) × Q (afterwards as' (forced a w))
    → T (lawful (a ∷ as') w) × Q (afterwards (a ∷ as') w)
follows Q a as' w p r =
    let s = done_step (λ x. T (lawful as' x) × Q (afterwards as' x)) (allowed a w) (forced a w) w p r in
    (both (allowed a w) (lawful as' (step_of a w)) p s.0, s.1)

-- A call that puts another's night in place is followed for so many operations, up to its own run; one that has begun its own, to the end.
abbrev Within : Bool → ℕ → ℕ → Type 0
Within true k b = Unit
Within false k b = k ≤ b

abbrev Only : Bool → ℕ → ℕ → Type 0
Only true k b = ⊥
Only false k b = k ≤ b

within : (own : Bool) (k b d : ℕ) → b ≤ d + 1 → Within own (suc k) b → Within own k d
within true k b d h g = tt
within false k b d h g = let e = add-one k in omega arith

only : (own : Bool) (k b d : ℕ) → b ≤ d + 1 → Only own (suc k) b → Only own k d
only true k b d h g = g
only false k b d h g = let e = add-one k in omega arith

owned : (own : Bool) (k b : ℕ) → T own → Within own k b
owned true k b t = tt
owned false k b t = absurd t

-- what holds of the names and the files before an operation, k operations being still to come
abbrev pub Held : ℕ → ℕ → Bool → Op → Disk → Type 0
Held n k own Find w = ⊥
Held n k own ReadNames w = Within own k (n + 8) × T (is_phase decided w.home) × T (steps saved w.files) × Sized n w.files
Held n k own Take w = Only own k 3
Held n k own Blocked w = Unit
Held n k own FindAgain w = Only own k 2
Held n k own Settle w = Only own k 1
Held n k own (GiveBack j) w = Unit
Held n k true Run w = T (is_phase making w.home) × T (steps fresh w.files) × Sized n w.files
Held n k false Run w = k ≤ 0
Held n k own (Make i) w = T own × (i < n) × T (is_phase making w.home) × T (halfway i fresh saved w.files) × Sized n w.files
Held n k own SyncNight w = T own × T (is_phase making w.home) × T (steps saved w.files) × Sized n w.files
Held n k own (Unlink i) w = T (is_phase undoing w.home)
Held n k own RemoveNight w = T (is_phase undoing w.home)
Held n k own Commit w = T own × T (is_phase sealed w.home) × T (steps saved w.files) × Sized n w.files
Held n k own SyncCommit w = Within own k (n + 7) × T (is_phase decided w.home) × T (steps saved w.files) × Sized n w.files
Held n k own (Put i) w = Within own k (n - i + 6) × (i < n) × T (is_phase placing w.home) × T (halfway i saved moved w.files) × Sized n w.files
Held n k own SyncPlaces w = Within own k 6 × T (is_phase placing w.home) × T (steps moved w.files)
Held n k own RemoveDone w = Within own k 5 × T (is_phase placing w.home) × T (steps down w.files)
Held n k own SyncLast w = Within own k 4 × T (is_phase clearing w.home)
Held n k own Placed w = Unit
Held n k own (Refused j) w = Unit
Held n k own (Stopped j) w = Unit

-- the next file, or what follows the last
next_file : (P : Op → Type 0) (n i : ℕ) (x y : Op) → (i + 1 < n → P x) → (n ≤ i + 1 → P y) → P (choice (ltb (i + 1) n) x y)
next_file P n i x y p q = go (ltb (i + 1) n) refl
  where
    go : (b : Bool) → ltb (i + 1) n ≡ b → P (choice b x y)
    go true e = p (ltb-true (i + 1) n e)
    go false e = q (ltb-false (i + 1) n e)

-- so many files have had their turn: the next one's, or all of them
one_more : (i : ℕ) (s t : Step) (fs : List File) → T (midway i t s t fs) → T (halfway (i + 1) s t fs)
one_more i s t fs h = subst (λ (j : ℕ). T (halfway j s t fs)) (sym (add-one i)) (to_half i s t fs h)

all_done : (n i : ℕ) (s t : Step) (fs : List File) → i < n → n ≤ i + 1 → Sized n fs → T (midway i t s t fs) → T (steps t fs)
all_done n i s t fs l g z h =
    let e : i + 1 ≡ n = omega arith in
    all_way n s t fs z (subst (λ (j : ℕ). T (halfway j s t fs)) e (one_more i s t fs h))

-- the call stops, or begins its clean-up
stops : (w : Disk) → T (lawful (kill at none ∷ []) w) × Unit {0}
stops w = follows (λ x. Unit {0}) (kill at none) [] w (free kill none (λ j f. tt) w.files) (tt, tt)

undone : (w : Disk) → T (is_phase making w.home) → T (lawful (fail at none ∷ []) w) × T (is_phase undoing (afterwards (fail at none ∷ []) w).home)
undone w p =
    follows (λ x. T (is_phase undoing x.home)) (fail at none) [] w
    (both (may fail w.home) (tests (asks fail) none w.files) p (free fail none (λ j f. tt) w.files)) (tt, tt)

-- a file is made
makes : (n k i : ℕ) (own ok : Bool) (w : Disk) → Held n (suc k) own (Make i) w
    → T (lawful (events (Make i) ok) w) × Held n k own (next_op n (Make i) ok own) (afterwards (events (Make i) ok) w)
makes n k i own true w (o, l, p, h, z) =
    let Q = Held n k own (next_op n (Make i) true own) in
    let f₀ : List File = w.files in
    let f₁ : List File = changes (does create) (one i) f₀ in
    let f₂ : List File = changes (does write) (one i) f₁ in
    let f₃ : List File = changes (does fsync_file) (one i) f₂ in
    let h₀ = from_half i fresh saved f₀ h in
    let h₁ = mid_come create fresh made fresh saved (λ f. tt) (λ r f t. t) i f₀ h₀ in
    let h₂ = mid_come write made written fresh saved (λ f. tt) (λ r f t. t) i f₁ h₁ in
    let h₃ = mid_come fsync_file written saved fresh saved (λ f. tt) (λ r f t. t) i f₂ h₂ in
    let z₃ = changes_sized n (does fsync_file) (one i) f₂ (changes_sized n (does write) (one i) f₁ (changes_sized n (does create) (one i) f₀ z)) in
    let w₁ : Disk = forced (create at one i) w in
    let w₂ : Disk = forced (write at one i) w₁ in
    let w₃ : Disk = forced (fsync_file at one i) w₂ in
    follows Q (create at one i) (write at one i ∷ fsync_file at one i ∷ []) w
    (both (may create w.home) (tests (asks create) (one i) f₀) p (mid_ask create fresh fresh saved (λ f t. t) (λ f. tt) i f₀ h₀))
    (follows Q (write at one i) (fsync_file at one i ∷ []) w₁
    (both (may write w.home) (tests (asks write) (one i) f₁) p (mid_ask write made fresh saved (λ f t. t) (λ f. tt) i f₁ h₁))
    (follows Q (fsync_file at one i) [] w₂
    (both (may fsync_file w.home) (tests (asks fsync_file) (one i) f₂) p (mid_ask fsync_file written fresh saved (λ f t. t) (λ f. tt) i f₂ h₂)) (
      tt,
      next_file (λ op. Held n k own op w₃) n i (Make (i + 1)) SyncNight (λ g. (o, g, p, one_more i fresh saved f₃ h₃, z₃))
          (λ g. (o, p, all_done n i fresh saved f₃ l g z₃ h₃, z₃)),
    )))
makes n k i own false w (o, l, p, h, z) =
    let h₀ = from_half i fresh saved w.files h in
    follows (Held n k own (Unlink 0)) (create at one i) (fail at none ∷ []) w
    (both (may create w.home) (tests (asks create) (one i) w.files) p (mid_ask create fresh fresh saved (λ f t. t) (λ f. tt) i w.files h₀))
    (undone (forced (create at one i) w) p)

-- a file is put in place
puts : (n k i : ℕ) (own : Bool) (w : Disk) → Held n (suc k) own (Put i) w
    → T (lawful (events (Put i) true) w) × Held n k own (next_op n (Put i) true own) (afterwards (events (Put i) true) w)
puts n k i own w (b, l, p, h, z) =
    let f₀ : List File = w.files in
    let f₁ : List File = changes (does put) (one i) f₀ in
    let h₀ = from_half i saved moved f₀ h in
    let h₁ = mid_come put saved moved saved moved (λ f. tt) (λ r f t. t) i f₀ h₀ in
    let z₁ = changes_sized n (does put) (one i) f₀ z in
    let w₁ : Disk = forced (put at one i) w in
    follows (Held n k own (next_op n (Put i) true own)) (put at one i) [] w
    (both (may put w.home) (tests (asks put) (one i) f₀) p (mid_ask put saved saved moved (λ f t. t) (λ f. tt) i f₀ h₀)) (
      tt,
      next_file (λ op. Held n k own op w₁) n i (Put (i + 1)) SyncPlaces
          (λ g. (within own k (n - i + 6) (n - (i + 1) + 6) (omega arith) b, g, p, one_more i saved moved f₁ h₁, z₁))
          (λ g. (within own k (n - i + 6) 6 (omega arith) b, p, all_done n i saved moved f₁ l g z₁ h₁)),
    )

-- one operation, whatever the answer
pub held : (n k : ℕ) → 0 < n → (own ok : Bool) (op : Op) (w : Disk) → Held n (suc k) own op w
    → T (lawful (events op ok) w) × Held n k own (next_op n op ok own) (afterwards (events op ok) w)
held n k c own ok Find w h = absurd h
held n k c own true ReadNames w (b, p, s, z) = (tt, (within own k (n + 8) (n + 7) (omega arith) b, p, s, z))
held n k c own false ReadNames w h = stops w
held n k c own true Take w h = (tt, only own k 3 2 (omega arith) h)
held n k c own false Take w h = (tt, tt)
held n k c own true Blocked w h = (tt, tt)
held n k c own false Blocked w h = (tt, tt)
held n k c own true FindAgain w h = (tt, only own k 2 1 (omega arith) h)
held n k c own false FindAgain w h = (tt, tt)
held n k c true true Settle w h = absurd h
held n k c false true Settle w h = (tt, only false k 1 0 (omega arith) h)
held n k c own false Settle w h = (tt, tt)
held n k c own ok (GiveBack j) w h = (tt, tt)
held n k c false ok Run w h = absurd (none_left h)
  where
    none_left : suc k ≤ 0 → ⊥
    none_left g = omega arith
held n k c true true Run w (p, s, z) = (tt, (tt, c, p, s, z))
held n k c true false Run w (p, s, z) = undone w p
held n k c own ok (Make i) w h = makes n k i own ok w h
held n k c own true SyncNight w (o, p, s, z) =
    follows (Held n k own Commit) (fsync_night at none) [] w
    (both (may fsync_night w.home) (tests (asks fsync_night) none w.files) p (all_ask fsync_night none saved (λ j f t. t) w.files s))
    (tt, (o, tt, all_come fsync_night none saved saved (λ j f t. t) w.files s, changes_sized n (does fsync_night) none w.files z))
held n k c own false SyncNight w (o, p, s, z) = undone w p
held n k c own ok (Unlink i) w h =
    follows (Held n k own (next_op n (Unlink i) ok own)) (unlink at one i) [] w
    (both (may unlink w.home) (tests (asks unlink) (one i) w.files) h (free unlink (one i) (λ j f. tt) w.files))
    (tt, next_file (λ op. Held n k own op (forced (unlink at one i) w)) n i (Unlink (i + 1)) RemoveNight (λ g. h) (λ g. h))
held n k c own ok RemoveNight w h =
    follows (λ x. Unit {0}) (rmdir_night at none) [] w
    (both (may rmdir_night w.home) (tests (asks rmdir_night) none w.files) h (free rmdir_night none (λ j f. tt) w.files)) (tt, tt)
held n k c own true Commit w (o, p, s, z) =
    follows (Held n k own SyncCommit) (commit at none) [] w
    (both (may commit w.home) (tests (asks commit) none w.files) p (free commit none (λ j f. tt) w.files))
    (tt, (owned own k (n + 7) o, tt, all_come commit none saved saved (λ j f t. t) w.files s, changes_sized n (does commit) none w.files z))
held n k c own false Commit w h = stops w
held n k c own true SyncCommit w (b, p, s, z) =
    follows (Held n k own (Put 0)) (fsync_commit at none) [] w
    (both (may fsync_commit w.home) (tests (asks fsync_commit) none w.files) p (free fsync_commit none (λ j f. tt) w.files))
    (tt, (within own k (n + 7) (n - 0 + 6) (omega arith) b, c, tt, all_come fsync_commit none saved saved (λ j f t. t) w.files s, changes_sized n (does fsync_commit) none w.files z))
held n k c own false SyncCommit w h = stops w
held n k c own true (Put i) w h = puts n k i own w h
held n k c own false (Put i) w h = stops w
held n k c own true SyncPlaces w (b, p, s) =
    follows (Held n k own RemoveDone) (fsync_place at all) [] w
    (both (may fsync_place w.home) (tests (asks fsync_place) all w.files) p (all_ask fsync_place all moved (λ j f t. t) w.files s))
    (tt, (within own k 6 5 (omega arith) b, p, all_come fsync_place all moved down (λ j f t. tt) w.files s))
held n k c own false SyncPlaces w h = stops w
held n k c own true RemoveDone w (b, p, s) =
    follows (Held n k own SyncLast) (rmdir_done at none) [] w
    (both (may rmdir_done w.home) (tests (asks rmdir_done) none w.files) p (all_ask rmdir_done none down (λ j f t. t) w.files s))
    (tt, (within own k 5 4 (omega arith) b, tt))
held n k c own false RemoveDone w h = stops w
held n k c true true SyncLast w (b, p) =
    follows (λ x. Unit {0}) (fsync_last at none) [] w
    (both (may fsync_last w.home) (tests (asks fsync_last) none w.files) p (free fsync_last none (λ j f. tt) w.files)) (tt, tt)
held n k c false true SyncLast w (b, p) =
    follows (λ x. k ≤ 3) (fsync_last at none) [] w
    (both (may fsync_last w.home) (tests (asks fsync_last) none w.files) p (free fsync_last none (λ j f. tt) w.files))
    (tt, only false k 4 3 (omega arith) b)
held n k c own false SyncLast w h = stops w
held n k c own ok Placed w h = (tt, tt)
held n k c own ok (Refused j) w h = (tt, tt)
held n k c own ok (Stopped j) w h = (tt, tt)
