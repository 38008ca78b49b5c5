-- A call that finds STATE.done and is left to itself ends with STATE.done removed: for any number of files. Assumes nothing.
use mathlib.Core.Path.{◌≡◌, refl, sym, ap, subst, ◌∙◌}
use mathlib.Core.Bool.{Bool, true, false, not, ◌&&◌, ◌||◌, cond}
use mathlib.Core.List.{List, [], ◌∷◌}
use Prim.Native.Nat.{ℕ, zero, suc}
use lib.Dec.{T}
use Rattle.night_folders.specs.Folders.{Step, saved, moved, idle, placing, clearing, Help, off, File, Home, Disk, Happening, call, fsync_commit}
use Rattle.night_folders.specs.Folders.{put, fsync_place, rmdir_done, fsync_last, kill, also_kill, cut, Deed, ◌at◌}
use Rattle.night_folders.specs.Rules.{is_step, may, asks}
use Rattle.night_folders.specs.Effects.{all, does, tests, changes, allowed, forced, step_of, afterwards, newcomers, one, none, each_from, recovery}
use Rattle.night_folders.proofs.Every.{home_of, first, second, both}

-- n files stay n files
abbrev pub Sized : ℕ → List File → Type 0
Sized zero [] = Unit
Sized zero (f ∷ fs) = ⊥
Sized (suc n) [] = ⊥
Sized (suc n) (f ∷ fs) = Sized n fs

pub start_sized : (n : ℕ) → Sized n (newcomers n)
start_sized zero = tt
start_sized (suc n) = start_sized n

pub changes_sized : (n : ℕ) (c : Bool → File → File) (m : ℕ → Bool) (fs : List File) → Sized n fs → Sized n (changes c m fs)
changes_sized zero c m [] s = s
changes_sized zero c m (f ∷ fs) s = absurd s
changes_sized (suc n) c m [] s = s
changes_sized (suc n) c m (f ∷ fs) s = changes_sized n c (λ k. m (suc k)) fs s

step_sized : (n : ℕ) (a : Deed) (w : Disk) → Sized n w.files → Sized n (step_of a w).files
step_sized n (e at m) w s = go (allowed (e at m) w)
  where
    go : (b : Bool) → Sized n (cond b (forced (e at m) w) w).files
    go false = s
    go true = changes_sized n (does e) m w.files s

pub after_sized : (n : ℕ) (as' : List Deed) (w : Disk) → Sized n w.files → Sized n (afterwards as' w).files
after_sized n [] w s = s
after_sized n (a ∷ as') w s = after_sized n as' (step_of a w) (step_sized n a w s)

-- all files are at one step; the first i are at t and the others at s
abbrev pub steps : Step → List File → Bool
steps s [] = true
steps s (f ∷ fs) = is_step s f && steps s fs

abbrev pub halfway : ℕ → Step → Step → List File → Bool
halfway zero s t fs = steps s fs
halfway (suc i) s t [] = true
halfway (suc i) s t (f ∷ fs) = is_step t f && halfway i s t fs

pub all_way : (n : ℕ) (s t : Step) (fs : List File) → Sized n fs → T (halfway n s t fs) → T (steps t fs)
all_way zero s t [] z h = tt
all_way zero s t (f ∷ fs) z h = absurd z
all_way (suc n) s t [] z h = tt
all_way (suc n) s t (f ∷ fs) z h =
    both (is_step t f) (steps t fs) (first (is_step t f) (halfway n s t fs) h) (all_way n s t fs z (second (is_step t f) (halfway n s t fs) h))

abbrev up : ℕ → ℕ → ℕ
up i zero = i
up i (suc k) = up (suc i) k

up_suc : (k i : ℕ) → up (suc i) k ≡ suc (up i k)
up_suc zero i = refl
up_suc (suc k) i = up_suc k (suc i)

up_zero : (n : ℕ) → up 0 n ≡ n
up_zero zero = refl
up_zero (suc n) = up_suc n 0 ∙ ap suc (up_zero n)

-- what holds where an allowed event is done holds after the step
pub done_step : (Q : Disk → Type 0) (b : Bool) (x y : Disk) → T b → Q x → Q (cond b x y)
done_step Q true x y t q = q
done_step Q false x y t q = absurd t

abbrev at_disk : Home → List File → Disk
at_disk h fs = record { home = h; files = fs }

-- each file is put in place in its turn
others_ask : (fs : List File) → T (tests (asks put) none fs)
others_ask [] = tt
others_ask (f ∷ fs) = others_ask fs

others_same : (fs : List File) → changes (does put) none fs ≡ fs
others_same [] = refl
others_same (f ∷ fs) = ap (λ gs. f ∷ gs) (others_same fs)

turn_asks : (i : ℕ) (fs : List File) → T (halfway i saved moved fs) → T (tests (asks put) (one i) fs)
turn_asks zero [] h = tt
turn_asks zero (f ∷ fs) h = both (is_step saved f) (tests (asks put) none fs) (first (is_step saved f) (steps saved fs) h) (others_ask fs)
turn_asks (suc i) [] h = tt
turn_asks (suc i) (f ∷ fs) h = turn_asks i fs (second (is_step moved f) (halfway i saved moved fs) h)

turn_does : (i : ℕ) (fs : List File) → T (halfway i saved moved fs) → T (halfway (suc i) saved moved (changes (does put) (one i) fs))
turn_does zero [] h = tt
turn_does zero (f ∷ fs) h = subst (λ gs. T (steps saved gs)) (sym (others_same fs)) (second (is_step saved f) (steps saved fs) h)
turn_does (suc i) [] h = tt
turn_does (suc i) (f ∷ fs) h =
    both (is_step moved f) (halfway (suc i) saved moved (changes (does put) (one i) fs)) (first (is_step moved f) (halfway i saved moved fs) h)
    (turn_does i fs (second (is_step moved f) (halfway i saved moved fs) h))

sweep : (Q : Disk → Type 0) (n : ℕ) (h : Home) (r : List Deed) → T (may put h) → (k i : ℕ)
    → ((fs : List File) → Sized n fs → T (halfway (up i k) saved moved fs) → Q (afterwards r (at_disk h fs)))
    → (fs : List File) → Sized n fs → T (halfway i saved moved fs) → Q (afterwards (each_from i k put r) (at_disk h fs))
sweep Q n h r m zero i q fs z w = q fs z w
sweep Q n h r m (suc k) i q fs z w =
    done_step (λ x. Q (afterwards (each_from (suc i) k put r) x)) (allowed (put at one i) (at_disk h fs)) (forced (put at one i) (at_disk h fs)) (at_disk h fs)
    (both (may put h) (tests (asks put) (one i) fs) m (turn_asks i fs w))
    (sweep Q n h r m k (suc i) q (changes (does put) (one i) fs) (changes_sized n (does put) (one i) fs z) (turn_does i fs w))

-- events that ask nothing of any file
asks_none : (e : Happening) → ((f : File) → T (asks e false f)) → (fs : List File) → T (tests (asks e) none fs)
asks_none e a [] = tt
asks_none e a (f ∷ fs) = both (asks e false f) (tests (asks e) none fs) (a f) (asks_none e a fs)

all_saved : (fs : List File) → T (steps saved (changes (does call) none fs))
all_saved [] = tt
all_saved (f ∷ fs) = all_saved fs

same_files : (fs : List File) → changes (does fsync_commit) none fs ≡ fs
same_files [] = refl
same_files (f ∷ fs) = ap (λ gs. f ∷ gs) (same_files fs)

all_moved : (fs : List File) → T (steps moved fs) → T (tests (asks fsync_place) all fs)
all_moved [] h = tt
all_moved (f ∷ fs) h = both (is_step moved f) (tests (asks fsync_place) all fs) (first (is_step moved f) (steps moved fs) h)
    (all_moved fs (second (is_step moved f) (steps moved fs) h))

all_down : (fs : List File) → T (tests (asks rmdir_done) none (changes (does fsync_place) all fs))
all_down [] = tt
all_down (f ∷ fs) = all_down fs

abbrev Gone : Disk → Type 0
Gone w = T (not w.home.done)

abbrev last : List Deed
last = fsync_place at all ∷ rmdir_done at none ∷ fsync_last at none ∷ []

-- from where the files are to be put in place
placing_ends : (n : ℕ) (g : Help) (x y : Bool) (fs : List File) → Sized n fs → T (steps saved fs)
    → Gone (afterwards (each_from 0 n put last) (at_disk (home_of placing g x x true true y) fs))
placing_ends n g x y fs z w =
    sweep Gone n h last tt n 0 (λ gs zg wg. synced gs (all_way n saved moved gs zg (subst (λ i. T (halfway i saved moved gs)) (up_zero n) wg))) fs z w
  where
    h : Home
    h = home_of placing g x x true true y

    last_gone : (ds : List File) → Gone (afterwards (fsync_last at none ∷ []) (at_disk (home_of clearing g x x false true y) ds))
    last_gone ds =
        let v : Disk = at_disk (home_of clearing g x x false true y) ds in
        done_step Gone (allowed (fsync_last at none) v) (forced (fsync_last at none) v) v (asks_none fsync_last (λ f. tt) ds) tt

    synced : (gs : List File) → T (steps moved gs) → Gone (afterwards last (at_disk (home_of placing g x x true true y) gs))
    synced gs m =
        let v : Disk = at_disk (home_of placing g x x true true y) gs in
        let ds : List File = changes (does fsync_place) all gs in
        let u : Disk = at_disk (home_of placing g x x true true y) ds in
        done_step (λ k. Gone (afterwards (rmdir_done at none ∷ fsync_last at none ∷ []) k)) (allowed (fsync_place at all) v) u v (all_moved gs m)
        (done_step (λ k. Gone (afterwards (fsync_last at none ∷ []) k)) (allowed (rmdir_done at none) u) (forced (rmdir_done at none) u) u (all_down gs)
        (last_gone (changes (does rmdir_done) none ds)))

-- where STATE.done does not stand, the operations are passed over
abbrev to_idle : Home → Home
to_idle h = home_of idle h.help h.night h.night_down false h.done_down h.past

passed_put : (k i : ℕ) (h : Home) (fs : List File) (r : List Deed) → Gone (afterwards r (at_disk (to_idle h) fs)) → Gone (afterwards (each_from i k put r) (at_disk (to_idle h) fs))
passed_put zero i h fs r q = q
passed_put (suc k) i h fs r q = passed_put k (suc i) h fs r q

-- a call that is left to itself
call_ends : (n : ℕ) (g : Help) (x y q r p : Bool) (fs : List File) → Sized n fs
    → Gone (afterwards (recovery n) (at_disk (home_of idle g x y q r p) fs))
call_ends n g x y false r p fs z =
    let h : Home = home_of idle g x y false r p in
    passed_put n 0 h fs last tt
call_ends n g x y true r p fs z =
    let h : Home = home_of idle g x y true r p in
    let ops : List Deed = each_from 0 n put last in
    let cs : List File = changes (does call) none fs in
    let v : Disk = forced (call at none) (at_disk h fs) in
    done_step (λ u. Gone (afterwards (fsync_commit at none ∷ ops) u)) (allowed (call at none) (at_disk h fs)) v (at_disk h fs) (asks_none call (λ f. tt) fs)
    (done_step (λ u. Gone (afterwards ops u)) (allowed (fsync_commit at none) v) (forced (fsync_commit at none) v) v (asks_none fsync_commit (λ f. tt) cs)
    (placing_ends n g x (p || true) (changes (does fsync_commit) none cs)
    (changes_sized n (does fsync_commit) none cs (changes_sized n (does call) none fs z))
    (subst (λ gs. T (steps saved gs)) (sym (same_files cs)) (all_saved fs))))

-- the power is cut, or all calls are killed; then one call is left to itself
abbrev pub cut_then_call : ℕ → List Deed
cut_then_call n = cut at none ∷ recovery n

abbrev pub kill_then_call : ℕ → List Deed
kill_then_call n = kill at none ∷ also_kill at none ∷ recovery n

pub cut_ends : (n : ℕ) (w : Disk) → Sized n w.files → Gone (afterwards (cut_then_call n) w)
cut_ends n w z =
    let h = w.home in
    done_step (λ u. Gone (afterwards (recovery n) u)) (allowed (cut at none) w) (forced (cut at none) w) w (asks_none cut (λ f. tt) w.files)
    (call_ends n off h.night_down h.night_down h.done_down h.done_down h.past (changes (does cut) none w.files)
    (changes_sized n (does cut) none w.files z))

pub kill_ends : (n : ℕ) (w : Disk) → Sized n w.files → Gone (afterwards (kill_then_call n) w)
kill_ends n w z =
    let h = w.home in
    let v : Disk = forced (kill at none) w in
    done_step (λ u. Gone (afterwards (also_kill at none ∷ recovery n) u)) (allowed (kill at none) w) v w (asks_none kill (λ f. tt) w.files)
    (done_step (λ u. Gone (afterwards (recovery n) u)) (allowed (also_kill at none) v) (forced (also_kill at none) v) v (asks_none also_kill (λ f. tt) v.files)
    (call_ends n off h.night h.night_down h.done h.done_down h.past (changes (does also_kill) none v.files)
    (changes_sized n (does also_kill) none v.files (changes_sized n (does kill) none w.files z))))
