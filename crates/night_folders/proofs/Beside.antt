-- What the device gets unasked, and what a second call does, takes no operation from the running call: what it may do goes by its own memory alone, which
-- these events leave as it is. Assumes nothing.
use mathlib.Core.Path.{◌≡◌, refl, sym, ap, subst, ◌∙◌}
use mathlib.Core.Bool.{Bool, true, false, ◌&&◌, cond}
use mathlib.Core.List.{List, [], ◌∷◌}
use Prim.Native.Nat.{ℕ, suc}
use lib.Dec.{T}
use Rattle.night_folders.specs.Folders.{File, Home, Disk}
use Rattle.night_folders.specs.Folders.{Happening, create, write, fsync_file, fsync_night, commit, call, fsync_commit, put, fsync_place, rmdir_done, fsync_last}
use Rattle.night_folders.specs.Folders.{fail, unlink, rmdir_night, kill, also_call, also_fsync, also_put, also_place, also_rmdir, also_last, also_kill, cut}
use Rattle.night_folders.specs.Folders.{land_night, land_done, land_site, land_text, land_half, Deed, ◌at◌}
use Rattle.night_folders.specs.Rules.{may, asks}
use Rattle.night_folders.specs.Fields.{with_phase, with_step}
use Rattle.night_folders.specs.Effects.{turn, does, tests, changes, allowed, forced, step_of, afterwards, lawful}
use Rattle.night_folders.proofs.Every.{first, second, both}

-- an operation of the running call; its first, which finds STATE.done, goes by what it finds
abbrev pub inner : Happening → Bool
inner create = true
inner write = true
inner fsync_file = true
inner fsync_night = true
inner commit = true
inner call = false
inner fsync_commit = true
inner put = true
inner fsync_place = true
inner rmdir_done = true
inner fsync_last = true
inner fail = true
inner unlink = true
inner rmdir_night = true
inner kill = true
inner also_call = false
inner also_fsync = false
inner also_put = false
inner also_place = false
inner also_rmdir = false
inner also_last = false
inner also_kill = false
inner cut = false
inner land_night = false
inner land_done = false
inner land_site = false
inner land_text = false
inner land_half = false

-- what happens beside it, and is no power cut
abbrev pub outer : Happening → Bool
outer create = false
outer write = false
outer fsync_file = false
outer fsync_night = false
outer commit = false
outer call = false
outer fsync_commit = false
outer put = false
outer fsync_place = false
outer rmdir_done = false
outer fsync_last = false
outer fail = false
outer unlink = false
outer rmdir_night = false
outer kill = false
outer also_call = true
outer also_fsync = true
outer also_put = true
outer also_place = true
outer also_rmdir = true
outer also_last = true
outer also_kill = true
outer cut = false
outer land_night = true
outer land_done = true
outer land_site = true
outer land_text = true
outer land_half = true

-- two disks of which the call remembers the same
abbrev Alike : List File → List File → Type 0
Alike [] [] = Unit
Alike [] (g ∷ gs) = ⊥
Alike (f ∷ fs) [] = ⊥
Alike (f ∷ fs) (g ∷ gs) = (f.step ≡ g.step) × Alike fs gs

abbrev Same : Disk → Disk → Type 0
Same w v = (w.home.phase ≡ v.home.phase) × Alike w.files v.files

same_refl : (fs : List File) → Alike fs fs
same_refl [] = tt
same_refl (f ∷ fs) = (refl, same_refl fs)

phase_kept : (v : Happening) → T (outer v) → (h : Home) → (turn v h).phase ≡ h.phase
phase_kept create t h = absurd t
phase_kept write t h = absurd t
phase_kept fsync_file t h = absurd t
phase_kept fsync_night t h = absurd t
phase_kept commit t h = absurd t
phase_kept call t h = absurd t
phase_kept fsync_commit t h = absurd t
phase_kept put t h = absurd t
phase_kept fsync_place t h = absurd t
phase_kept rmdir_done t h = absurd t
phase_kept fsync_last t h = absurd t
phase_kept fail t h = absurd t
phase_kept unlink t h = absurd t
phase_kept rmdir_night t h = absurd t
phase_kept kill t h = absurd t
phase_kept also_call t h = refl
phase_kept also_fsync t h = refl
phase_kept also_put t h = refl
phase_kept also_place t h = refl
phase_kept also_rmdir t h = refl
phase_kept also_last t h = refl
phase_kept also_kill t h = refl
phase_kept cut t h = absurd t
phase_kept land_night t h = refl
phase_kept land_done t h = refl
phase_kept land_site t h = refl
phase_kept land_text t h = refl
phase_kept land_half t h = refl

step_kept : (v : Happening) → T (outer v) → (b : Bool) (f : File) → (does v b f).step ≡ f.step
step_kept create t b f = absurd t
step_kept write t b f = absurd t
step_kept fsync_file t b f = absurd t
step_kept fsync_night t b f = absurd t
step_kept commit t b f = absurd t
step_kept call t b f = absurd t
step_kept fsync_commit t b f = absurd t
step_kept put t b f = absurd t
step_kept fsync_place t b f = absurd t
step_kept rmdir_done t b f = absurd t
step_kept fsync_last t b f = absurd t
step_kept fail t b f = absurd t
step_kept unlink t b f = absurd t
step_kept rmdir_night t b f = absurd t
step_kept kill t b f = absurd t
step_kept also_call t b f = refl
step_kept also_fsync t b f = refl
step_kept also_put t true f = refl
step_kept also_put t false f = refl
step_kept also_place t true f = refl
step_kept also_place t false f = refl
step_kept also_rmdir t b f = refl
step_kept also_last t b f = refl
step_kept also_kill t b f = refl
step_kept cut t b f = absurd t
step_kept land_night t b f = refl
step_kept land_done t b f = refl
step_kept land_site t true f = refl
step_kept land_site t false f = refl
step_kept land_text t true f = refl
step_kept land_text t false f = refl
step_kept land_half t true f = refl
step_kept land_half t false f = refl

may_by : (e : Happening) → T (inner e) → (g h : Home) → g.phase ≡ h.phase → may e g ≡ may e h
may_by create t g h q = ap (λ p. may create (with_phase p g)) q
may_by write t g h q = ap (λ p. may write (with_phase p g)) q
may_by fsync_file t g h q = ap (λ p. may fsync_file (with_phase p g)) q
may_by fsync_night t g h q = ap (λ p. may fsync_night (with_phase p g)) q
may_by commit t g h q = ap (λ p. may commit (with_phase p g)) q
may_by call t g h q = absurd t
may_by fsync_commit t g h q = ap (λ p. may fsync_commit (with_phase p g)) q
may_by put t g h q = ap (λ p. may put (with_phase p g)) q
may_by fsync_place t g h q = ap (λ p. may fsync_place (with_phase p g)) q
may_by rmdir_done t g h q = ap (λ p. may rmdir_done (with_phase p g)) q
may_by fsync_last t g h q = ap (λ p. may fsync_last (with_phase p g)) q
may_by fail t g h q = ap (λ p. may fail (with_phase p g)) q
may_by unlink t g h q = ap (λ p. may unlink (with_phase p g)) q
may_by rmdir_night t g h q = ap (λ p. may rmdir_night (with_phase p g)) q
may_by kill t g h q = refl
may_by also_call t g h q = absurd t
may_by also_fsync t g h q = absurd t
may_by also_put t g h q = absurd t
may_by also_place t g h q = absurd t
may_by also_rmdir t g h q = absurd t
may_by also_last t g h q = absurd t
may_by also_kill t g h q = absurd t
may_by cut t g h q = absurd t
may_by land_night t g h q = absurd t
may_by land_done t g h q = absurd t
may_by land_site t g h q = absurd t
may_by land_text t g h q = absurd t
may_by land_half t g h q = absurd t

asks_by : (e : Happening) → T (inner e) → (b : Bool) (f g : File) → f.step ≡ g.step → asks e b f ≡ asks e b g
asks_by create t b f g q = ap (λ s. asks create b (with_step s f)) q
asks_by write t b f g q = ap (λ s. asks write b (with_step s f)) q
asks_by fsync_file t b f g q = ap (λ s. asks fsync_file b (with_step s f)) q
asks_by fsync_night t b f g q = ap (λ s. asks fsync_night b (with_step s f)) q
asks_by commit t b f g q = refl
asks_by call t b f g q = absurd t
asks_by fsync_commit t b f g q = refl
asks_by put t b f g q = ap (λ s. asks put b (with_step s f)) q
asks_by fsync_place t b f g q = ap (λ s. asks fsync_place b (with_step s f)) q
asks_by rmdir_done t b f g q = ap (λ s. asks rmdir_done b (with_step s f)) q
asks_by fsync_last t b f g q = refl
asks_by fail t b f g q = refl
asks_by unlink t b f g q = refl
asks_by rmdir_night t b f g q = refl
asks_by kill t b f g q = refl
asks_by also_call t b f g q = absurd t
asks_by also_fsync t b f g q = absurd t
asks_by also_put t b f g q = absurd t
asks_by also_place t b f g q = absurd t
asks_by also_rmdir t b f g q = absurd t
asks_by also_last t b f g q = absurd t
asks_by also_kill t b f g q = absurd t
asks_by cut t b f g q = absurd t
asks_by land_night t b f g q = absurd t
asks_by land_done t b f g q = absurd t
asks_by land_site t b f g q = absurd t
asks_by land_text t b f g q = absurd t
asks_by land_half t b f g q = absurd t

turn_by : (e : Happening) → T (inner e) → (g h : Home) → g.phase ≡ h.phase → (turn e g).phase ≡ (turn e h).phase
turn_by create t g h q = q
turn_by write t g h q = q
turn_by fsync_file t g h q = q
turn_by fsync_night t g h q = refl
turn_by commit t g h q = refl
turn_by call t g h q = absurd t
turn_by fsync_commit t g h q = refl
turn_by put t g h q = q
turn_by fsync_place t g h q = q
turn_by rmdir_done t g h q = refl
turn_by fsync_last t g h q = refl
turn_by fail t g h q = refl
turn_by unlink t g h q = q
turn_by rmdir_night t g h q = refl
turn_by kill t g h q = refl
turn_by also_call t g h q = absurd t
turn_by also_fsync t g h q = absurd t
turn_by also_put t g h q = absurd t
turn_by also_place t g h q = absurd t
turn_by also_rmdir t g h q = absurd t
turn_by also_last t g h q = absurd t
turn_by also_kill t g h q = absurd t
turn_by cut t g h q = absurd t
turn_by land_night t g h q = absurd t
turn_by land_done t g h q = absurd t
turn_by land_site t g h q = absurd t
turn_by land_text t g h q = absurd t
turn_by land_half t g h q = absurd t

does_by : (e : Happening) → T (inner e) → (b : Bool) (f g : File) → f.step ≡ g.step → (does e b f).step ≡ (does e b g).step
does_by create t true f g q = refl
does_by create t false f g q = q
does_by write t true f g q = refl
does_by write t false f g q = q
does_by fsync_file t true f g q = refl
does_by fsync_file t false f g q = q
does_by fsync_night t b f g q = q
does_by commit t b f g q = q
does_by call t b f g q = absurd t
does_by fsync_commit t b f g q = q
does_by put t true f g q = refl
does_by put t false f g q = q
does_by fsync_place t true f g q = refl
does_by fsync_place t false f g q = q
does_by rmdir_done t b f g q = q
does_by fsync_last t b f g q = q
does_by fail t b f g q = q
does_by unlink t true f g q = q
does_by unlink t false f g q = q
does_by rmdir_night t b f g q = q
does_by kill t b f g q = q
does_by also_call t b f g q = absurd t
does_by also_fsync t b f g q = absurd t
does_by also_put t b f g q = absurd t
does_by also_place t b f g q = absurd t
does_by also_rmdir t b f g q = absurd t
does_by also_last t b f g q = absurd t
does_by also_kill t b f g q = absurd t
does_by cut t b f g q = absurd t
does_by land_night t b f g q = absurd t
does_by land_done t b f g q = absurd t
does_by land_site t b f g q = absurd t
does_by land_text t b f g q = absurd t
does_by land_half t b f g q = absurd t

-- what happens beside the call leaves its memory
files_kept : (v : Happening) → T (outer v) → (k : ℕ → Bool) (fs gs : List File) → Alike fs gs → Alike fs (changes (does v) k gs)
files_kept v t k [] [] a = tt
files_kept v t k [] (g ∷ gs) a = absurd a
files_kept v t k (f ∷ fs) [] a = absurd a
files_kept v t k (f ∷ fs) (g ∷ gs) a = (a.0 ∙ sym (step_kept v t (k 0) g), files_kept v t (λ j. k (suc j)) fs gs a.1)

step_beside : (v : Happening) (k : ℕ → Bool) → T (outer v) → (w u : Disk) → Same w u → Same w (step_of (v at k) u)
step_beside v k t w u s = go (allowed (v at k) u)
  where
    go : (b : Bool) → Same w (cond b (forced (v at k) u) u)
    go false = s
    go true = (s.0 ∙ sym (phase_kept v t u.home), files_kept v t k w.files u.files s.1)

abbrev pub outers : List Deed → Bool
outers [] = true
outers (v at k ∷ vs) = outer v && outers vs

after_beside : (vs : List Deed) → T (outers vs) → (w u : Disk) → Same w u → Same w (afterwards vs u)
after_beside [] t w u s = s
after_beside (v at k ∷ vs) t w u s =
    after_beside vs (second (outer v) (outers vs) t) w (step_of (v at k) u) (step_beside v k (first (outer v) (outers vs) t) w u s)

-- the call may do the same, and remembers the same after it
tests_by : (e : Happening) → T (inner e) → (m : ℕ → Bool) (fs gs : List File) → Alike fs gs → tests (asks e) m fs ≡ tests (asks e) m gs
tests_by e t m [] [] a = refl
tests_by e t m [] (g ∷ gs) a = absurd a
tests_by e t m (f ∷ fs) [] a = absurd a
tests_by e t m (f ∷ fs) (g ∷ gs) a =
    ap (λ b. b && tests (asks e) (λ j. m (suc j)) fs) (asks_by e t (m 0) f g a.0)
    ∙ ap (λ b. asks e (m 0) g && b) (tests_by e t (λ j. m (suc j)) fs gs a.1)

allowed_by : (e : Happening) (m : ℕ → Bool) → T (inner e) → (w u : Disk) → Same w u → allowed (e at m) w ≡ allowed (e at m) u
allowed_by e m t w u s =
    ap (λ b. b && tests (asks e) m w.files) (may_by e t w.home u.home s.0)
    ∙ ap (λ b. may e u.home && b) (tests_by e t m w.files u.files s.1)

changes_by : (e : Happening) → T (inner e) → (m : ℕ → Bool) (fs gs : List File) → Alike fs gs → Alike (changes (does e) m fs) (changes (does e) m gs)
changes_by e t m [] [] a = tt
changes_by e t m [] (g ∷ gs) a = absurd a
changes_by e t m (f ∷ fs) [] a = absurd a
changes_by e t m (f ∷ fs) (g ∷ gs) a = (does_by e t (m 0) f g a.0, changes_by e t (λ j. m (suc j)) fs gs a.1)

step_by_lem : (e : Happening) (m : ℕ → Bool) → T (inner e) → (w u : Disk) → Same w u → T (allowed (e at m) w) → Same (step_of (e at m) w) (step_of (e at m) u)
step_by_lem e m t w u s p = go (allowed (e at m) w) (allowed (e at m) u) p (subst T (allowed_by e m t w u s) p)
  where
    go : (a b : Bool) → T a → T b → Same (cond a (forced (e at m) w) w) (cond b (forced (e at m) u) u)
    go true true p q = (turn_by e t w.home u.home s.0, changes_by e t m w.files u.files s.1)
    go true false p q = absurd q
    go false b p q = absurd p

abbrev pub inners : List Deed → Bool
inners [] = true
inners (e at m ∷ as') = inner e && inners as'

-- every operation of a list can be when its turn comes, with these events before each
abbrev pub lawful_beside : (ℕ → List Deed) → List Deed → Disk → Bool
lawful_beside others [] w = true
lawful_beside others (a ∷ as') w = allowed a (afterwards (others 0) w) && lawful_beside (λ j. others (suc j)) as' (step_of a (afterwards (others 0) w))

beside : (as' : List Deed) → T (inners as') → (others : ℕ → List Deed) → ((j : ℕ) → T (outers (others j))) → (w u : Disk) → Same w u
    → T (lawful as' w) → T (lawful_beside others as' u)
beside [] i others o w u s l = tt
beside (e at m ∷ as') i others o w u s l =
    let t = first (inner e) (inners as') i in
    let v : Disk = afterwards (others 0) u in
    let s' : Same w v = after_beside (others 0) (o 0) w u s in
    let p = first (allowed (e at m) w) (lawful as' (step_of (e at m) w)) l in
    both (allowed (e at m) v) (lawful_beside (λ j. others (suc j)) as' (step_of (e at m) v)) (subst T (allowed_by e m t w v s') p)
    (beside as' (second (inner e) (inners as') i) (λ j. others (suc j)) (λ j. o (suc j)) (step_of (e at m) w) (step_of (e at m) v) (step_by_lem e m t w v s' p)
    (second (allowed (e at m) w) (lawful as' (step_of (e at m) w)) l))

-- operations that are allowed one after another are so whatever happens beside
pub allowed_beside : (as' : List Deed) (w : Disk) (others : ℕ → List Deed) → T (inners as') → ((j : ℕ) → T (outers (others j))) → T (lawful as' w)
    → T (lawful_beside others as' w)
allowed_beside as' w others i o l = beside as' i others o w w (refl, same_refl w.files) l
