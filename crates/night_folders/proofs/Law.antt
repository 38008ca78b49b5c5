-- What holds at all times, and that every event keeps it: computed over every state of the names and of one file. Assumes nothing.
use mathlib.Core.Bool.{Bool, true, false, not, ◌&&◌, ◌||◌, cond}
use mathlib.Core.List.{List, [], ◌∷◌}
use Prim.Native.Nat.{ℕ, zero, suc}
use lib.Dec.{T, eqb}
use Rattle.night_folders.specs.Folders.{Site, nowhere, work, place, Text, part, whole, Step, fresh, made, written, saved, moved, down, idle, making, sealed, decided, placing, clearing}
use Rattle.night_folders.specs.Folders.{undoing, off, looking, putting, leaving, Got, todo, tried, sure, File, Home, Disk, Happening, create, write, fsync_file, fsync_night, commit, call}
use Rattle.night_folders.specs.Folders.{fsync_commit, put, fsync_place, rmdir_done, fsync_last, fail, unlink, rmdir_night, kill, also_call, also_fsync, also_put, also_place, also_rmdir}
use Rattle.night_folders.specs.Folders.{also_last, also_kill, cut, land_night, land_done, land_site, land_text, land_half, Deed, ◌at◌}
use Rattle.night_folders.specs.Rules.{is_help, is_got, is_phase, is_step, may, asks}
use Rattle.night_folders.specs.Effects.{turn, does, tests, changes, allowed, forced, step_of, afterwards, newcomers, start}
use Rattle.night_folders.proofs.Every.{first, second, both, implies, meet, each_bool, at_bool, each_file, at_file, each_home, at_home}

abbrev pub site_no : Site → ℕ
site_no nowhere = 0
site_no work = 1
site_no place = 2

abbrev pub is_site : Site → Site → Bool
is_site a b = eqb (site_no a) (site_no b)

abbrev pub is_whole : Text → Bool
is_whole part = false
is_whole whole = true

-- Of a file's entry and bytes (b, d: as calls see them; c, e: on the device).
-- The old file is at its place:
abbrev unplaced : Site → Site → Text → Text → Bool
unplaced b c d e = not (is_site place b) && not (is_site place c)

-- the new one is in the work folder, whole, and so on the device:
abbrev ready : Site → Site → Text → Text → Bool
ready b c d e = is_site work b && (is_site work c && (is_whole d && is_whole e))

-- it is at its place, whole, and so on the device:
abbrev settled : Site → Site → Text → Text → Bool
settled b c d e = is_site place b && (is_site place c && (is_whole d && is_whole e))

-- it is whole, and in the work folder or at its place; the device may be behind:
abbrev underway : Site → Site → Text → Text → Bool
underway b c d e = is_whole d && (is_whole e && ((is_site work b && is_site work c) || (is_site place b && not (is_site nowhere c))))

-- by (past, done): before the commit; committed, not known to be on the device; on the device; STATE.done removed
abbrev pub lies_at : Bool → Bool → Site → Site → Text → Text → Bool
lies_at false false b c d e = unplaced b c d e
lies_at false true b c d e = ready b c d e
lies_at true true b c d e = underway b c d e
lies_at true false b c d e = settled b c d e

abbrev pub lies : Home → Site → Site → Text → Text → Bool
lies h b c d e = lies_at h.past h.done b c d e

-- What a call's memory of a file tells, while it makes the files
abbrev known : Step → File → Bool
known fresh f = true
known made f = is_site work f.site
known written f = is_site work f.site && is_whole f.text
known saved f = is_site work f.site && (is_whole f.text && is_whole f.text_down)
known moved f = false
known down f = false

-- .. and while it puts them in place
abbrev known_put : Step → File → Bool
known_put fresh f = true
known_put made f = true
known_put written f = true
known_put saved f = true
known_put moved f = is_site place f.site
known_put down f = is_site place f.site && is_site place f.site_down

abbrev known_also : Got → File → Bool
known_also todo f = true
known_also tried f = is_site place f.site
known_also sure f = is_site place f.site && is_site place f.site_down

abbrev sealed_file : File → Bool
sealed_file f = ready f.site f.site_down f.text f.text_down && is_step saved f

abbrev tells_at : Bool → Home → File → Bool
tells_at false h f = implies (is_phase making h) (known f.step f) && implies (is_phase sealed h) (sealed_file f)
tells_at true h f = implies (is_phase decided h) (is_step saved f) && (implies (is_phase placing h) (known_put f.step f)
    && (implies (is_help looking h) (is_got todo f) && implies (is_help putting h) (known_also f.got f)))

abbrev pub tells : Home → File → Bool
tells h f = tells_at h.done h f

abbrev pub fits : Home → File → Bool
fits h f = lies h f.site f.site_down f.text f.text_down && tells h f

-- .. and of the names
abbrev sound_at : Bool → Bool → Home → Bool
sound_at false false h = not h.done_down && (is_help off h && (is_phase idle h || (is_phase making h || (is_phase sealed h || is_phase undoing h))))
sound_at false true h = not h.done_down && ((is_help off h || is_help looking h) && (is_phase idle h || is_phase decided h))
sound_at true true h = h.done_down && (not (is_help leaving h) && (is_phase idle h || (is_phase decided h || is_phase placing h)))
sound_at true false h = is_phase idle h || (is_phase decided h || (is_phase placing h || is_phase clearing h))

abbrev pub sound : Home → Bool
sound h = sound_at h.past h.done h

abbrev pub all_fit : Home → List File → Bool
all_fit h [] = true
all_fit h (f ∷ fs) = fits h f && all_fit h fs

abbrev pub Good : Disk → Type 0
Good w = T (sound w.home) × T (all_fit w.home w.files)

-- the computed tests: the names alone, and the names with a file
abbrev keeps_home : Happening → Home → Bool
keeps_home e h = implies (sound h && may e h) (sound (turn e h))

abbrev keeps_file : Happening → Home → Bool → File → Bool
keeps_file e h m f = implies (tells h f && asks e m f) (fits (turn e h) (does e m f))

abbrev keeps : Happening → Home → Bool
keeps e h = implies (sound h && may e h) (each_bool (λ m. each_file (lies h) (λ f. keeps_file e h m f)))

pub home_tests : (e : Happening) (n d : Bool) → T (each_home (keeps_home e) n d)
home_tests create n d = tt
home_tests write n d = tt
home_tests fsync_file n d = tt
home_tests fsync_night n d = tt
home_tests commit n d = tt
home_tests call n d = tt
home_tests fsync_commit n d = tt
home_tests put n d = tt
home_tests fsync_place n d = tt
home_tests rmdir_done n d = tt
home_tests fsync_last n d = tt
home_tests fail n d = tt
home_tests unlink n d = tt
home_tests rmdir_night n d = tt
home_tests kill n d = tt
home_tests also_call n d = tt
home_tests also_fsync n d = tt
home_tests also_put n d = tt
home_tests also_place n d = tt
home_tests also_rmdir n d = tt
home_tests also_last n d = tt
home_tests also_kill n d = tt
home_tests cut n d = tt
home_tests land_night n d = tt
home_tests land_done n d = tt
home_tests land_site n d = tt
home_tests land_text n d = tt
home_tests land_half n d = tt

pub file_tests : (e : Happening) (n d : Bool) → T (each_home (keeps e) n d)
file_tests create n d = tt
file_tests write n d = tt
file_tests fsync_file n d = tt
file_tests fsync_night n d = tt
file_tests commit n d = tt
file_tests call n d = tt
file_tests fsync_commit n d = tt
file_tests put n d = tt
file_tests fsync_place n d = tt
file_tests rmdir_done n d = tt
file_tests fsync_last n d = tt
file_tests fail n d = tt
file_tests unlink n d = tt
file_tests rmdir_night n d = tt
file_tests kill n d = tt
file_tests also_call n d = tt
file_tests also_fsync n d = tt
file_tests also_put n d = tt
file_tests also_place n d = tt
file_tests also_rmdir n d = tt
file_tests also_last n d = tt
file_tests also_kill n d = tt
file_tests cut n d = tt
file_tests land_night n d = tt
file_tests land_done n d = tt
file_tests land_site n d = tt
file_tests land_text n d = tt
file_tests land_half n d = tt

keep_home : (e : Happening) (h : Home) → T (sound h) → T (may e h) → T (sound (turn e h))
keep_home e h s m = meet (sound h && may e h) (sound (turn e h)) (at_home (keeps_home e) (home_tests e) h) (both (sound h) (may e h) s m)

keep_file : (e : Happening) (h : Home) (m : Bool) (f : File) → T (sound h) → T (may e h) → T (fits h f) → T (asks e m f) → T (fits (turn e h) (does e m f))
keep_file e h m f s a t q =
    let l = first (lies h f.site f.site_down f.text f.text_down) (tells h f) t in
    let k = second (lies h f.site f.site_down f.text f.text_down) (tells h f) t in
    let every = meet (sound h && may e h) (each_bool (λ n. each_file (lies h) (λ g. keeps_file e h n g)))
    (at_home (keeps e) (file_tests e) h) (both (sound h) (may e h) s a) in
    meet (tells h f && asks e m f) (fits (turn e h) (does e m f))
    (at_file (lies h) (λ g. keeps_file e h m g) (at_bool (λ n. each_file (lies h) (λ g. keeps_file e h n g)) every m) f l)
    (both (tells h f) (asks e m f) k q)

keep_files : (e : Happening) (h : Home) (m : ℕ → Bool) (fs : List File) → T (sound h) → T (may e h) → T (all_fit h fs)
    → T (tests (asks e) m fs) → T (all_fit (turn e h) (changes (does e) m fs))
keep_files e h m [] s a t q = tt
keep_files e h m (f ∷ fs) s a t q =
    both (fits (turn e h) (does e (m 0) f)) (all_fit (turn e h) (changes (does e) (λ k. m (suc k)) fs))
    (keep_file e h (m 0) f s a (first (fits h f) (all_fit h fs) t) (first (asks e (m 0) f) (tests (asks e) (λ k. m (suc k)) fs) q))
    (keep_files e h (λ k. m (suc k)) fs s a (second (fits h f) (all_fit h fs) t) (second (asks e (m 0) f) (tests (asks e) (λ k. m (suc k)) fs) q))

pub step_keeps : (a : Deed) (w : Disk) → Good w → Good (step_of a w)
step_keeps (e at m) w g = go (allowed (e at m) w) (λ t. t)
  where
    go : (b : Bool) → (T b → T (allowed (e at m) w)) → Good (cond b (forced (e at m) w) w)
    go false k = g
    go true k =
        let y = first (may e w.home) (tests (asks e) m w.files) (k tt) in
        let q = second (may e w.home) (tests (asks e) m w.files) (k tt) in
        (keep_home e w.home g.0 y, keep_files e w.home m w.files g.0 y g.1 q)

pub after_keeps : (as' : List Deed) (w : Disk) → Good w → Good (afterwards as' w)
after_keeps [] w g = g
after_keeps (a ∷ as') w g = after_keeps as' (step_of a w) (step_keeps a w g)

start_fits : (n : ℕ) → T (all_fit (start 0).home (newcomers n))
start_fits zero = tt
start_fits (suc n) = start_fits n

pub start_good : (n : ℕ) → Good (start n)
start_good n = (tt, start_fits n)
