-- What an event does, and what a list of them comes to.
--
-- Assumed of the system: the device gets any entry and any bytes at any time, in any order (the events land-..), and nothing else happens to it;
-- an fsync that reports success has brought there what it names; a rename lands whole, also from one folder to another; a place shows the
-- old file until its rename. Nothing is assumed of an operation that reports failure: it may have been done.
use Rattle.std.specs.Prelude.{Bool, true, false, ◌&&◌, ◌||◌, cond, List, [], ◌∷◌, ℕ, zero, suc, ◌≡◌}
use Rattle.night_folders.specs.Folders.{Site, nowhere, work, place, Text, part, whole, fresh, made, written, saved, moved, down, idle}
use Rattle.night_folders.specs.Folders.{making, sealed, decided, placing, clearing, undoing, off, looking, putting, leaving, todo, tried}
use Rattle.night_folders.specs.Folders.{sure, File, Home, Disk, Happening, create, write, fsync_file, fsync_night, commit, call, fsync_commit, put}
use Rattle.night_folders.specs.Folders.{fsync_place, rmdir_done, fsync_last, fail, unlink, rmdir_night, kill, also_call, also_fsync, also_put}
use Rattle.night_folders.specs.Folders.{also_place, also_rmdir, also_last, also_kill, cut, land_night, land_done, land_site, land_text, land_half, Deed}
use Rattle.night_folders.specs.Folders.{◌at◌}
use Rattle.night_folders.specs.Fields.{with_phase, with_help, with_night, with_night_down, with_done, with_done_down, with_past, with_step, with_got}
use Rattle.night_folders.specs.Fields.{with_site, with_site_down, with_text, with_text_down}
use Rattle.night_folders.specs.Rules.{may, asks}

-- the device has the entry STATE.night as it is, or STATE.done, or both
abbrev pub night_landed : Home → Home
night_landed h = with_night_down h.night h

abbrev pub done_landed : Home → Home
done_landed h = with_done_down h.done (with_past (h.past || h.done) h)

abbrev pub landed : Home → Home
landed h = night_landed (done_landed h)

-- what an event does to the names in STATE's folder
abbrev pub turn : Happening → Home → Home
turn create h = h
turn write h = h
turn fsync_file h = h
turn fsync_night h = with_phase sealed h
turn commit h = with_phase decided (with_night false (with_done true h))
turn call h = with_phase decided h
turn fsync_commit h = with_phase placing (landed h)
turn put h = h
turn fsync_place h = h
turn rmdir_done h = with_phase clearing (with_done false h)
turn fsync_last h = with_phase idle (landed h)
turn fail h = with_phase undoing h
turn unlink h = h
turn rmdir_night h = with_phase idle (with_night false h)
turn kill h = with_phase idle h
turn also_call h = with_help looking h
turn also_fsync h = with_help putting (landed h)
turn also_put h = h
turn also_place h = h
turn also_rmdir h = with_help leaving (with_done false h)
turn also_last h = with_help off (landed h)
turn also_kill h = with_help off h
turn cut h = with_phase idle (with_help off (with_night h.night_down (with_done h.done_down h)))
turn land_night h = night_landed h
turn land_done h = done_landed h
turn land_site h = h
turn land_text h = h
turn land_half h = h

abbrev pub moved_from : Site → Site
moved_from nowhere = nowhere
moved_from work = place
moved_from place = place

-- the device has its entry where it is, or its bytes as they are
abbrev pub entered : File → File
entered f = with_site_down f.site f

abbrev pub stored : File → File
stored f = with_text_down f.text f

abbrev pub if_mine : Bool → File → File → File
if_mine true f g = f
if_mine false f g = g

-- what an event does to a file (mine: the event is about this file)
abbrev pub does : Happening → Bool → File → File
does create mine f = if_mine mine (with_step made (with_site work (with_text part f))) f
does write mine f = if_mine mine (with_step written (with_text whole f)) f
does fsync_file mine f = if_mine mine (with_step saved (stored f)) f
does fsync_night mine f = entered f
does commit mine f = f
does call mine f = with_step saved f
does fsync_commit mine f = f
does put mine f = if_mine mine (with_step moved (with_site (moved_from f.site) f)) f
does fsync_place mine f = if_mine mine (with_step down (entered f)) f
does rmdir_done mine f = f
does fsync_last mine f = f
does fail mine f = f
does unlink mine f = if_mine mine (with_site nowhere f) f
does rmdir_night mine f = f
does kill mine f = f
does also_call mine f = with_got todo f
does also_fsync mine f = f
does also_put mine f = if_mine mine (with_got tried (with_site (moved_from f.site) f)) f
does also_place mine f = if_mine mine (with_got sure (entered f)) f
does also_rmdir mine f = f
does also_last mine f = f
does also_kill mine f = f
does cut mine f = with_site f.site_down (with_text f.text_down f)
does land_night mine f = f
does land_done mine f = f
does land_site mine f = if_mine mine (entered f) f
does land_text mine f = if_mine mine (stored f) f
does land_half mine f = if_mine mine (with_site_down nowhere f) f

-- a test, or a change, at every file, told whether the event is about it
abbrev pub tests : (Bool → File → Bool) → (ℕ → Bool) → List File → Bool
tests p m [] = true
tests p m (f ∷ fs) = p (m 0) f && tests p (λ k. m (suc k)) fs

abbrev pub changes : (Bool → File → File) → (ℕ → Bool) → List File → List File
changes c m [] = []
changes c m (f ∷ fs) = c (m 0) f ∷ changes c (λ k. m (suc k)) fs

-- whether this can be now
abbrev pub allowed : Deed → Disk → Bool
allowed (e at m) w = may e w.home && tests (asks e) m w.files

-- what it comes to
abbrev pub forced : Deed → Disk → Disk
forced (e at m) w = record { home = turn e w.home; files = changes (does e) m w.files }

-- an event that cannot be is passed over
abbrev pub step_of : Deed → Disk → Disk
step_of a w = cond (allowed a w) (forced a w) w

abbrev pub afterwards : List Deed → Disk → Disk
afterwards [] w = w
afterwards (a ∷ as') w = afterwards as' (step_of a w)

-- every event of a list can be when its turn comes: none is passed over
abbrev pub lawful : List Deed → Disk → Bool
lawful [] w = true
lawful (a ∷ as') w = allowed a w && lawful as' (step_of a w)

-- The beginning, with n files: this call has made STATE.night, saw that STATE.done does not stand, and brought STATE's folder to the device.
-- The places have the old files (or none).
abbrev pub newcomer : File
newcomer = record { step = fresh; got = todo; site = nowhere; site_down = nowhere; text = part; text_down = part }

abbrev pub newcomers : ℕ → List File
newcomers zero = []
newcomers (suc n) = newcomer ∷ newcomers n

abbrev pub start : ℕ → Disk
start n =
    record {
      home = record { phase = making; help = off; night = true; night_down = true; done = false; done_down = false; past = false };
      files = newcomers n;
    }

-- what a place shows: to calls, and on the device
pub data Shown : Type 0 where
  old new torn : Shown

abbrev pub showing : Site → Text → Shown
showing nowhere t = old
showing work t = old
showing place part = torn
showing place whole = new

abbrev pub Shows : Shown → File → Type 0
Shows s f = (showing f.site f.text ≡ s) × (showing f.site_down f.text_down ≡ s)

abbrev pub All : (File → Type 0) → List File → Type 0
All P [] = Unit
All P (f ∷ fs) = P f × All P fs

-- what the night comes to: the new files if STATE.done has reached the device, else the old ones
abbrev pub outcome : Home → Shown
outcome h = cond h.past new old

-- the sequences of operations. `one i`: the file i; `each n e`: the operation at each of n files, in order
abbrev pub one : ℕ → ℕ → Bool
one zero zero = true
one zero (suc j) = false
one (suc i) zero = false
one (suc i) (suc j) = one i j

abbrev pub none : ℕ → Bool
none j = false

abbrev pub all : ℕ → Bool
all j = true

abbrev pub each_from : ℕ → ℕ → Happening → List Deed → List Deed
each_from i zero e r = r
each_from i (suc n) e r = e at one i ∷ each_from (suc i) n e r

abbrev pub writes_from : ℕ → ℕ → List Deed → List Deed
writes_from i zero r = r
writes_from i (suc n) r = create at one i ∷ write at one i ∷ fsync_file at one i ∷ writes_from (suc i) n r

-- after the commit, and after a call that finds STATE.done: one and the same
abbrev pub forward : ℕ → List Deed
forward n = fsync_commit at none ∷ each_from 0 n put (fsync_place at all ∷ rmdir_done at none ∷ fsync_last at none ∷ [])

abbrev pub nightly : ℕ → List Deed
nightly n = writes_from 0 n (fsync_night at none ∷ commit at none ∷ forward n)

abbrev pub recovery : ℕ → List Deed
recovery n = call at none ∷ forward n
