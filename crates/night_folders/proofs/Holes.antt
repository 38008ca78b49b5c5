-- What goes wrong where a rule is left out: two files, the operations done regardless of the rules, mostly with a power cut, then a
-- whole recovery. What the two places show at the end, computed. Assumes nothing.
use mathlib.Core.Path.{◌≡◌, refl}
use mathlib.Core.List.{List, [], ◌∷◌}
use Rattle.night_folders.specs.Folders.{File, Disk, create, write, fsync_file, fsync_night, commit, call, fsync_commit, put, fsync_place, rmdir_done, fsync_last, fail}
use Rattle.night_folders.specs.Folders.{unlink, kill, also_put, cut, land_done, land_site, land_half, Deed, ◌at◌}
use Rattle.night_folders.specs.Effects.{forced, afterwards, start, Shown, old, new, torn, showing, one, none, writes_from, recovery}

-- the operations, whether the rules allow them or not
abbrev pub regardless : List Deed → Disk → Disk
regardless [] w = w
regardless (a ∷ as') w = regardless as' (forced a w)

abbrev seen : List File → List Shown
seen [] = []
seen (f ∷ fs) = showing f.site f.text ∷ seen fs

abbrev pub shown_after : List Deed → List Shown
shown_after as' = seen (afterwards (recovery 2) (regardless as' (start 2))).files

-- both files written, and brought to the device with the work folder
abbrev pub prepared : List Deed → List Deed
prepared r = writes_from 0 2 (fsync_night at none ∷ r)

-- a call reads the files while STATE.done stands: it looks before it takes STATE.night, and again after
pub read_too_early : seen (regardless (prepared (commit at none ∷ fsync_commit at none ∷ put at one 0 ∷ [])) (start 2)).files ≡ new ∷ old ∷ []
read_too_early = refl

-- STATE's folder is not brought to the device between the commit and the first file put in place
pub no_fsync_after_commit : shown_after (prepared (commit at none ∷ put at one 0 ∷ land_site at one 0 ∷ cut at none ∷ [])) ≡ new ∷ old ∷ []
no_fsync_after_commit = refl

-- nor by a call that finds STATE.done of a call killed just there
pub no_fsync_in_recovery : shown_after (prepared (commit at none ∷ kill at none ∷ call at none ∷ put at one 0 ∷ land_site at one 0 ∷ cut at none ∷ [])) ≡ new ∷ old ∷ []
no_fsync_in_recovery = refl

-- STATE.done is removed before the places' folder is brought to the device
pub removed_too_early : shown_after (prepared (commit at none ∷ fsync_commit at none ∷ put at one 0 ∷ put at one 1 ∷ rmdir_done at none
    ∷ land_done at none ∷ land_site at one 0 ∷ cut at none ∷ [])) ≡ new ∷ old ∷ []
removed_too_early = refl

-- .. or one place's was, where they lie in two folders
pub one_folder_only : shown_after (prepared (commit at none ∷ fsync_commit at none ∷ put at one 0 ∷ put at one 1 ∷ fsync_place at one 0 ∷ rmdir_done at none
    ∷ fsync_last at none ∷ cut at none ∷ [])) ≡ new ∷ old ∷ []
one_folder_only = refl

-- the work folder is not brought to the device before the commit
pub work_not_synced : shown_after (writes_from 0 2 (commit at none ∷ fsync_commit at none ∷ land_site at one 0 ∷ cut at none ∷ [])) ≡ new ∷ old ∷ []
work_not_synced = refl

-- a file's bytes are not
pub file_not_synced : shown_after (create at one 0 ∷ write at one 0 ∷ create at one 1 ∷ write at one 1 ∷ fsync_file at one 1 ∷ fsync_night at none ∷ commit at none
    ∷ fsync_commit at none ∷ cut at none ∷ []) ≡ torn ∷ new ∷ []
file_not_synced = refl

-- the fsync after the commit reports failure, and the call cleans up instead of stopping
pub cleaned_after_commit : shown_after (prepared (commit at none ∷ land_done at none ∷ fail at none ∷ unlink at one 0 ∷ land_site at one 0 ∷ cut at none ∷ [])) ≡ old ∷ new ∷ []
cleaned_after_commit = refl

-- no rule is left out, but a rename out of STATE.done lands by half, gone there and not arrived: that it lands whole is an assumption, and needed
pub half_a_rename : shown_after (prepared (commit at none ∷ fsync_commit at none ∷ put at one 0 ∷ land_half at one 0 ∷ cut at none ∷ [])) ≡ old ∷ new ∷ []
half_a_rename = refl

-- out of the rules' reach: a call that found an earlier night's STATE.done, and has stood still since, wakes between a commit and its fsync
pub stale_call : shown_after (prepared (commit at none ∷ also_put at one 0 ∷ land_site at one 0 ∷ cut at none ∷ [])) ≡ new ∷ old ∷ []
stale_call = refl
