-- When the program does an operation. The rules look at nothing but its own memory and whether STATE.done stands, so that a program can keep to them.
use Rattle.std.specs.Prelude.{Bool, true, false, ◌&&◌, ℕ, eqb}
use Rattle.night_folders.specs.Folders.{Step, fresh, made, written, saved, moved, down, Phase, idle, making, sealed, decided, placing, clearing}
use Rattle.night_folders.specs.Folders.{undoing, Help, off, looking, putting, leaving, Got, todo, tried, sure, File, Home, Happening, create, write}
use Rattle.night_folders.specs.Folders.{fsync_file, fsync_night, commit, call, fsync_commit, put, fsync_place, rmdir_done, fsync_last, fail, unlink}
use Rattle.night_folders.specs.Folders.{rmdir_night, kill, also_call, also_fsync, also_put, also_place, also_rmdir, also_last, also_kill, cut}
use Rattle.night_folders.specs.Folders.{land_night, land_done, land_site, land_text, land_half}

abbrev pub phase_no : Phase → ℕ
phase_no idle = 0
phase_no making = 1
phase_no sealed = 2
phase_no decided = 3
phase_no placing = 4
phase_no clearing = 5
phase_no undoing = 6

abbrev pub step_no : Step → ℕ
step_no fresh = 0
step_no made = 1
step_no written = 2
step_no saved = 3
step_no moved = 4
step_no down = 5

abbrev pub help_no : Help → ℕ
help_no off = 0
help_no looking = 1
help_no putting = 2
help_no leaving = 3

abbrev pub got_no : Got → ℕ
got_no todo = 0
got_no tried = 1
got_no sure = 2

abbrev pub is_phase : Phase → Home → Bool
is_phase p h = eqb (phase_no p) (phase_no h.phase)

abbrev pub is_step : Step → File → Bool
is_step s f = eqb (step_no s) (step_no f.step)

abbrev pub is_help : Help → Home → Bool
is_help p h = eqb (help_no p) (help_no h.help)

abbrev pub is_got : Got → File → Bool
is_got s f = eqb (got_no s) (got_no f.got)

-- what its call is about ..
abbrev pub may : Happening → Home → Bool
may create h = is_phase making h
may write h = is_phase making h
may fsync_file h = is_phase making h
may fsync_night h = is_phase making h
may commit h = is_phase sealed h
may call h = is_phase idle h && h.done
may fsync_commit h = is_phase decided h
may put h = is_phase placing h
may fsync_place h = is_phase placing h
may rmdir_done h = is_phase placing h
may fsync_last h = is_phase clearing h
may fail h = is_phase making h
may unlink h = is_phase undoing h
may rmdir_night h = is_phase undoing h
may kill h = true
may also_call h = is_help off h && h.done
may also_fsync h = is_help looking h
may also_put h = is_help putting h
may also_place h = is_help putting h
may also_rmdir h = is_help putting h
may also_last h = is_help leaving h
may also_kill h = true
may cut h = true
may land_night h = true
may land_done h = true
may land_site h = true
may land_text h = true
may land_half h = false

abbrev pub only : Bool → Bool → Bool
only true b = b
only false b = true

-- .. and how far it is with the file (mine: the event is about this file), or with all files
abbrev pub asks : Happening → Bool → File → Bool
asks create mine f = only mine (is_step fresh f)
asks write mine f = only mine (is_step made f)
asks fsync_file mine f = only mine (is_step written f)
asks fsync_night mine f = is_step saved f
asks commit mine f = true
asks call mine f = true
asks fsync_commit mine f = true
asks put mine f = only mine (is_step saved f)
asks fsync_place mine f = only mine (is_step moved f)
asks rmdir_done mine f = is_step down f
asks fsync_last mine f = true
asks fail mine f = true
asks unlink mine f = true
asks rmdir_night mine f = true
asks kill mine f = true
asks also_call mine f = true
asks also_fsync mine f = true
asks also_put mine f = only mine (is_got todo f)
asks also_place mine f = only mine (is_got tried f)
asks also_rmdir mine f = is_got sure f
asks also_last mine f = true
asks also_kill mine f = true
asks cut mine f = true
asks land_night mine f = true
asks land_done mine f = true
asks land_site mine f = true
asks land_text mine f = true
asks land_half mine f = true
