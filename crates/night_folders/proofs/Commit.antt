-- The theorems. `acts` is any list of events: operations of the night, of any number of calls after it and of a second call beside, failures,
-- kills, power cuts, and what the device gets unasked, in any order. n is any number of files. Assumes nothing.
use mathlib.Core.Path.{◌≡◌, refl}
use mathlib.Core.Bool.{Bool, true, false, not, ◌&&◌, ◌||◌, cond}
use mathlib.Core.List.{List, [], ◌∷◌}
use Prim.Native.Nat.{ℕ}
use lib.Dec.{T}
use Rattle.night_folders.specs.Folders.{Site, nowhere, work, place, Text, part, whole, off, idle, undoing, File, Home, Disk, Happening}
use Rattle.night_folders.specs.Folders.{create, write, fsync_file, fsync_night, commit, call, fsync_commit, put, fsync_place, rmdir_done, fsync_last, fail, unlink, rmdir_night, kill}
use Rattle.night_folders.specs.Folders.{also_call, also_fsync, also_put, also_place, also_rmdir, also_last, also_kill, cut, land_night, land_done, land_site, land_text, land_half, Deed, ◌at◌}
use Rattle.night_folders.specs.Rules.{is_help, is_phase, may, asks}
use Rattle.night_folders.specs.Effects.{turn, tests, allowed, forced, step_of, afterwards, start, Shown, old, new, torn, showing, Shows, All, outcome}
use Rattle.night_folders.proofs.Every.{first, second, both, implies, meet, each_home, at_home, each_bool, at_bool, each_site, at_site, each_text, at_text}
use Rattle.night_folders.proofs.Ends.{start_sized, after_sized, cut_then_call, kill_then_call, cut_ends, kill_ends}
use Rattle.night_folders.proofs.Law.{sound, fits, lies, lies_at, all_fit, after_keeps, start_good, is_site, is_whole, tells}

shows_old : (b : Site) (d : Text) → T (not (is_site place b)) → showing b d ≡ old
shows_old nowhere d t = refl
shows_old work d t = refl
shows_old place d t = absurd t

shows_new : (b : Site) (d : Text) → T (is_site place b) → T (is_whole d) → showing b d ≡ new
shows_new nowhere d t u = absurd t
shows_new work d t u = absurd t
shows_new place part t u = absurd u
shows_new place whole t u = refl

shows_at : (p q : Bool) (b c : Site) (d e : Text) → T (not q) → T (lies_at p q b c d e)
    → (showing b d ≡ cond p new old) × (showing c e ≡ cond p new old)
shows_at false false b c d e n t =
    (shows_old b d (first (not (is_site place b)) (not (is_site place c)) t), shows_old c e (second (not (is_site place b)) (not (is_site place c)) t))
shows_at true false b c d e n t =
    let u = second (is_site place b) (is_site place c && (is_whole d && is_whole e)) t in
    let v = second (is_site place c) (is_whole d && is_whole e) u in (
      shows_new b d (first (is_site place b) (is_site place c && (is_whole d && is_whole e)) t) (first (is_whole d) (is_whole e) v),
      shows_new c e (first (is_site place c) (is_whole d && is_whole e) u) (second (is_whole d) (is_whole e) v),
    )
shows_at false true b c d e n t = absurd n
shows_at true true b c d e n t = absurd n

all_show : (h : Home) (fs : List File) → T (not h.done) → T (all_fit h fs) → All (Shows (outcome h)) fs
all_show h [] n t = tt
all_show h (f ∷ fs) n t = (
  shows_at h.past h.done f.site f.site_down f.text f.text_down n
      (first (lies h f.site f.site_down f.text f.text_down) (tells h f) (first (fits h f) (all_fit h fs) t)),
  all_show h fs n (second (fits h f) (all_fit h fs) t),
)

-- 1. Whenever STATE.done does not stand, the files are all old or all new, to every reader and on the device: new if STATE.done
-- has reached the device, else old.
pub one_commit : (n : ℕ) (acts : List Deed) → T (not (afterwards acts (start n)).home.done)
    → All (Shows (outcome (afterwards acts (start n)).home)) (afterwards acts (start n)).files
one_commit n acts q = all_show (afterwards acts (start n)).home (afterwards acts (start n)).files q (after_keeps acts (start n) (start_good n)).1

-- STATE.done has reached the device: nothing takes that back
past_tests : (e : Happening) (n d : Bool) → T (each_home (λ h. implies h.past (turn e h).past) n d)
past_tests create n d = tt
past_tests write n d = tt
past_tests fsync_file n d = tt
past_tests fsync_night n d = tt
past_tests commit n d = tt
past_tests call n d = tt
past_tests fsync_commit n d = tt
past_tests put n d = tt
past_tests fsync_place n d = tt
past_tests rmdir_done n d = tt
past_tests fsync_last n d = tt
past_tests fail n d = tt
past_tests unlink n d = tt
past_tests rmdir_night n d = tt
past_tests kill n d = tt
past_tests also_call n d = tt
past_tests also_fsync n d = tt
past_tests also_put n d = tt
past_tests also_place n d = tt
past_tests also_rmdir n d = tt
past_tests also_last n d = tt
past_tests also_kill n d = tt
past_tests cut n d = tt
past_tests land_night n d = tt
past_tests land_done n d = tt
past_tests land_site n d = tt
past_tests land_text n d = tt
past_tests land_half n d = tt

step_past : (a : Deed) (w : Disk) → T w.home.past → T (step_of a w).home.past
step_past (e at m) w p = go (allowed (e at m) w)
  where
    go : (b : Bool) → T (cond b (forced (e at m) w) w).home.past
    go false = p
    go true = meet w.home.past (turn e w.home).past (at_home (λ h. implies h.past (turn e h).past) (past_tests e) w.home) p

after_past : (as' : List Deed) (w : Disk) → T w.home.past → T (afterwards as' w).home.past
after_past [] w p = p
after_past (a ∷ as') w p = after_past as' (step_of a w) (step_past a w p)

-- 2. Whatever happened, a power cut, or a kill, and one call left to itself: the files are all as before the night, or all as after it ..
pub whole_after_cut : (n : ℕ) (acts : List Deed) → let z = afterwards (cut_then_call n) (afterwards acts (start n)) in All (Shows (outcome z.home)) z.files
whole_after_cut n acts =
    let w = afterwards acts (start n) in
    let z = afterwards (cut_then_call n) w in
    all_show z.home z.files (cut_ends n w (after_sized n acts (start n) (start_sized n)))
    (after_keeps (cut_then_call n) w (after_keeps acts (start n) (start_good n))).1

pub whole_after_kill : (n : ℕ) (acts : List Deed) → let z = afterwards (kill_then_call n) (afterwards acts (start n)) in All (Shows (outcome z.home)) z.files
whole_after_kill n acts =
    let w = afterwards acts (start n) in
    let z = afterwards (kill_then_call n) w in
    all_show z.home z.files (kill_ends n w (after_sized n acts (start n) (start_sized n)))
    (after_keeps (kill_then_call n) w (after_keeps acts (start n) (start_good n))).1

-- 3. .. and all as after it, once STATE.done has reached the device
show_new : (p : Bool) (fs : List File) → T p → All (Shows (cond p new old)) fs → All (Shows new) fs
show_new true fs t s = s
show_new false fs t s = absurd t

pub new_after_cut : (n : ℕ) (acts : List Deed) → T (afterwards acts (start n)).home.past
    → All (Shows new) (afterwards (cut_then_call n) (afterwards acts (start n))).files
new_after_cut n acts p =
    let z = afterwards (cut_then_call n) (afterwards acts (start n)) in
    show_new z.home.past z.files (after_past (cut_then_call n) (afterwards acts (start n)) p) (whole_after_cut n acts)

pub new_after_kill : (n : ℕ) (acts : List Deed) → T (afterwards acts (start n)).home.past
    → All (Shows new) (afterwards (kill_then_call n) (afterwards acts (start n))).files
new_after_kill n acts p =
    let z = afterwards (kill_then_call n) (afterwards acts (start n)) in
    show_new z.home.past z.files (after_past (kill_then_call n) (afterwards acts (start n)) p) (whole_after_kill n acts)

-- 4. At all times and on the device, each file by itself is the old one or the whole new one
abbrev intact : Shown → Bool
intact old = true
intact new = true
intact torn = false

abbrev test : Bool → Bool → Site → Site → Text → Text → Bool
test k j u v x y = implies (lies_at k j u v x y) (intact (showing u x) && intact (showing v y))

intact_at : (p q : Bool) (b c : Site) (d e : Text) → T (lies_at p q b c d e) → T (intact (showing b d)) × T (intact (showing c e))
intact_at p q b c d e t =
    let r = at_text (λ y. test p q b c d y) (at_text (λ x. each_text (λ y. test p q b c x y))
    (at_site (λ v. each_text (λ x. each_text (λ y. test p q b v x y))) (at_site (λ u. each_site (λ v. each_text (λ x. each_text (λ y. test p q u v x y))))
    (at_bool (λ j. each_site (λ u. each_site (λ v. each_text (λ x. each_text (λ y. test p j u v x y)))))
    (at_bool (λ k. each_bool (λ j. each_site (λ u. each_site (λ v. each_text (λ x. each_text (λ y. test k j u v x y)))))) tt p) q) b) c) d) e in
    let s = meet (lies_at p q b c d e) (intact (showing b d) && intact (showing c e)) r t in
    (first (intact (showing b d)) (intact (showing c e)) s, second (intact (showing b d)) (intact (showing c e)) s)

abbrev pub Intact : File → Type 0
Intact f = T (intact (showing f.site f.text)) × T (intact (showing f.site_down f.text_down))

all_intact : (h : Home) (fs : List File) → T (all_fit h fs) → All Intact fs
all_intact h [] t = tt
all_intact h (f ∷ fs) t = (
  intact_at h.past h.done f.site f.site_down f.text f.text_down
      (first (lies h f.site f.site_down f.text f.text_down) (tells h f) (first (fits h f) (all_fit h fs) t)),
  all_intact h fs (second (fits h f) (all_fit h fs) t),
)

pub never_torn : (n : ℕ) (acts : List Deed) → All Intact (afterwards acts (start n)).files
never_torn n acts = all_intact (afterwards acts (start n)).home (afterwards acts (start n)).files (after_keeps acts (start n) (start_good n)).1

-- 5. An operation before the commit reports failure: the files are the old ones, whatever happens from then on
abbrev lost : Home → Bool
lost h = (not h.past && not h.done) && (not h.done_down && (is_help off h && (is_phase idle h || is_phase undoing h)))

lost_tests : (e : Happening) (n d : Bool) → T (each_home (λ h. implies (lost h && may e h) (lost (turn e h))) n d)
lost_tests create n d = tt
lost_tests write n d = tt
lost_tests fsync_file n d = tt
lost_tests fsync_night n d = tt
lost_tests commit n d = tt
lost_tests call n d = tt
lost_tests fsync_commit n d = tt
lost_tests put n d = tt
lost_tests fsync_place n d = tt
lost_tests rmdir_done n d = tt
lost_tests fsync_last n d = tt
lost_tests fail n d = tt
lost_tests unlink n d = tt
lost_tests rmdir_night n d = tt
lost_tests kill n d = tt
lost_tests also_call n d = tt
lost_tests also_fsync n d = tt
lost_tests also_put n d = tt
lost_tests also_place n d = tt
lost_tests also_rmdir n d = tt
lost_tests also_last n d = tt
lost_tests also_kill n d = tt
lost_tests cut n d = tt
lost_tests land_night n d = tt
lost_tests land_done n d = tt
lost_tests land_site n d = tt
lost_tests land_text n d = tt
lost_tests land_half n d = tt

step_lost : (a : Deed) (w : Disk) → T (lost w.home) → T (lost (step_of a w).home)
step_lost (e at m) w l = go (allowed (e at m) w) (λ t. t)
  where
    go : (b : Bool) → (T b → T (allowed (e at m) w)) → T (lost (cond b (forced (e at m) w) w).home)
    go false k = l
    go true k = meet (lost w.home && may e w.home) (lost (turn e w.home))
        (at_home (λ h. implies (lost h && may e h) (lost (turn e h))) (lost_tests e) w.home)
        (both (lost w.home) (may e w.home) l (first (may e w.home) (tests (asks e) m w.files) (k tt)))

after_lost : (as' : List Deed) (w : Disk) → T (lost w.home) → T (lost (afterwards as' w).home)
after_lost [] w l = l
after_lost (a ∷ as') w l = after_lost as' (step_of a w) (step_lost a w l)

undoing_lost : (n d : Bool) → T (each_home (λ h. implies (sound h && is_phase undoing h) (lost h)) n d)
undoing_lost n d = tt

show_old : (p : Bool) (fs : List File) → T (not p) → All (Shows (cond p new old)) fs → All (Shows old) fs
show_old false fs t s = s
show_old true fs t s = absurd t

pub old_after_failure : (n : ℕ) (acts later : List Deed) → T (is_phase undoing (afterwards acts (start n)).home)
    → All (Shows old) (afterwards later (afterwards acts (start n))).files
old_after_failure n acts later u =
    let w = afterwards acts (start n) in
    let z = afterwards later w in
    let g = after_keeps acts (start n) (start_good n) in
    let l = meet (sound w.home && is_phase undoing w.home) (lost w.home)
    (at_home (λ h. implies (sound h && is_phase undoing h) (lost h)) undoing_lost w.home) (both (sound w.home) (is_phase undoing w.home) g.0 u) in
    let k = first (not z.home.past && not z.home.done) _ (after_lost later w l) in
    show_old z.home.past z.files (first (not z.home.past) (not z.home.done) k)
    (all_show z.home z.files (second (not z.home.past) (not z.home.done) k) (after_keeps later w g).1)
