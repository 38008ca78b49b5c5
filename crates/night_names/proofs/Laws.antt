-- The laws of a name's last part, and of the names and places that are joined. Assumes nothing.
use Prim.Native.Nat.{ℕ, ◌+◌, ◌-◌, ◌≤◌, ◌<◌}
use native.Mathlib.Numerals.{add-one}
use native.Mathlib.Omega.{arith}
use mathlib.Core.List.{List}
use mathlib.Core.Path.{◌≡◌, refl, sym, ap, ◌∙◌}
use lib.Dec.{eqb}
use lib.ListN.{length, get_or, take, drop, drop_of_length-le}
use lib.Seq.{drop-cons}
use Rattle.laws.proofs.Conds.{cases}
use Rattle.laws.proofs.Lists.{take_rest}
use Rattle.printing.specs.Printing.{ascii}
use Rattle.night_arguments.specs.Arguments.{joined_of}
use Rattle.night_names.specs.Names.{begins_at, last_from, last_at, with_name, names_of, name_at, named_place, work_of}

pub last_next : (l : List ℕ) (i at : ℕ) → i < length l → last_from i at (drop i l) ≡ last_from (i + 1) (begins_at (get_or l i 0) (i + 1) at) (drop (i + 1) l)
unfolding last_from
last_next l i at h =
    ap (last_from i at) (drop-cons l i 0 h) ∙ ap (λ (k : ℕ). last_from (i + 1) (begins_at (get_or l i 0) (i + 1) at) (drop k l)) (sym (add-one i))

pub last_end : (l : List ℕ) (i at : ℕ) → length l ≤ i → last_from i at (drop i l) ≡ at
unfolding last_from
last_end l i at h = ap (last_from i at) (drop_of_length-le l h)

pub last_start : (l : List ℕ) → last_at l ≡ last_from 0 0 l
unfolding last_at
last_start l = refl

pub begins_within : (byte behind at : ℕ) → at ≤ behind → begins_at byte behind at ≤ behind
begins_within byte behind at h = cases (λ (k : ℕ). k ≤ behind) (eqb byte 47) (λ e. omega arith) (λ e. h)

-- the names of a night, and the places by them, as the code has them: a part from a place on is all that follows it
pub named_is : (k : ℕ) (state names name : List ℕ) (room : ℕ) {f : ℕ} → f ≡ last_at state → name ≡ name_at k names
    → joined_of (take f state) name room ≡ named_place k state names room
unfolding named_place
named_is k state names name room e h = rw (e, h)

pub with_is : (names file : List ℕ) (room : ℕ) {a size : ℕ} {front : List ℕ} → a ≡ last_at file → 4096 ≡ size → front ≡ joined_of names (ascii "/") size
    → joined_of front (take (length file - a) (drop a file)) room ≡ with_name names file room
unfolding with_name
with_is names file room e s h = rw (h, ← s, e, take_rest (last_at file) file)

pub names_is : (image output : List ℕ) (room : ℕ) {a : ℕ} → a ≡ last_at image → with_name (take (length image - a) (drop a image)) output room ≡ names_of image output room
unfolding names_of
names_is image output room e = rw (e, take_rest (last_at image) image)

pub work_is : (state folder place : List ℕ) (room : ℕ) {a size : ℕ} {front : List ℕ} → a ≡ last_at place → 4096 ≡ size
    → front ≡ joined_of state folder size
    → joined_of front (take (length place - a) (drop a place)) room ≡ work_of state folder place room
unfolding work_of
work_is state folder place room e s h = rw (h, ← s, e, take_rest (last_at place) place)
