-- Plain accesses see no time: a tree of plain accesses comes on every bus, in whatever cycles they stand, to what it comes to on the image alone, and
-- leaves the bus with the instruction's cycles passed. Assumes nothing.
use Prim.Native.Nat.{ℕ, ◌+◌, ◌-◌, ◌≤◌}
use native.Mathlib.Nat.{le_trans}
use native.Mathlib.Omega.{arith}
use mathlib.Core.Path.{◌≡◌, refl, sym, ap, ◌∙◌}
use mathlib.Core.Bool.{Bool, true, false}
use mathlib.Core.List.{List, [], ◌∷◌}
use lib.ListN.{get_or}
use Rattle.timing.proofs.Rising.{Below}
use Rattle.bus.specs.declared.Bus.{Bus}
use Rattle.bits.specs.declared.Read.{Read}
use Rattle.bus.specs.Access.{Memories, memories, in_area, fetched, read_of, store_of, plain_store}
use Rattle.bus.specs.Units.{passed}
use Rattle.bus.proofs.Area.{outside_no_area}
use Rattle.bus.proofs.Ranges.{passed_add}
use Rattle.bus.proofs.Stores.{image_read, plain_write, plain_store_lem}
use Rattle.moments.specs.Moment.{Moment, moment, begun, to_next, next, read_at, write_at, stored_at, ended}
use Rattle.chip.specs.Act.{Act, Act.done, Act.reading, Act.writing, run, End, end, ending, timed}
use Rattle.plain.specs.Plainly.{floor_of, Came, on_image, Plain, Comes}

-- from the floor on no register stands, and no area
no_register : (rame : Bool) (at : ℕ) → floor_of rame ≤ at → 32 ≤ at
no_register true at h = h
no_register false at h = omega arith

no_area : (rame : Bool) (at : ℕ) → floor_of rame ≤ at → in_area rame at ≡ false
no_area true at h = refl
no_area false at h = outside_no_area false at (λ _. h)

pub reads_image : (image area : List ℕ) (at : ℕ) (b : Bus) → floor_of b.rame ≤ at → read_of (memories image area) at b ≡ fetched (get_or image at 0) b
reads_image image area at b h = image_read (memories image area) at b (no_register b.rame at h) (no_area b.rame at h)

stores_image : (image area : List ℕ) (at v : ℕ) (b : Bus) → floor_of b.rame ≤ at
    → store_of b at v (memories image area) ≡ memories (plain_store b.r at v image) area
stores_image image area at v b h = plain_store_lem b at v image area (no_register b.rame at h) (no_area b.rame at h)

-- a moment of an instruction of n cycles, on such a bus: no more have passed, and no access stands after them
record Amid (n floor start : ℕ) (o : Moment) : Type 0 where
  cycle : o.cycle ≤ n
  ahead : Below n o.ahead
  above : floor_of o.bus.rame ≤ floor
  starts : o.bus.r ≡ start

-- so it is at the next access
next_amid : (n floor start : ℕ) (b : Bus) (c : ℕ) (ks : List ℕ) → Amid n floor start (moment b c ks) → Amid n floor start (to_next b c ks)
unfolding to_next passed
next_amid n floor start b c [] h = h
next_amid n floor start b c (k ∷ ks) h =
    let p = h.cycle in
    let q = h.ahead.0 in
    record { cycle = omega arith; ahead = h.ahead.1; above = h.above; starts = h.starts }

-- .. from where the rest of the cycles comes to the same: cycles that pass in parts pass at once
next_ended : (n floor start : ℕ) (b : Bus) (c : ℕ) (ks : List ℕ) → Amid n floor start (moment b c ks) → ended n (to_next b c ks) ≡ ended n (moment b c ks)
unfolding to_next ended
next_ended n floor start b c [] h = refl
next_ended n floor start b c (k ∷ ks) h =
    let p = h.cycle in
    let q = h.ahead.0 in
    let g = k - 1 - c in
    let e : g + (n - (c + g)) ≡ n - c = omega arith in
    sym (passed_add g (n - (c + g)) b) ∙ ap (λ (x : ℕ). passed x b) e

-- what a tree comes to on the image, with the bus and the area
abbrev with_bus : {A : Type 0} → List ℕ → Came A → Bus → End A
with_bus area c b = end c.value b (memories c.image area)

plain_run : {A : Type 0} (n floor start : ℕ) (area : List ℕ) (t : Act A) (o : Moment) (image : List ℕ) → Amid n floor start o → Plain t floor start image
    → ending n (run t o (memories image area)) ≡ with_bus area (on_image t start image) (ended n o)
unfolding run read_at write_at stored_at Plain on_image
plain_run n floor start area (done a) o image f h = refl
plain_run n floor start area (reading at k) o image f h =
    let g = next_amid n floor start o.bus o.cycle o.ahead f in
    let v = get_or image at 0 in
    ap (λ (x : Read ℕ Bus). ending n (run (k x.value) (moment x.next (next o).cycle (next o).ahead) (memories image area)))
    (reads_image image area at (next o).bus (le_trans g.above h.0))
    ∙ plain_run n floor start area (k v) (next o) image g h.1
    ∙ ap (with_bus area (on_image (k v) start image)) (next_ended n floor start o.bus o.cycle o.ahead f)
plain_run n floor start area (writing at v t) o image f h =
    let g = next_amid n floor start o.bus o.cycle o.ahead f in
    let l = le_trans g.above h.0 in
    let after = plain_store start at v image in
    ap (λ (x : Bus). ending n (run t (moment x (next o).cycle (next o).ahead) (store_of (next o).bus at v (memories image area))))
    (plain_write at v (next o).bus (no_register (next o).bus.rame at l))
    ∙ ap (λ (x : Memories). ending n (run t (next o) x))
    (stores_image image area at v (next o).bus l ∙ ap (λ (r : ℕ). memories (plain_store r at v image) area) g.starts)
    ∙ plain_run n floor start area t (next o) after g h.1
    ∙ ap (with_bus area (on_image t start after)) (next_ended n floor start o.bus o.cycle o.ahead f)

-- a tree on plain addresses comes to the same whatever the cycles of its accesses, and leaves the bus with its n cycles passed
pub timed_plain : {A : Type 0} (ks : List ℕ) (n floor start : ℕ) (t : Act A) (b : Bus) (image area : List ℕ) → Below n ks
    → floor_of b.rame ≤ floor → b.r ≡ start → Plain t floor start image
    → timed ks n t b (memories image area) ≡ end (on_image t start image).value (passed n b) (memories (on_image t start image).image area)
unfolding timed ended
timed_plain ks n floor start t b image area f above starts h =
    let y : n - 0 ≡ n = omega arith in
    plain_run n floor start area t (begun ks b) image (record { cycle = omega arith; ahead = f; above = above; starts = starts }) h
    ∙ ap (λ (k : ℕ). with_bus area (on_image t start image) (passed k b)) y

pub timed_comes : {A : Type 0} (ks : List ℕ) (n floor start : ℕ) (t : Act A) (b : Bus) (image area : List ℕ) {a : A} {after : List ℕ} → Below n ks
    → floor_of b.rame ≤ floor → b.r ≡ start → Comes t floor start image a after
    → timed ks n t b (memories image area) ≡ end a (passed n b) (memories after area)
timed_comes {A} ks n floor start t b image area f above starts h =
    timed_plain ks n floor start t b image area f above starts h.0
    ∙ ap (λ (c : Came A). with_bus area c (passed n b)) h.1
