-- Where the area stands: $80 to $FF with bit 6 of $14 clear; elsewhere the image. Assumes nothing.
use Prim.Native.Nat.{ℕ, ◌-◌, ◌≤◌, ◌<◌}
use native.Mathlib.Omega.{arith}
use native.Mathlib.Decide.{dec_le}
use mathlib.Core.Path.{◌≡◌, refl}
use mathlib.Core.Bool.{Bool, true, false, not, and-false}
use lib.Dec.{ltb, leb}
use lib.ListN.{get_or}
use borrow.Author.Tests.{lt-ltb, le-ltb, le-leb, lt-leb, leb-true, ltb-true, not-true}
use Rattle.laws.proofs.Bools.{both}
use Rattle.bus.specs.Access.{Memories, is_ram, in_area, held_at, writable}

pub in_ram : (at : ℕ) → 128 ≤ at → at < 256 → is_ram at ≡ true
in_ram at l h = rw (le-leb 128 at l, lt-ltb at 256 h)

pub no_ram : (at : ℕ) → (128 ≤ at → 256 ≤ at) → is_ram at ≡ false
no_ram at other = by (dec_le 128 at)
  where
    by : Dec (128 ≤ at) → is_ram at ≡ false
    by (yes h) = rw (le-ltb at 256 (other h)) (and-false (leb 128 at))
    by (no h) = rw (lt-leb 128 at (omega arith))

-- the area stands there: bit 6 is clear, from $80 on, below $0100
pub area_clear : (rame : Bool) (at : ℕ) → in_area rame at ≡ true → rame ≡ false
area_clear rame at h = not-true rame (both (not rame) (is_ram at) h).0

pub area_from : (rame : Bool) (at : ℕ) → in_area rame at ≡ true → 128 ≤ at
area_from rame at h = leb-true 128 at (both (leb 128 at) (ltb at 256) (both (not rame) (is_ram at) h).1).0

pub area_below : (rame : Bool) (at : ℕ) → in_area rame at ≡ true → at < 256
area_below rame at h = ltb-true at 256 (both (leb 128 at) (ltb at 256) (both (not rame) (is_ram at) h).1).1

-- with bit 6 set, and outside $80 to $FF, it does not
pub set_no_area : (rame : Bool) (at : ℕ) → rame ≡ true → in_area rame at ≡ false
set_no_area rame at e = rw e

pub outside_no_area : (rame : Bool) (at : ℕ) → (128 ≤ at → 256 ≤ at) → in_area rame at ≡ false
outside_no_area rame at other = rw (no_ram at other) (and-false (not rame))

-- what memory holds, by whether the area stands there
pub held_area : (memory : Memories) (rame : Bool) (at : ℕ) → in_area rame at ≡ true → held_at memory rame at ≡ get_or memory.area (at - 128) 0
held_area memory rame at h = rw h

pub held_image : (memory : Memories) (rame : Bool) (at : ℕ) → in_area rame at ≡ false → held_at memory rame at ≡ get_or memory.image at 0
held_image memory rame at h = rw h

-- where the image stands a write is taken as with bit 6 set
pub image_writable : (rame : Bool) (r at : ℕ) → in_area rame at ≡ false → writable rame r at ≡ writable true r at
image_writable true r at h = refl
image_writable false r at h = rw h
