-- The laws of a line: 28 cells have it at their front, and how many characters it has. Assumes nothing.
use Prim.Native.Nat.{ℕ, ◌≤◌}
use native.Mathlib.Omega.{arith}
use mathlib.Core.Path.{◌≡◌, refl}
use mathlib.Core.Bool.{Bool, true, false, cond}
use mathlib.Core.List.{List}
use lib.Dec.{eqb}
use lib.ListN.{get_or, length, take}
use Rattle.std.specs.Prelude.{Option, None, Some}
use Rattle.opcodes.specs.declared.Instruction.{Instruction}
use Rattle.listing_lines.specs.Lines.{form_of, published_line, item_line}
use Rattle.listing_lines.specs.Cells.{head_of, ending_of, fourth_of, size_of, item_size, cells_of}
use Rattle.listing_lines.specs.declared.Form.{Form}
use Rattle.listing_lines.specs.declared.Form.TheVariants.{Bare, HashByte, HashWord, Byte, Word, Indexed}

-- the line stands at the front of its cells
pub cells_line : (address : ℕ) (column name : List ℕ) (form : Form) (v : ℕ)
    → take (size_of (get_or name 3 0) form) (cells_of (head_of address column) name (fourth_of (get_or name 3 0) form) (ending_of form v))
    ≡ published_line address column name form v
unfolding published_line
cells_line address column name HashByte v = refl
cells_line address column name HashWord v = refl
cells_line address column name Byte v = refl
cells_line address column name Word v = refl
cells_line address column name Indexed v = refl
cells_line address column name Bare v = by (eqb (get_or name 3 0) 32) refl
  where
    by : (t : Bool) → eqb (get_or name 3 0) 32 ≡ t
        → take (size_of (get_or name 3 0) Bare) (cells_of (head_of address column) name (fourth_of (get_or name 3 0) Bare) (ending_of Bare v))
        ≡ published_line address column name Bare v
    by true e = rw e
    by false e = rw e

-- a line's characters
pub line_size : (address : ℕ) (column name : List ℕ) (form : Form) (v : ℕ) → length (published_line address column name form v) ≡ size_of (get_or name 3 0) form
unfolding published_line
line_size address column name HashByte v = refl
line_size address column name HashWord v = refl
line_size address column name Byte v = refl
line_size address column name Word v = refl
line_size address column name Indexed v = refl
line_size address column name Bare v = by (eqb (get_or name 3 0) 32) refl
  where
    by : (t : Bool) → eqb (get_or name 3 0) 32 ≡ t → length (published_line address column name Bare v) ≡ size_of (get_or name 3 0) Bare
    by true e = rw e
    by false e = rw e

-- they are 20 to 28
pub size_least : (c : ℕ) (form : Form) → 20 ≤ size_of c form
size_least c HashByte = omega arith
size_least c HashWord = omega arith
size_least c Byte = omega arith
size_least c Word = omega arith
size_least c Indexed = omega arith
size_least c Bare = by (eqb c 32)
  where
    by : (t : Bool) → 20 ≤ cond t 20 21
    by true = omega arith
    by false = omega arith

pub size_most : (c : ℕ) (form : Form) → size_of c form ≤ 28
size_most c HashByte = omega arith
size_most c HashWord = omega arith
size_most c Byte = omega arith
size_most c Word = omega arith
size_most c Indexed = omega arith
size_most c Bare = by (eqb c 32)
  where
    by : (t : Bool) → cond t 20 21 ≤ 28
    by true = omega arith
    by false = omega arith

-- those of what is listed
pub item_size_lem : (address : ℕ) (shown : Option Instruction) (first second third : ℕ) → length (item_line address shown first second third) ≡ item_size shown
unfolding item_line
item_size_lem address None first second third = line_size address _ _ Byte _
item_size_lem address (Some i) first second third = line_size address _ _ _ _

pub item_least : (shown : Option Instruction) → 20 ≤ item_size shown
item_least None = omega arith
item_least (Some i) = size_least _ (form_of i.place)
