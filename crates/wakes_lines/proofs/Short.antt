-- A row's line is shown whole: it has at most 77 bytes. Assumes nothing.
use Prim.Native.Nat.{ℕ, zero, suc, ◌/◌, ◌%◌, ◌^◌}
use native.Mathlib.Omega.{arith}
use mathlib.Core.Bool.{Bool, true, false, cond}
use mathlib.Core.List.{List, []}
use mathlib.Core.Path.{◌≡◌, ap, ◌∙◌}
use lib.Dec.{eqb}
use Rattle.printing.specs.declared.Line.{Line}
use Rattle.printing.specs.Printing.{ascii, empty_line, puts_of, shown}
use Rattle.printing.proofs.Shown.{shown_whole, Short, ◌then◌, short, decimal_short}
use Rattle.lines.proofs.Short.{longer}
use Rattle.wake_log.specs.declared.Row.{Row}
use Rattle.wakes_lines.specs.WakesLines.{cause_name, listed, behind_text, wake_text}

name_short : (k : ℕ) → Short 7 (cause_name k)
name_short zero = longer (omega arith) (short (ascii " NMI"))
name_short (suc zero) = longer (omega arith) (short (ascii " IRQ1"))
name_short (suc (suc zero)) = longer (omega arith) (short (ascii " ICF"))
name_short (suc (suc (suc zero))) = longer (omega arith) (short (ascii " OCF"))
name_short (suc (suc (suc (suc zero)))) = longer (omega arith) (short (ascii " TOF"))
name_short (suc (suc (suc (suc (suc zero))))) = short (ascii " serial")
name_short (suc (suc (suc (suc (suc (suc k)))))) = longer (omega arith) (short [])

-- one of two texts
either_short : {n : ℕ} {a b : List ℕ} (t : Bool) → Short n a → Short n b → Short n (cond t a b)
either_short true p q = p
either_short false p q = q

listed_short : (mask k : ℕ) → Short 7 (listed mask k)
listed_short mask k = either_short (eqb (mask / 2 ^ k % 2) 1) (name_short k) (longer (omega arith) (short []))

behind_short : (mask : ℕ) → Short 49 (behind_text mask)
unfolding behind_text
behind_short mask =
    either_short (eqb mask 0) (longer (omega arith) (short []))
    (short (ascii " behind")
    then listed_short mask 0
    then listed_short mask 1
    then listed_short mask 2
    then listed_short mask 3
    then listed_short mask 4
    then listed_short mask 5)

wake_short : (row : Row) → Short 77 (wake_text row)
unfolding wake_text
wake_short row = decimal_short row.cycle then name_short row.cause then behind_short row.behind then short (ascii "\n")

-- what a row's line shows is its text, all of it
pub wake_shown : (row : Row) (r : Line) → r ≡ puts_of empty_line (wake_text row) → shown r ≡ wake_text row
wake_shown row r e = ap shown e ∙ shown_whole (wake_text row) (let h = (wake_short row).most in omega (arith, h))
