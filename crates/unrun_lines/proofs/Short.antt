-- The line of `unrun` is shown whole: it has at most 201 bytes. Assumes nothing.
use Prim.Native.Nat.{ℕ}
use native.Mathlib.Omega.{arith}
use mathlib.Core.List.{List}
use mathlib.Core.Option.{none}
use Rattle.std.specs.Prelude.{Option, None, Some}
use mathlib.Core.Path.{◌≡◌, ap, ◌∙◌}
use Rattle.printing.specs.declared.Line.{Line}
use Rattle.printing.specs.Printing.{ascii, empty_line, puts_of, shown}
use Rattle.printing.proofs.Shown.{shown_whole, Short, ◌then◌, short, hexadecimal_short}
use Rattle.lines.proofs.Short.{longer, refused_short}
use Rattle.asking.specs.Asking.{Given, gives, replies}
use Rattle.unrun_lines.specs.UnrunLines.{search_text, unrun_text}

search_short : (answer : Given (Option ℕ)) → Short 201 (search_text answer)
unfolding search_text
search_short (gives (Some at)) = longer (omega arith) (hexadecimal_short 4 at then short (ascii "\n"))
search_short (gives None) = longer (omega arith) (short (ascii "none\n"))
search_short (replies k) = refused_short k none then short (ascii "\n")

unrun_short : (file : List ℕ) (first last : ℕ) → Short 201 (unrun_text file first last)
unfolding unrun_text
unrun_short file first last = search_short _

-- what the line shows is its text, all of it
pub unrun_shown : (file : List ℕ) (first last : ℕ) (r : Line) → r ≡ puts_of empty_line (unrun_text file first last) → shown r ≡ unrun_text file first last
unrun_shown file first last r e = ap shown e ∙ shown_whole (unrun_text file first last) (let h = (unrun_short file first last).most in omega (arith, h))
