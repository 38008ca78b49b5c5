-- A line to which nothing is put. Assumes nothing.
use mathlib.Core.List.{[]}
use mathlib.Core.Path.{◌≡◌, refl}
use Rattle.printing.specs.Printing.{puts_of}
use Rattle.printing.specs.declared.Line.{Line}

pub puts_none : (line : Line) → line ≡ puts_of line []
unfolding puts_of
puts_none line = refl
