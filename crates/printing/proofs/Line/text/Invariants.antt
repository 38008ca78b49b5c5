-- `Line::text` meets its contract: each turn puts one byte more. Assumes nothing.
use mathlib.Core.Path.{◌≡◌}
use lib.ListN.{drop}
use Rattle.printing.specs.Printing.{puts_of}
use Rattle.printing.proofs.Line.text.Given as goal

abbrev pub invariant-loop-byte : goal.invariant-loop-byte
invariant-loop-byte l = puts_of l.initial.line l.text ≡ puts_of l.line (drop l.byte-index l.text)
