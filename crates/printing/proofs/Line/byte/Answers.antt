-- `Line::byte` meets its contract: the two digits of a byte. Assumes nothing.
use native.Mathlib.Omega.{arith}
use Rattle.printing.proofs.Laws.{puts_byte}
use Rattle.printing.proofs.Line.byte.Goals as goal

pub returns : goal.returns
returns c = rw (c.put-2.ensures, c.put.ensures, c.digit.ensures, c.digit-2.ensures)
    (puts_byte _ c.args.v (omega arith))
