-- `listing_marks::put_line` meets its contract: the column's two characters, then the line. Assumes nothing.
use native.Mathlib.Omega.{arith}
use Rattle.listing_marks.specs.Marks.{marked_line}
use Rattle.listing_marks.proofs.Laws.{puts_line}
use Rattle.listing_marks.proofs.put_line.Goals as goal

pub returns : goal.returns
unfolding marked_line
returns c = let a = c.args in
    let line = c.line_at-text.ensures in (
      rw (← c.bytes_of.ensures, ← c.mark.ensures) (puts_line a.buffer.now a.at _ line.0 c.put.ensures),
      omega (arith, line.1),
      omega (arith, line.2),
    )
