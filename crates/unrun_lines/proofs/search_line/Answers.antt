-- `unrun_lines::search_line` meets its contract: an address, then the line's end. Assumes nothing.
use Rattle.printing.proofs.Laws.{puts_then}
use Rattle.unrun_lines.specs.UnrunLines.{search_text}
use Rattle.unrun_lines.proofs.search_line.Goals as goal

pub returns-in-Ok-Some : goal.returns-in-Ok-Some
unfolding search_text
returns-in-Ok-Some c =
    let some = rw c.in-Ok-Some.is at c.in-Ok-Some.field-0-is in
    rw (c.in-Ok-Some.is, some, ← c.empty.ensures) (puts_then _ _ _ c.word.ensures c.text.ensures)
