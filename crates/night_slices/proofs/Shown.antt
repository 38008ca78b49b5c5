-- The night's line shows its text, all of it. Assumes nothing.
use Rattle.std.proofs.Common.{◌≡◌}
use Rattle.printing.specs.declared.Line.{Line}
use Rattle.printing.specs.Printing.{empty_line, puts_of, shown}
use Rattle.night_lines.proofs.Short.{end_shown}
use Rattle.night_slices.specs.Slices.{Standing, night_text}

pub night_shown : (s : Standing) (r : Line) → r ≡ puts_of empty_line (night_text s) → shown r ≡ night_text s
unfolding night_text
night_shown s r e = end_shown s.told s.slices _ s.leaps s.machine.chip.registers r e
