-- The lines of `unrun`, computed by the definition. Assumes nothing.
use mathlib.Core.List.{[], ◌∷◌}
use Rattle.std.specs.Prelude.{None, Some}
use mathlib.Core.Path.{◌≡◌, refl}
use Rattle.printing.specs.Printing.{ascii, decimal_from}
use Rattle.lines.specs.Lines.{refused_text}
use Rattle.asking.specs.Asking.{gives, replies}
use Rattle.unrun_lines.specs.UnrunLines.{search_text}

lines : search_text (gives (Some 61440)) ∷ search_text (gives (Some 10)) ∷ search_text (gives None) ∷ search_text (replies 15) ∷ []
    ≡ ascii "F000\n" ∷ ascii "000A\n" ∷ ascii "none\n" ∷ ascii "refused 15\n" ∷ []
unfolding search_text refused_text decimal_from
lines = refl
