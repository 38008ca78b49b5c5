-- A row's line, computed by the definitions: the published ones, and every cause behind the first. Assumes nothing.
use Prim.Native.Nat.{ℕ}
use mathlib.Core.List.{[], ◌∷◌}
use mathlib.Core.Path.{◌≡◌, refl}
use Rattle.printing.specs.Printing.{ascii, decimal_from}
use Rattle.wake_log.specs.declared.Row.{Row}
use Rattle.wakes_lines.specs.WakesLines.{behind_text, wake_text}

row : ℕ → ℕ → ℕ → Row
row cycle cause behind = record { cycle = cycle; cause = cause; behind = behind }

lines : wake_text (row 16384 3 0) ∷ wake_text (row 20000 0 34) ∷ wake_text (row 0 0 62) ∷ wake_text (row 4294967295 5 0) ∷ []
    ≡ ascii "16384 OCF\n" ∷ ascii "20000 NMI behind IRQ1 serial\n" ∷ ascii "0 NMI behind IRQ1 ICF OCF TOF serial\n" ∷ ascii "4294967295 serial\n" ∷ []
unfolding row wake_text behind_text decimal_from
lines = refl
