-- What `wakes` prints: "a line a row, `16384 OCF` or `20000 NMI behind IRQ1 serial`"; or the refusal of a row that no run writes.
use Rattle.std.specs.Prelude.{ℕ, ◌/◌, ◌%◌, ◌^◌, ◌<◌, true, false, cond, List, [], ◌∷◌, ◌++◌, ◌≡◌, eqb, get_or, Option, Some, None}
use Rattle.std.proofs.Math.Option.{none}
use Rattle.printing.specs.Printing.{ascii, decimal_of}
use Rattle.lines.specs.Lines.{counted, refused_text}
use Rattle.wake_log.specs.declared.Row.{Row}
use Rattle.wake_log.specs.Log.{is_row}

-- the first of so many rows that no run writes, or none where a run can have written them all
abbrev pub FirstBad : List ℕ → ℕ → Option ℕ → Type 0
FirstBad log rows None = (k : ℕ) → k < rows → is_row log k ≡ true
FirstBad log rows (Some r) = (r < rows) × ((k : ℕ) → k < r → is_row log k ≡ true) × (is_row log r ≡ false)

-- the six causes, in the order of their numbers, each after a blank
abbrev pub cause_names : List (List ℕ)
cause_names = ascii " NMI" ∷ ascii " IRQ1" ∷ ascii " ICF" ∷ ascii " OCF" ∷ ascii " TOF" ∷ ascii " serial" ∷ []

abbrev pub cause_name : ℕ → List ℕ
cause_name k = get_or cause_names k []

-- a cause of the mask: "bit k for cause k"
abbrev pub listed : ℕ → ℕ → List ℕ
listed mask k = cond (eqb (mask / 2 ^ k % 2) 1) (cause_name k) []

unfoldable pub behind_text : ℕ → List ℕ
behind_text mask =
    cond (eqb mask 0) []
    (ascii " behind" ++ listed mask 0 ++ listed mask 1 ++ listed mask 2 ++ listed mask 3 ++ listed mask 4 ++ listed mask 5)

unfoldable pub wake_text : Row → List ℕ
wake_text row = decimal_of row.cycle ++ cause_name row.cause ++ behind_text row.behind ++ ascii "\n"

-- `refused 37 row R`
unfoldable pub bad_row_text : ℕ → List ℕ
bad_row_text r = refused_text 37 none ++ counted " row " r ++ ascii "\n"
