-- The wake log: "8-byte rows", one for each interrupt entry.
use Rattle.std.specs.Prelude.{ℕ, ◌+◌, ◌*◌, ◌%◌, ◌^◌, Bool, ◌&&◌, List, [], ◌∷◌, ◌++◌, leb, ltb, eqb, length, take, drop}
use Rattle.numbers.specs.Numbers.{byte_at, four, little_endian, over}
use Rattle.wake_log.specs.declared.Row.{Row}

-- bytes 0 to 3 the cycle, 4 the cause (0 NMI, 1 IRQ1, 2 ICF, 3 OCF, 4 TOF, 5 serial), 5 the mask of the causes behind it (bit k for cause k),
-- 6 and 7 zero, and written
abbrev pub row_bytes : Row → List ℕ
row_bytes row = little_endian 4 row.cycle ++ (row.cause ∷ row.behind ∷ 0 ∷ 0 ∷ [])

-- "room is length / 8": there is room for a row after so many
abbrev pub fits_row : List ℕ → ℕ → Bool
fits_row log rows = leb (8 * rows + 8) (length log)

-- a row after so many; "bytes after the rows are unchanged"
unfoldable pub with_row : Row → ℕ → List ℕ → List ℕ
with_row row rows log = take (8 * rows) log ++ over (row_bytes row) (drop (8 * rows) log)

-- the row of this number
abbrev pub row_at : List ℕ → ℕ → Row
row_at log k = record { cycle = four log (8 * k) 0; cause = byte_at log (8 * k) 4; behind = byte_at log (8 * k) 5 }

-- one of the six causes; "bits up to the cause itself are 0"
unfoldable pub is_wake : Row → Bool
is_wake row = leb row.cause 5 && (ltb row.behind 64 && eqb (row.behind % 2 ^ (row.cause + 1)) 0)

-- a run can have written the row of this number
abbrev pub is_row : List ℕ → ℕ → Bool
is_row log k = is_wake (row_at log k) && (eqb (byte_at log (8 * k) 6) 0 && eqb (byte_at log (8 * k) 7) 0)
