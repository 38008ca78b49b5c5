-- The bytes of rows: so many rows are eight times as many bytes, and a row written after others is one row more. Assumes nothing.
use Prim.Native.Nat.{ℕ, ◌+◌, ◌*◌, ◌≤◌}
use native.Mathlib.Omega.{arith}
use mathlib.Core.List.{List, [], ◌∷◌, ◌++◌, append_assoc, append-nil}
use mathlib.Core.Path.{◌≡◌, refl, sym, ap, ◌∙◌}
use lib.ListN.{length, take, drop, length-append, length-drop}
use lib.Seq.{take_at, drop_at, drop-drop, length-take-le}
use Rattle.numbers.specs.Numbers.{over}
use Rattle.wake_log.specs.declared.Row.{Row}
use Rattle.wake_log.specs.Log.{row_bytes, with_row}
use Rattle.wake_log.proofs.Laws.{row_long}
use Rattle.log_theorems.specs.Wakes.{rows_bytes, with_rows}

pub rows_long : (rows : List Row) → length (rows_bytes rows) ≡ 8 * length rows
rows_long [] = refl
rows_long (row ∷ rows) =
    let l = length-append (row_bytes row) (rows_bytes rows) in
    let r = row_long row in
    let h = rows_long rows in
    omega (arith, l, r, h)

pub rows_append : (rows more : List Row) → rows_bytes (rows ++ more) ≡ rows_bytes rows ++ rows_bytes more
rows_append [] more = refl
rows_append (row ∷ rows) more =
    ap (λ (b : List ℕ). row_bytes row ++ b) (rows_append rows more) ∙ sym (append_assoc (row_bytes row) (rows_bytes rows) (rows_bytes more))

-- the first of the rows from the front
pub first_rows : (rows more : List Row) (log : List ℕ) → take (8 * length rows) (over (rows_bytes (rows ++ more)) log) ≡ rows_bytes rows
first_rows rows more log =
    let b = rows_bytes (rows ++ more) in
    ap (λ (bytes : List ℕ). take (8 * length rows) (bytes ++ drop (length b) log)) (rows_append rows more)
    ∙ ap (take (8 * length rows)) (append_assoc (rows_bytes rows) (rows_bytes more) (drop (length b) log))
    ∙ take_at (rows_bytes rows) (rows_bytes more ++ drop (length b) log) (8 * length rows) (rows_long rows)

-- rows after k: what stood before, the rows, what stood after
module _ (k : ℕ) (rows : List Row) (log : List ℕ) (h : 8 * k ≤ length log) where
  abbrev front : List ℕ
  front = take (8 * k) log ++ rows_bytes rows

  front_long : length front ≡ 8 * (k + length rows)
  front_long =
      let l = length-append (take (8 * k) log) (rows_bytes rows) in
      let t = length-take-le (8 * k) log h in
      let r = rows_long rows in
      omega (arith, l, t, r)

  parts : with_rows k rows log ≡ front ++ drop (8 * (k + length rows)) log
  parts =
      let r = rows_long rows in
      let e : 8 * k + length (rows_bytes rows) ≡ 8 * (k + length rows) = omega (arith, r) in
      rw (drop-drop (length (rows_bytes rows)) (8 * k) log, e) (sym (append_assoc (take (8 * k) log) (rows_bytes rows) _))

  pub rows_front : take (8 * (k + length rows)) (with_rows k rows log) ≡ take (8 * k) log ++ rows_bytes rows
  rows_front = ap (take (8 * (k + length rows))) parts ∙ take_at front _ _ front_long

  pub rows_rest : drop (8 * (k + length rows)) (with_rows k rows log) ≡ drop (8 * (k + length rows)) log
  rows_rest = ap (drop (8 * (k + length rows))) parts ∙ drop_at front _ _ front_long

  pub rows_keep_length : 8 * (k + length rows) ≤ length log → length (with_rows k rows log) ≡ length log
  rows_keep_length f =
      let e = ap length parts in
      let l = length-append front (drop (8 * (k + length rows)) log) in
      let g = front_long in
      let d = length-drop (8 * (k + length rows)) log in
      omega (arith, e, l, g, d, f)

  pub row_more : (row : Row) → with_row row (k + length rows) (with_rows k rows log) ≡ with_rows k (rows ++ row ∷ []) log
  unfolding with_row
  row_more row =
      let b = length-append (rows_bytes rows) (row_bytes row) in
      let r = rows_long rows in
      let e : 8 * (k + length rows) + length (row_bytes row) ≡ 8 * k + length (rows_bytes rows ++ row_bytes row) = omega (arith, b, r) in
      rw (
        rows_front,
        rows_rest,
        drop-drop (length (row_bytes row)) (8 * (k + length rows)) log,
        e,
        rows_append rows (row ∷ []),
        append-nil (row_bytes row),
        drop-drop (length (rows_bytes rows ++ row_bytes row)) (8 * k) log,
      )
      (append_assoc (take (8 * k) log) (rows_bytes rows) _ ∙ ap (λ (x : List ℕ). take (8 * k) log ++ x) (sym (append_assoc (rows_bytes rows) (row_bytes row) _)))
