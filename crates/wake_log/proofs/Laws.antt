-- The laws of a row that is written after others: the rows before it and all bytes after it stay, and it is read back. Assumes nothing.
use Prim.Native.Nat.{ℕ, zero, suc, ◌+◌, ◌*◌, ◌-◌, ◌%◌, ◌^◌, ◌≤◌, ◌<◌}
use native.Mathlib.Omega.{arith}
use mathlib.Core.Bool.{true}
use mathlib.Core.List.{List, [], ◌++◌, append_assoc, append-nil}
use mathlib.Core.Path.{◌≡◌, refl, sym, ap, ◌∙◌}
use lib.ListN.{length, take, drop, get_or, length-append, length-drop, drop_of_length-le, get_or-append}
use lib.Pow.{pow_pos}
use lib.Seq.{take_all, take_at, drop_at, drop-drop, length-take-le, get_or-append-add}
use borrow.Author.Tests.{leb-true}
use Rattle.numbers.specs.Numbers.{byte_at, little_endian, over}
use Rattle.numbers.proofs.Laws.{four_back, Laid, laid_more}
use Rattle.wake_log.specs.declared.Row.{Row}
use Rattle.wake_log.specs.Log.{row_bytes, fits_row, with_row, row_at, is_wake, is_row}

pub row_long : (row : Row) → length (row_bytes row) ≡ 8
unfolding little_endian
row_long row = refl

-- a number put after others, as wide as the part that it is put into
pub put_after : {buffer p l : List ℕ} {a : ℕ} → Laid buffer p a l → (k n : ℕ) {q : List ℕ}
    → q ≡ little_endian (length (take k (drop a l))) n → a + k ≤ length buffer
    → Laid buffer (p ++ little_endian k n) (a + k) (take a l ++ (q ++ drop k (drop a l)))
put_after o k n e b = laid_more o k n b e

-- the four numbers that are put are the row's bytes
pub row_put : (row : Row) → row.cause < 256 → row.behind < 256
    → [] ++ little_endian 4 row.cycle ++ little_endian 1 row.cause ++ little_endian 1 row.behind ++ little_endian 2 0 ≡ row_bytes row
unfolding little_endian
row_put row c b =
    let e : row.cause % 256 ≡ row.cause = omega (arith, c) in
    let f : row.behind % 256 ≡ row.behind = omega (arith, b) in
    rw (e, f)

-- 2 for the cause 0, 4 for 1, and so on
pub step_of : (k : ℕ) → k ≤ 5 → (2 * 2 ^ k) % 256 ≡ 2 ^ (k + 1)
step_of zero h = refl
step_of (suc zero) h = refl
step_of (suc (suc zero)) h = refl
step_of (suc (suc (suc zero))) h = refl
step_of (suc (suc (suc (suc zero)))) h = refl
step_of (suc (suc (suc (suc (suc zero))))) h = refl
step_of (suc (suc (suc (suc (suc (suc k)))))) h = absurd (let z : ⊥ = omega (arith, h) in z)

pub step_positive : (k : ℕ) → k ≤ 5 → 0 < (2 * 2 ^ k) % 256
step_positive k h = rw (step_of k h) (pow_pos (k + 1))

pub room : (rows : ℕ) (log : List ℕ) → fits_row log rows ≡ true → 8 * rows + 8 ≤ length log
room rows log fits = leb-true _ _ fits

-- the part from a row's place to the log's end has room for it
pub part_room : (rows : ℕ) (log : List ℕ) → fits_row log rows ≡ true → 8 ≤ length (take (length log - 8 * rows) (drop (8 * rows) log))
part_room rows log fits =
    let r = room rows log fits in
    let d = length-drop (8 * rows) log in
    let t = length-take-le (length log - 8 * rows) (drop (8 * rows) log) (omega (arith, d)) in
    omega (arith, r, d, t)

-- a row put into that part
pub row_part : (row : Row) (rows : ℕ) (log : List ℕ) {q : List ℕ}
    → q ≡ over (row_bytes row) (take (length log - 8 * rows) (drop (8 * rows) log))
    → take (8 * rows) log ++ (q ++ drop (length log - 8 * rows) (drop (8 * rows) log)) ≡ with_row row rows log
unfolding with_row
row_part row rows log {q} e =
    let d = length-drop (8 * rows) log in
    let h : length (drop (8 * rows) log) ≤ length log - 8 * rows = omega (arith, d) in
    let p : q ≡ over (row_bytes row) (drop (8 * rows) log) = e ∙ ap (λ (x : List ℕ). over (row_bytes row) x) (take_all _ _ h) in
    rw (p, drop_of_length-le (drop (8 * rows) log) h, append-nil)

module _ (row : Row) (rows : ℕ) (log : List ℕ) (fits : fits_row log rows ≡ true) where
  front_long : length (take (8 * rows) log) ≡ 8 * rows
  front_long = length-take-le (8 * rows) log (let r = room rows log fits in omega (arith, r))

  filled_long : length (take (8 * rows) log ++ row_bytes row) ≡ 8 * (rows + 1)
  filled_long =
      let l = length-append (take (8 * rows) log) (row_bytes row) in
      let f = front_long in
      let b = row_long row in
      omega (arith, l, f, b)

  -- what stood before, the row, what stood after
  pub with_parts : with_row row rows log ≡ take (8 * rows) log ++ row_bytes row ++ drop (8 * (rows + 1)) log
  unfolding with_row
  with_parts =
      let k : 8 * rows + 8 ≡ 8 * (rows + 1) = omega arith in
      rw (row_long row, drop-drop 8 (8 * rows) log, k) (sym (append_assoc (take (8 * rows) log) (row_bytes row) _))

  pub with_rows_lem : take (8 * (rows + 1)) (with_row row rows log) ≡ take (8 * rows) log ++ row_bytes row
  with_rows_lem = ap (take (8 * (rows + 1))) with_parts ∙ take_at _ _ _ filled_long

  pub with_rest : drop (8 * (rows + 1)) (with_row row rows log) ≡ drop (8 * (rows + 1)) log
  with_rest = ap (drop (8 * (rows + 1))) with_parts ∙ drop_at (take (8 * rows) log ++ row_bytes row) _ _ filled_long

  pub with_before : take (8 * rows) (with_row row rows log) ≡ take (8 * rows) log
  unfolding with_row
  with_before = take_at _ _ _ front_long

  pub with_long : length (with_row row rows log) ≡ length log
  with_long =
      let e = ap length with_parts in
      let l = length-append (take (8 * rows) log ++ row_bytes row) (drop (8 * (rows + 1)) log) in
      let f = filled_long in
      let d = length-drop (8 * (rows + 1)) log in
      let r = room rows log fits in
      omega (arith, e, l, f, d, r)

  -- the row's bytes are read back, and the row
  with_byte : (k : ℕ) → k < 8 → byte_at (with_row row rows log) (8 * rows) k ≡ get_or (row_bytes row) k 0
  unfolding with_row
  with_byte k h =
      let b = row_long row in
      ap (λ (n : ℕ). get_or (with_row row rows log) (n + k) 0) (sym front_long)
      ∙ get_or-append-add (take (8 * rows) log) _ k 0
      ∙ get_or-append (row_bytes row) _ 0 k (omega (arith, h, b))

  pub row_back : row.cycle < 4294967296 → row_at (with_row row rows log) rows ≡ row
  unfolding little_endian
  row_back h =
      let e = four_back row.cycle _ _ _ _
      (with_byte 0 (omega arith)) (with_byte 1 (omega arith))
      (with_byte 2 (omega arith) ∙ omega arith) (with_byte 3 (omega arith) ∙ omega (arith, h)) in
      rw (e, with_byte 4 (omega arith), with_byte 5 (omega arith))

  -- and a row that a run writes is one that a run can have written
  pub written : row.cycle < 4294967296 → is_wake row ≡ true → is_row (with_row row rows log) rows ≡ true
  unfolding little_endian
  written h w = rw (row_back h, w, with_byte 6 (omega arith), with_byte 7 (omega arith))
