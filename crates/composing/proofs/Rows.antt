-- Rows after a first run's rows: the one log has them at its front, the other begins behind them, and each row goes to the same place
-- with the same bytes. Assumes nothing.
use Prim.Native.Nat.{ℕ, ◌+◌, ◌*◌, ◌-◌, ◌%◌, ◌^◌}
use native.Mathlib.Omega.{arith}
use mathlib.Core.Bool.{Bool, true, false, not, cond, ◌&&◌}
use mathlib.Core.List.{List, ◌++◌, append_assoc}
use mathlib.Core.Path.{◌≡◌, refl, ap, ◌∙◌}
use lib.Dec.{leb}
use lib.ListN.{length, take, drop, length-append, take-append-drop}
use lib.Seq.{take-append-add, drop-append-add, drop_at}
use Rattle.laws.proofs.Orders.{leb_shifted}
use Rattle.numbers.specs.Numbers.{over}
use Rattle.wake_log.specs.declared.Row.{Row}
use Rattle.wake_log.specs.Log.{row_bytes, fits_row, with_row}

-- a log whose first k bytes were written: those it had, and behind them what it has, are what it was
pub log_back : (k : ℕ) (before after : List ℕ) → length (take k after) ≡ k → after ≡ take k after ++ drop k before → take k before ++ drop k after ≡ before
log_back k before after long e =
    ap (λ (d : List ℕ). take k before ++ d) (ap (drop k) e ∙ drop_at (take k after) (drop k before) k long) ∙ take-append-drop k before

-- a bound within a list and within what follows its front
pub leb_behind : (c i j : ℕ) → leb (c + i) (c + j) ≡ leb i j
leb_behind c i j = leb_shifted (c + i) c j ∙ ap (λ (k : ℕ). leb k j) (let e : c + i - c ≡ i = omega arith in e)

-- the cycle of a row, counted from the first run's start and from the second's
pub cycle_later : (since before cycles : ℕ) → (since + (before + cycles)) % 2 ^ 32 ≡ ((since + before) % 2 ^ 32 + cycles) % 2 ^ 32
cycle_later since before cycles = omega arith

module _ (front log : List ℕ) (before rows : ℕ) (full : length front ≡ 8 * before) where
  place_behind : 8 * (before + rows) ≡ length front + 8 * rows
  place_behind = omega (arith, full)

  fits_behind : fits_row (front ++ log) (before + rows) ≡ fits_row log rows
  fits_behind =
      let e : 8 * (before + rows) + 8 ≡ length front + (8 * rows + 8) = omega (arith, full) in
      rw (e, length-append front log) (leb_behind (length front) (8 * rows + 8) (length log))

  with_behind : (row : Row) → with_row row (before + rows) (front ++ log) ≡ front ++ with_row row rows log
  unfolding with_row
  with_behind row =
      rw (place_behind, take-append-add front log (8 * rows), drop-append-add front log (8 * rows))
      (append_assoc front (take (8 * rows) log) (over (row_bytes row) (drop (8 * rows) log)))

-- .. where the log is asked for
pub lacks_behind : (asked : Bool) (front log : List ℕ) (before rows : ℕ) → length front ≡ cond asked (8 * before) 0
    → (asked && not (fits_row (front ++ log) (before + rows))) ≡ (asked && not (fits_row log rows))
lacks_behind true front log before rows full = ap not (fits_behind front log before rows full)
lacks_behind false front log before rows full = refl

pub logged_behind : (asked : Bool) (front log : List ℕ) (before rows : ℕ) (row : Row) → length front ≡ cond asked (8 * before) 0
    → cond asked (with_row row (before + rows) (front ++ log)) (front ++ log) ≡ front ++ cond asked (with_row row rows log) log
logged_behind true front log before rows row full = with_behind front log before rows full row
logged_behind false front log before rows row full = refl
