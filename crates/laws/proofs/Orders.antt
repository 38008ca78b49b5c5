-- A bound that is counted from another place. Assumes nothing.
use Prim.Native.Nat.{ℕ, ◌+◌, ◌-◌}
use native.Mathlib.Omega.{arith}
use mathlib.Core.Bool.{Bool, true, false}
use mathlib.Core.Path.{◌≡◌, refl}
use lib.Dec.{leb}
use borrow.Author.Tests.{leb-true, leb-false, le-leb, lt-leb}

pub leb_shifted : (t c n : ℕ) → leb t (c + n) ≡ leb (t - c) n
leb_shifted t c n = by (leb (t - c) n) refl
  where
    by : (b : Bool) → leb (t - c) n ≡ b → leb t (c + n) ≡ b
    by true e = let h = leb-true (t - c) n e in le-leb t (c + n) (omega arith)
    by false e = let h = leb-false (t - c) n e in lt-leb t (c + n) (omega arith)
