-- What cannot be: hypotheses that make two different cases equal make 0 equal to 1 (`cc` finds it: `apart cc`). Assumes nothing.
use Prim.Native.Nat.{ℕ}
use native.Mathlib.Omega.{arith}
use mathlib.Core.Path.{◌≡◌}

pub apart : {R : Type 0} → ◌≡◌ {A = ℕ} 0 1 → R
apart z = absurd (let w : ⊥ = omega arith in w)
