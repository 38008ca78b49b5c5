-- What it is that a text begins with a line: the library's test, and the text after it. Assumes nothing.
use Prim.Native.Nat.{ℕ}
use native.Mathlib.Omega.{arith}
use Rattle.std.specs.List.{starts_with}
use mathlib.Core.Path.{◌≡◌, refl, sym, ap}
use mathlib.Core.Bool.{true, true≢false}
use mathlib.Core.List.{List, [], ◌∷◌, ◌++◌}
use lib.Dec.{eqb}
use lib.ListN.{length, drop}
use borrow.Author.Tests.{eq-eqb, eqb-true}
use Rattle.laws.proofs.Bools.{both}
use Rattle.listing_reading.specs.Reading.{begins}

-- the library's test
pub starts_begins : (w l : List ℕ) → starts_with eqb w l ≡ begins w l
unfolding begins
starts_begins w [] = refl
starts_begins [] (c ∷ l) = refl
starts_begins (d ∷ w) (c ∷ l) = rw (eqb_turned c d, starts_begins w l) refl
  where
    eqb_turned : (a b : ℕ) → eqb a b ≡ eqb b a
    eqb_turned a b = grind arith

-- a line and any text after it
pub begins_append : (l r : List ℕ) → begins (l ++ r) l ≡ true
unfolding begins
begins_append [] r = refl
begins_append (c ∷ l) r = rw (eq-eqb c c refl, begins_append l r)

-- what begins with a line is the line and a text after it
pub begins_rest : (w l : List ℕ) → begins w l ≡ true → w ≡ l ++ drop (length l) w
unfolding begins
begins_rest w [] e = refl
begins_rest [] (c ∷ l) e = absurd (true≢false (sym e))
begins_rest (d ∷ w) (c ∷ l) e =
    let b = both (eqb d c) (begins w l) e in
    rw (eqb-true d c b.0) (ap (λ (r : List ℕ). c ∷ r) (begins_rest w l b.1))
