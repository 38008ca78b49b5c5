-- A test that is known picks its side, and what holds of both sides holds of the pick. Assumes nothing.
use mathlib.Core.Path.{◌≡◌, refl, ap}
use mathlib.Core.Bool.{Bool, true, false, cond}

pub picks : {A : Type 0} {b : Bool} (x y : A) → b ≡ true → cond b x y ≡ x
picks x y e = ap (λ (t : Bool). cond t x y) e

pub passes : {A : Type 0} {b : Bool} (x y : A) → b ≡ false → cond b x y ≡ y
passes x y e = ap (λ (t : Bool). cond t x y) e

pub cases : {A : Type 0} (P : A → Type 0) (b : Bool) {x y : A} → (b ≡ true → P x) → (b ≡ false → P y) → P (cond b x y)
cases P true f g = f refl
cases P false f g = g refl

-- two picks by one test
pub cases2 : {A B : Type 0} (P : A → B → Type 0) (b : Bool) {x y : A} {u v : B}
    → (b ≡ true → P x u) → (b ≡ false → P y v) → P (cond b x y) (cond b u v)
cases2 P true f g = f refl
cases2 P false f g = g refl
