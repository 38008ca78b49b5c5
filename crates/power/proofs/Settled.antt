-- When power-on gives a reply, in 01's words, and when it gives a machine; any two results that its contract admits are equal.
-- Assumes nothing.
use Rattle.std.specs.Prelude.{Result, Ok, Err}
use Prim.Native.Nat.{ℕ, ◌≤◌, ◌<◌}
use native.Mathlib.Omega.{arith}
use mathlib.Core.Path.{◌≡◌, refl, sym, ap, ◌∙◌}
use mathlib.Core.Bool.{cond}
use mathlib.Core.List.{List, []}
use mathlib.Core.Logic.{◌↔◌}
use lib.Dec.{eqb}
use lib.ListN.{length}
use Rattle.bus.specs.Access.{memories}
use Rattle.machine.specs.declared.Machine.{Machine}
use Rattle.machine.specs.declared.PowerRefusal.{PowerRefusal}
use Rattle.machine.specs.declared.PowerRefusal.TheVariants.{WrongImage, WrongStart}
use Rattle.machine.specs.Machine.{Ranges, reset_of, cold}
use Rattle.machine.proofs.Ranges.{ranges_say, power_ranges}
use Rattle.machine.proofs.PowerOn.{power_cases, machine_given}
use Rattle.laws.proofs.Known.{known}
use Rattle.asking.specs.Asking.{Given, gives, replies}
use Rattle.power.specs.Power.{told_power, power_answer}

-- a reply's number; 0 stands for a value
abbrev number : {A : Type 0} → Given A → ℕ
number (gives a) = 0
number (replies k) = k

module _ (image : List ℕ) (r : ℕ) where
  -- 1: "the image is not 65,536 bytes"
  pub power_1 : (power_answer image r ≡ replies 1) ↔ (length image ≡ 65536 → ⊥)
  power_1 = (
    (λ e.
        power_cases (λ (p : Result Machine PowerRefusal). number (told_power p) ≡ 1 → length image ≡ 65536 → ⊥) image r
        (λ l d. l)
        (λ l h d. omega arith)
        (λ l h d. omega arith)
        (ap number e)),
    (λ l. power_cases (λ (p : Result Machine PowerRefusal). told_power p ≡ replies 1) image r (λ _. refl) (λ h _. absurd (l h)) (λ h _. absurd (l h))),
  )

  -- 2: "the R given (above 65,536: reply 2)"
  pub power_2 : (power_answer image r ≡ replies 2) ↔ ((length image ≡ 65536) × (65536 < r))
  power_2 = (
    (λ e.
        power_cases (λ (p : Result Machine PowerRefusal). number (told_power p) ≡ 2 → (length image ≡ 65536) × (65536 < r)) image r
        (λ l d. absurd (let z : ⊥ = omega arith in z))
        (λ l h d. (l, h))
        (λ l h d. absurd (let z : ⊥ = omega arith in z))
        (ap number e)),
    (λ q.
        power_cases (λ (p : Result Machine PowerRefusal). told_power p ≡ replies 2) image r (λ l. absurd (l q.0)) (λ _ _. refl)
        (λ _ h. absurd (let l = q.1 in let z : ⊥ = omega arith in z))),
  )

  -- else a machine, in its ranges
  pub power_gives : let m = reset_of (memories image []) (cold r) in
      length image ≡ 65536 → r ≤ 65536 → (power_answer image r ≡ gives m) × Ranges m.chip.bus
  power_gives l h = let e = machine_given image r l h in (ap told_power e, ranges_say _ (power_ranges image r _ e))

abbrev power_back : Given Machine → Result Machine PowerRefusal
power_back (gives m) = Ok m
power_back (replies k) = cond (eqb k 1) (Err WrongImage) (Err WrongStart)

power_known : (a b : Result Machine PowerRefusal) → told_power a ≡ told_power b → a ≡ b
power_known = known told_power power_back back
  where
    back : (a : Result Machine PowerRefusal) → power_back (told_power a) ≡ a
    back (Ok m) = refl
    back (Err WrongImage) = refl
    back (Err WrongStart) = refl

pub power_settled : (image : List ℕ) (r : ℕ) (p p' : Result Machine PowerRefusal) → told_power p ≡ power_answer image r → told_power p' ≡ power_answer image r → p ≡ p'
power_settled image r p p' e e' = power_known p p' (e ∙ sym e')
