-- The pending cause is the first in 01's order whose condition holds; none is pending where none holds. Those behind it are all the
-- others that hold. Assumes nothing.
use Rattle.std.specs.Prelude.{None, Some}
use Prim.Native.Nat.{ℕ, ◌+◌, ◌^◌, ◌≤◌}
use native.Mathlib.Omega.{arith}
use mathlib.Core.Path.{◌≡◌, refl, sym, ap, ◌∙◌}
use mathlib.Core.Bool.{Bool, true, false, cond, true≢false}
use mathlib.Core.Logic.{◌↔◌, ◌⊎◌, inl, inr}
use mathlib.Core.List.{List, [], ◌∷◌, ◌++◌}
use Rattle.laws.proofs.Apart.{apart}
use Rattle.bits.specs.Bits.{bit}
use Rattle.bits.proofs.Bytes.{bits_kept}
use Rattle.machine.specs.declared.Machine.{Machine}
use Rattle.machine.specs.declared.Cause.{Cause}
use Rattle.machine.specs.declared.Cause.TheVariants.{Nmi, Irq1, Icf, Ocf, Tof, Serial}
use Rattle.machine.specs.Interrupts.{holds, causes, first_cause, pending_of, cause_number, holds_behind, behind_of}

-- none of some causes holds
abbrev pub NoneOf : List Cause → Machine → Type 0
NoneOf [] m = Unit {0}
NoneOf (k ∷ ks) m = (holds k m ≡ false) × NoneOf ks m

-- a cause is the first of some that holds
pub record First (ks : List Cause) (k : Cause) (m : Machine) : Type 0 where
  pub earlier : List Cause
  pub later : List Cause
  pub order : ks ≡ (earlier ++ (k ∷ later))
  pub here : holds k m ≡ true
  pub before : NoneOf earlier m

due : (ks : List Cause) (m : Machine) (k : Cause) → first_cause ks m ≡ Some k → First ks k m
due [] m k e = apart cc
due (j ∷ ks) m k e = by (due ks m k) (holds j m) refl e
  where
    by : (first_cause ks m ≡ Some k → First ks k m) → (h : Bool) → holds j m ≡ h → cond h (Some j) (first_cause ks m) ≡ Some k → First (j ∷ ks) k m
    by rest true h d =
        let s : j ≡ k = cc in
        record { earlier = []; later = ks; order = rw s; here = rw s at h; before = tt }
    by rest false h d =
        let f = rest d in
        record { earlier = j ∷ f.earlier; later = f.later; order = ap (j ∷◌) f.order; here = f.here; before = (h, f.before) }

found : (m : Machine) (k : Cause) (earlier later : List Cause) → holds k m ≡ true → NoneOf earlier m
    → first_cause (earlier ++ (k ∷ later)) m ≡ Some k
found m k [] later h n = rw h
found m k (j ∷ earlier) later h n = rw n.0 (found m k earlier later h n.1)

nothing : (ks : List Cause) (m : Machine) → first_cause ks m ≡ None → NoneOf ks m
nothing [] m e = tt
nothing (k ∷ ks) m e = by (nothing ks m) (holds k m) refl e
  where
    by : (first_cause ks m ≡ None → NoneOf ks m) → (h : Bool) → holds k m ≡ h → cond h (Some k) (first_cause ks m) ≡ None → NoneOf (k ∷ ks) m
    by rest true h d = apart cc
    by rest false h d = (h, rest d)

quiet : (ks : List Cause) (m : Machine) → NoneOf ks m → first_cause ks m ≡ None
quiet [] m n = refl
quiet (k ∷ ks) m n = rw n.0 (quiet ks m n.1)

pub pending_first : (m : Machine) (k : Cause) → (pending_of m ≡ Some k) ↔ First causes k m
unfolding pending_of
pending_first m k =
    (due causes m k, λ f. ap (λ (ks : List Cause). first_cause ks m) f.order ∙ found m k f.earlier f.later f.here f.before)

pub pending_none : (m : Machine) → (pending_of m ≡ None) ↔ NoneOf causes m
unfolding pending_of
pending_none m = (nothing causes m, quiet causes m)

-- the causes stand in the order of their numbers
abbrev Rises : ℕ → List Cause → Type 0
Rises n [] = Unit {0}
Rises n (k ∷ ks) = (n ≤ cause_number k) × Rises (cause_number k + 1) ks

abbrev Among : Cause → List Cause → Type 0
Among j [] = ⊥
Among j (k ∷ ks) = (j ≡ k) ⊎ Among j ks

above : (n : ℕ) (ks : List Cause) → Rises n ks → (j : Cause) → Among j ks → n ≤ cause_number j
above n [] r j x = elim x [ ]
above n (k ∷ ks) r j (inl e) = rw e r.0
above n (k ∷ ks) r j (inr i) = let l = r.0 in let h = above (cause_number k + 1) ks r.1 j i in omega arith

-- so that none before the pending one holds
least : (m : Machine) (cause : Cause) (n : ℕ) (ks : List Cause) → Rises n ks → first_cause ks m ≡ Some cause
    → (j : Cause) → Among j ks → holds j m ≡ true → cause_number cause ≤ cause_number j
least m cause n [] r e = apart cc
least m cause n (k ∷ ks) r e = by (least m cause (cause_number k + 1) ks r.1) (holds k m) refl e
  where
    by : (first_cause ks m ≡ Some cause → (j : Cause) → Among j ks → holds j m ≡ true → cause_number cause ≤ cause_number j)
        → (h : Bool) → holds k m ≡ h → cond h (Some k) (first_cause ks m) ≡ Some cause
        → (j : Cause) → Among j (k ∷ ks) → holds j m ≡ true → cause_number cause ≤ cause_number j
    by rest true h d j (inl i) t = let s : k ≡ cause = cc in rw (← s, i) (omega arith)
    by rest true h d j (inr i) t = let s : k ≡ cause = cc in let l = above (cause_number k + 1) ks r.1 j i in rw (← s) (omega arith)
    by rest false h d j (inl i) t = absurd (true≢false (sym t ∙ ap (λ (x : Cause). holds x m) i ∙ h))
    by rest false h d j (inr i) t = rest d j i t

pub pending_least : (m : Machine) (cause : Cause) → pending_of m ≡ Some cause → (other : Cause) → holds other m ≡ true → cause_number cause ≤ cause_number other
unfolding pending_of
pending_least m cause e other =
    least m cause 0 causes (omega arith, (omega arith, (omega arith, (omega arith, (omega arith, (omega arith, tt)))))) e other (among other)
  where
    among : (j : Cause) → Among j causes
    among Nmi = inl refl
    among Irq1 = inr (inl refl)
    among Icf = inr (inr (inl refl))
    among Ocf = inr (inr (inr (inl refl)))
    among Tof = inr (inr (inr (inr (inl refl))))
    among Serial = inr (inr (inr (inr (inr (inl refl)))))

-- bit k of the mask is set exactly where cause k holds and is not the one accepted
pub behind_bits : (cause other : Cause) (m : Machine) → bit (behind_of cause m) (2 ^ cause_number other) ≡ holds_behind cause other m
behind_bits cause other m = by other
  where
    of : Cause → Bool
    of k = holds_behind cause k m

    by : (other : Cause) → bit (behind_of cause m) (2 ^ cause_number other) ≡ of other
    by Nmi = (bits_kept (of Nmi) (of Irq1) (of Icf) (of Ocf) (of Tof) (of Serial) false false).0
    by Irq1 = (bits_kept (of Nmi) (of Irq1) (of Icf) (of Ocf) (of Tof) (of Serial) false false).1
    by Icf = (bits_kept (of Nmi) (of Irq1) (of Icf) (of Ocf) (of Tof) (of Serial) false false).2
    by Ocf = (bits_kept (of Nmi) (of Irq1) (of Icf) (of Ocf) (of Tof) (of Serial) false false).3
    by Tof = (bits_kept (of Nmi) (of Irq1) (of Icf) (of Ocf) (of Tof) (of Serial) false false).4
    by Serial = (bits_kept (of Nmi) (of Irq1) (of Icf) (of Ocf) (of Tof) (of Serial) false false).5
