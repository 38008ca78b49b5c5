-- What a row tells of the boundary where it was written: "the cause named is the first in the order of the boundary rules whose condition held
-- there, and those listed behind it are all the others that held (with I set, only NMI holds)". Assumes nothing.
use Rattle.std.specs.Prelude.{Some}
use Prim.Native.Nat.{ℕ, ◌+◌, ◌*◌, ◌%◌, ◌^◌, ◌≤◌, ◌<◌}
use native.Mathlib.Omega.{arith}
use mathlib.Core.Path.{◌≡◌, refl, sym, ap, ◌∙◌}
use mathlib.Core.Bool.{Bool, true, false, not, ◌&&◌, false≢true}
use lib.Dec.{eqb}
use borrow.Author.Tests.{le-leb, lt-ltb, eq-eqb}
use Rattle.bits.specs.Bits.{weight, bit, byte_of}
use Rattle.bits.proofs.Bytes.{times, bool_most}
use Rattle.machine.specs.declared.Machine.{Machine}
use Rattle.machine.specs.declared.Cause.{Cause}
use Rattle.machine.specs.declared.Cause.TheVariants.{Nmi, Irq1, Icf, Ocf, Tof, Serial}
use Rattle.machine.specs.Interrupts.{holds, causes, pending_of, cause_number, holds_behind, behind_of}
use Rattle.machine.proofs.Interrupts.{First, pending_first, pending_least, behind_bits}
use Rattle.wake_log.specs.declared.Row.{Row}
use Rattle.wake_log.specs.Log.{is_wake}
use Rattle.boundary.specs.declared.State.{State}
use Rattle.boundary.specs.declared.Watch.{Watch}
use Rattle.boundary.specs.Boundary.{row_of}

-- a row of an entry that is accepted in a state
pub record Tells (watch : Watch) (s : State) (row : Row) : Type 0 where
  pub cause : Cause
  pub first : First causes cause s.machine
  pub named : row.cause ≡ cause_number cause
  pub behind : (other : Cause) → bit row.behind (2 ^ cause_number other) ≡ holds_behind cause other s.machine
  pub cycle : row.cycle ≡ (watch.since.0 + s.cycles.0) % 2 ^ 32
  pub wake : is_wake row ≡ true

pub only_nmi : (m : Machine) → m.chip.registers.codes.i ≡ true → (cause : Cause) → holds cause m ≡ true → cause ≡ Nmi
only_nmi m i cause h = by cause h
  where
    masked : (b : Bool) → (not m.chip.registers.codes.i && b) ≡ true → ⊥
    masked b e = false≢true (ap (λ (x : Bool). not x && b) (sym i) ∙ e)

    by : (cause : Cause) → holds cause m ≡ true → cause ≡ Nmi
    by Nmi h = refl
    by Irq1 h = absurd (masked _ h)
    by Icf h = absurd (masked _ h)
    by Ocf h = absurd (masked _ h)
    by Tof h = absurd (masked _ h)
    by Serial h = absurd (masked _ h)

-- a mask of the causes for which a test holds
module _ (test : Cause → Bool) where
  abbrev mask : ℕ
  mask = byte_of (test Nmi) (test Irq1) (test Icf) (test Ocf) (test Tof) (test Serial) false false

  abbrev digit : Cause → ℕ
  digit k = weight (test k) 1

  summed : mask ≡ digit Nmi + 2 * digit Irq1 + 4 * digit Icf + 8 * digit Ocf + 16 * digit Tof + 32 * digit Serial + 0 + 0
  summed =
      λ i. digit Nmi + times (test Irq1) 2 i + times (test Icf) 4 i + times (test Ocf) 8 i + times (test Tof) 16 i + times (test Serial) 32 i + 0 + 0

  small : mask < 64
  small =
      let s = summed in
      let c0 = bool_most (test Nmi) in
      let c1 = bool_most (test Irq1) in
      let c2 = bool_most (test Icf) in
      let c3 = bool_most (test Ocf) in
      let c4 = bool_most (test Tof) in
      let c5 = bool_most (test Serial) in
      omega (arith, s, c0, c1, c2, c3, c4, c5)

  -- where it holds of none up to a cause, the bits up to that are 0
  low : (cause : Cause) → ((other : Cause) → cause_number other ≤ cause_number cause → test other ≡ false) → mask % 2 ^ (cause_number cause + 1) ≡ 0
  low cause none = by cause (λ k l. ap (λ (b : Bool). weight b 1) (none k l))
    where
      by : (cause : Cause) → ((k : Cause) → cause_number k ≤ cause_number cause → digit k ≡ 0) → mask % 2 ^ (cause_number cause + 1) ≡ 0
      by Nmi z = omega (arith, summed, z Nmi (omega arith))
      by Irq1 z = omega (arith, summed, z Nmi (omega arith), z Irq1 (omega arith))
      by Icf z = omega (arith, summed, z Nmi (omega arith), z Irq1 (omega arith), z Icf (omega arith))
      by Ocf z = omega (arith, summed, z Nmi (omega arith), z Irq1 (omega arith), z Icf (omega arith), z Ocf (omega arith))
      by Tof z = omega (arith, summed, z Nmi (omega arith), z Irq1 (omega arith), z Icf (omega arith), z Ocf (omega arith), z Tof (omega arith))
      by Serial z =
          omega (arith, summed, z Nmi (omega arith), z Irq1 (omega arith), z Icf (omega arith), z Ocf (omega arith), z Tof (omega arith), z Serial (omega arith))

module _ (cause : Cause) (m : Machine) (e : pending_of m ≡ Some cause) where
  -- none up to the accepted cause stands behind it
  none_before : (other : Cause) → cause_number other ≤ cause_number cause → holds_behind cause other m ≡ false
  none_before other l = by (holds other m) refl
    where
      by : (h : Bool) → holds other m ≡ h → (h && not (eqb (cause_number cause) (cause_number other))) ≡ false
      by true h = let g = pending_least m cause e other h in ap not (eq-eqb _ _ (let z : cause_number cause ≡ cause_number other = omega (arith, g, l) in z))
      by false h = refl

  six : cause_number cause ≤ 5
  six = by cause
    where
      by : (k : Cause) → cause_number k ≤ 5
      by Nmi = omega arith
      by Irq1 = omega arith
      by Icf = omega arith
      by Ocf = omega arith
      by Tof = omega arith
      by Serial = omega arith

  pub is_wake_lem : (cycle : ℕ) → is_wake (record { cycle = cycle; cause = cause_number cause; behind = behind_of cause m }) ≡ true
  unfolding is_wake
  is_wake_lem cycle =
      let f : Cause → Bool = λ other. holds_behind cause other m in
      all (le-leb _ _ six) (lt-ltb _ _ (small f)) (eq-eqb _ _ (low f cause none_before))
    where
      all : {a b c : Bool} → a ≡ true → b ≡ true → c ≡ true → (a && (b && c)) ≡ true
      all p q r = rw (p, q, r)

pub row_tells : (watch : Watch) (s : State) (cause : Cause) → pending_of s.machine ≡ Some cause → Tells watch s (row_of watch cause s)
row_tells watch s cause e =
    record {
      cause = cause;
      first = (pending_first s.machine cause).0 e;
      named = refl;
      behind = λ other. behind_bits cause other s.machine;
      cycle = refl;
      wake = is_wake_lem cause s.machine e _;
    }
