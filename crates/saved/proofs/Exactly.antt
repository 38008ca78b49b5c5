-- When loading and saving give each of their answers. Assumes nothing.
use Prim.Native.Nat.{ℕ, ◌%◌, ◌≤◌}
use native.Mathlib.Omega.{arith}
use mathlib.Core.Path.{◌≡◌, refl, sym, ap, subst, ◌∙◌}
use mathlib.Core.Bool.{Bool, true, false, true≢false, cond, ◌&&◌}
use Rattle.std.specs.Prelude.{Option, None, Some, unwrap_or}
use mathlib.Core.List.{List}
use mathlib.Core.Logic.{◌↔◌}
use lib.ListN.{length}
use lib.Dec.{eqb}
use borrow.Author.Tests.{leb-true, le-leb, eqb-true, eqb-false, eq-eqb, ne_eqb}
use Rattle.laws.proofs.Bools.{both}
use Rattle.bits.specs.Bits.{bit}
use Rattle.machine.specs.declared.Machine.{Machine}
use Rattle.machine.specs.Machine.{Ranges}
use Rattle.machine.proofs.Ranges.{ranges_say, say_ranges}
use Rattle.saved.specs.Layout.{saved_of, byte_in, word_at, machine_in}
use Rattle.asking.specs.Asking.{Given, gives, replies}
use Rattle.saved.specs.Answers.{save_of, left_of, stands_of, ranges_in, load_of}
use Rattle.saved.proofs.Answers.{wrong_length_lem, wrong_version, no_machine, wrong_machine, ready, load_cases}

-- bytes that stand for a machine: no "bool above 1", and no "arm bit that is none"
pub record Stands (l : List ℕ) : Type 0 where
  pub waiting : byte_in l 11 ≤ 1
  pub nmi : byte_in l 12 ≤ 1
  pub irq1 : byte_in l 13 ≤ 1
  pub level : byte_in l 28 ≤ 1
  pub timer_arms : byte_in l 33 % 32 ≡ 0
  pub serial_arms : byte_in l 34 % 32 ≡ 0

-- 01's ranges: "condition codes have their top two bits set; .. bits 0 to 5 of $14 zero", and those of the machine that the bytes stand for
pub record InRanges (l : List ℕ) : Type 0 where
  pub codes : (bit (byte_in l 10) 128 ≡ true) × (bit (byte_in l 10) 64 ≡ true)
  pub control : byte_in l 35 % 64 ≡ 0
  pub machine : Ranges (machine_in l).chip.bus

-- the tests say what these say
stands_say : (l : List ℕ) → stands_of l ≡ true → Stands l
unfolding stands_of
stands_say l h =
    let a = both _ _ h in
    let b = both _ _ a.0 in
    let c = both _ _ b.0 in
    let d = both _ _ c.0 in
    let e = both _ _ d.0 in
    record {
      waiting = leb-true _ _ e.0;
      nmi = leb-true _ _ e.1;
      irq1 = leb-true _ _ d.1;
      level = leb-true _ _ c.1;
      timer_arms = eqb-true _ _ b.1;
      serial_arms = eqb-true _ _ a.1;
    }

say_stands : (l : List ℕ) → Stands l → stands_of l ≡ true
unfolding stands_of
say_stands l h =
    λ i. le-leb _ _ h.waiting i && le-leb _ _ h.nmi i && le-leb _ _ h.irq1 i && le-leb _ _ h.level i && eq-eqb _ _ h.timer_arms i && eq-eqb _ _ h.serial_arms i

ranges_said : (l : List ℕ) → ranges_in l (machine_in l) ≡ true → InRanges l
unfolding ranges_in
ranges_said l h =
    let a = both _ _ h in
    let b = both _ _ a.0 in
    let c = both _ _ b.0 in
    record { codes = c; control = eqb-true _ _ b.1; machine = ranges_say (machine_in l).chip.bus a.1 }

said_ranges : (l : List ℕ) → InRanges l → ranges_in l (machine_in l) ≡ true
unfolding ranges_in
said_ranges l h = λ i. h.codes.0 i && h.codes.1 i && eq-eqb _ _ h.control i && say_ranges (machine_in l).chip.bus h.machine i

-- a test that fails says that its words do not hold, and so the other way round
denied : {P : Type 0} {t : Bool} → (P → t ≡ true) → t ≡ false → P → ⊥
denied f e p = true≢false (sym (f p) ∙ e)

denies : {P : Type 0} (t : Bool) → (t ≡ true → P) → (P → ⊥) → t ≡ false
denies true f n = absurd (n (f refl))
denies false f n = refl

-- a reply's number; 0 stands for a machine
abbrev number : Given Machine → ℕ
number (gives m) = 0
number (replies k) = k

abbrev given : Given Machine → Machine → Machine
given (gives m) other = m
given (replies k) other = other

-- no answer has two numbers
other : {A : Type 0} {j k : ℕ} → eqb j k ≡ false → j ≡ k → A
other {j = j} {k} n e = absurd (true≢false (sym (eq-eqb j k e) ∙ n))

module _ (l : List ℕ) where
  -- 26: "a wrong length"
  pub load_26 : (load_of l ≡ replies 26) ↔ (length l ≡ 42 → ⊥)
  load_26 = (
    (λ e.
        load_cases (λ g. number g ≡ 26 → length l ≡ 42 → ⊥) l
        (λ n d. n)
        (λ f n d. other refl d)
        (λ f v n d. other refl d)
        (λ f v s n d. other refl d)
        (λ f v s n d. other refl d)
        (ap number e)),
    wrong_length_lem l,
  )

  -- 27: "or version"
  pub load_27 : (load_of l ≡ replies 27) ↔ ((length l ≡ 42) × (word_at l 0 ≡ 1 → ⊥))
  load_27 = (
    (λ e.
        load_cases (λ g. number g ≡ 27 → (length l ≡ 42) × (word_at l 0 ≡ 1 → ⊥)) l
        (λ n d. other refl d)
        (λ f n d. (f, n))
        (λ f v n d. other refl d)
        (λ f v s n d. other refl d)
        (λ f v s n d. other refl d)
        (ap number e)),
    (λ h. wrong_version l h.0 h.1),
  )

  -- 28: "bytes that stand for no machine"
  pub load_28 : (load_of l ≡ replies 28) ↔ ((length l ≡ 42) × (word_at l 0 ≡ 1) × (Stands l → ⊥))
  load_28 = (
    (λ e.
        load_cases (λ g. number g ≡ 28 → (length l ≡ 42) × (word_at l 0 ≡ 1) × (Stands l → ⊥)) l
        (λ n d. other refl d)
        (λ f n d. other refl d)
        (λ f v n d. (f, v, denied (say_stands l) n))
        (λ f v s n d. other refl d)
        (λ f v s n d. other refl d)
        (ap number e)),
    (λ h. no_machine l h.0 h.1 (denies (stands_of l) (stands_say l) h.2)),
  )

  -- 2: "01's ranges"
  pub load_2 : (load_of l ≡ replies 2) ↔ ((length l ≡ 42) × (word_at l 0 ≡ 1) × Stands l × (InRanges l → ⊥))
  load_2 = (
    (λ e.
        load_cases (λ g. number g ≡ 2 → (length l ≡ 42) × (word_at l 0 ≡ 1) × Stands l × (InRanges l → ⊥)) l
        (λ n d. other refl d)
        (λ f n d. other refl d)
        (λ f v n d. other refl d)
        (λ f v s n d. (f, v, stands_say l s, denied (said_ranges l) n))
        (λ f v s n d. other refl d)
        (ap number e)),
    (λ h. wrong_machine l (machine_in l) h.0 h.1 (say_stands l h.2) refl (denies (ranges_in l (machine_in l)) (ranges_said l) h.3)),
  )

  -- else the machine that the bytes stand for
  pub load_gives : (m : Machine) → (load_of l ≡ gives m) ↔ ((length l ≡ 42) × (word_at l 0 ≡ 1) × Stands l × InRanges l × (m ≡ machine_in l))
  load_gives m = (
    (λ e.
        load_cases (λ g. number g ≡ 0 → given g m ≡ m → (length l ≡ 42) × (word_at l 0 ≡ 1) × Stands l × InRanges l × (m ≡ machine_in l)) l
        (λ n d. other refl d)
        (λ f n d. other refl d)
        (λ f v n d. other refl d)
        (λ f v s n d. other refl d)
        (λ f v s n d q. (f, v, stands_say l s, ranges_said l n, sym q))
        (ap number e)
        (ap (λ (g : Given Machine). given g m) e)),
    (λ h. ready l m h.0 h.1 (say_stands l h.2) h.4 (subst (λ (k : Machine). ranges_in l k ≡ true) (sym h.4) (said_ranges l h.3))),
  )

  -- a machine that was loaded is in its ranges
  pub loaded_ranges : (m : Machine) → load_of l ≡ gives m → Ranges m.chip.bus
  loaded_ranges m e = let h = (load_gives m).0 e in subst (λ (k : Machine). Ranges k.chip.bus) (sym h.4) h.3.machine

abbrev refused_by : Bool → Option ℕ
refused_by fits = cond fits None (Some 26)

module _ (bytes : List ℕ) where
  -- 26: "a wrong length", and the lent bytes are as they were
  pub save_26 : (save_of bytes ≡ Some 26) ↔ (length bytes ≡ 42 → ⊥)
  save_26 = (λ e. by (eqb (length bytes) 42) refl e, λ n. ap refused_by (ne_eqb (length bytes) 42 n))
    where
      by : (fits : Bool) → eqb (length bytes) 42 ≡ fits → refused_by fits ≡ Some 26 → length bytes ≡ 42 → ⊥
      by false e d = eqb-false (length bytes) 42 e
      by true e d = absurd (let z : ◌≡◌ {A = ℕ} 0 26 = ap (λ (o : Option ℕ). unwrap_or o 0) d in let f : ⊥ = omega (arith, z) in f)

  pub save_leaves : (m : Machine) → (length bytes ≡ 42 → ⊥) → left_of m bytes ≡ bytes
  save_leaves m n = rw (ne_eqb (length bytes) 42 n)

  -- else the bytes are the saved machine
  pub save_done : (m : Machine) → length bytes ≡ 42 → (save_of bytes ≡ None) × (left_of m bytes ≡ saved_of m)
  save_done m e = (rw (eq-eqb (length bytes) 42 e), rw (eq-eqb (length bytes) 42 e))
