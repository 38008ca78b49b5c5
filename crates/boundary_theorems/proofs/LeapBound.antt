-- "leaps ≤ records used + bytes sent + interrupts entered + 1", for every run from its start. Assumes nothing.
use Prim.Native.Nat.{ℕ, ◌+◌, ◌≤◌}
use native.Mathlib.Omega.{arith}
use mathlib.Core.Path.{◌≡◌, refl, sym, ◌∙◌}
use mathlib.Core.Bool.{Bool, true, false, cond, false≢true}
use Rattle.registers.specs.Registers.{idles}
use Rattle.machine.specs.declared.Machine.{Machine}
use Rattle.boundary.specs.World.{Lent, Terms}
use Rattle.boundary.specs.Boundary.{record_taken, sent_state, entered_world, waited_state}
use Rattle.boundary.specs.Start.{start_world, ran_of}
use Rattle.boundary.specs.declared.State.{State}
use Rattle.boundary.proofs.Keeps.{Keeps, run_holds}

-- right after a waiting cycle the machine idles, and one leap more may have begun than records, bytes and interrupts tell
record Bounded (s : State) : Type 0 where
  waits : s.inside ≡ true → idles s.machine.chip.registers ≡ true
  count : s.leaps.0 ≤ s.used.0 + s.sent.0 + s.entries.0 + cond s.inside 1 0

most : (b : Bool) → cond b 1 0 ≤ 1
most true = omega arith
most false = omega arith

-- a waiting cycle, of k leaps and e records, bytes and interrupts; and an instruction, which follows no waiting cycle
goes_on_lem : (k e : ℕ) (b : Bool) → k ≤ e + cond b 1 0 → k + cond b 0 1 ≤ e + 1
goes_on_lem k e true z = omega arith
goes_on_lem k e false z = omega arith

over : (k e : ℕ) (b : Bool) → (b ≡ true → ⊥) → k ≤ e + cond b 1 0 → k ≤ e
over k e true n z = absurd (n refl)
over k e false n z = omega arith

bounded : (t : Terms) → Keeps t (λ w. Bounded w.state)
unfolding record_taken sent_state entered_world waited_state
bounded t =
    record {
      applied = λ w d h. let z = h.count in let y = most w.state.inside in record { waits = λ e. absurd (false≢true e); count = omega arith };
      sent = λ w l h. let z = h.count in let y = most w.state.inside in record { waits = λ e. absurd (false≢true e); count = omega arith };
      entered = λ w cause e f l h. let z = h.count in let y = most w.state.inside in record { waits = λ e. absurd (false≢true e); count = omega arith };
      waited = λ w f l h. let z = goes_on_lem _ _ w.state.inside h.count in record { waits = λ _. f; count = omega arith };
      stepped = λ w i f e l h.
          let z = over _ _ w.state.inside (λ i. false≢true (sym f ∙ h.waits i)) h.count in
          record { waits = λ e. absurd (false≢true e); count = omega arith };
    }

pub leap_bound : (t : Terms) (m : Machine) (l : Lent)
    → let s = (ran_of t m l).world.state in s.leaps.0 ≤ s.used.0 + s.sent.0 + s.entries.0 + 1
leap_bound t m l =
    let s = (ran_of t m l).world.state in
    let b : Bounded s =
    run_holds t (λ w. Bounded w.state) (bounded t) (start_world m l) (record { waits = λ e. absurd (false≢true e); count = omega arith }) in
    let y = most s.inside in
    omega (arith, b.count)
