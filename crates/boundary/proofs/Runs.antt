-- The laws of the run: each way that a boundary can go, that each which goes on passes a cycle, the run as its boundaries,
-- and what every boundary keeps. Assumes nothing.
use Rattle.std.specs.Prelude.{Option, None, Some}
use Rattle.std.proofs.Common.{◌≡◌, ℕ, suc, ◌+◌, ◌<◌, ◌≤◌, true, false, cond, leb, length, sym, refl, arith, leb-false, leb-true}
use Rattle.turns.specs.Turn.{Turn, more, done, on_turn, Then}
use Rattle.turns.proofs.Laws.{then_more, then_done, loop_more, loop_done, loop_unfolds, loop_leap, loop_keeps}
use Rattle.opcodes.specs.declared.Instruction.{Instruction}
use Rattle.registers.specs.Registers.{idles}
use Rattle.machine.specs.declared.Cause.{Cause}
use Rattle.machine.specs.Interrupts.{pending_of}
use Rattle.machine.specs.Steps.{entered_of, look_of, step_of}
use Rattle.machine.proofs.Steps.{step_cycles}
use Rattle.boundary.specs.World.{memories_in, Terms, World, Ended, ended_of}
use Rattle.boundary.specs.Boundary.{fed_world, sends_of, sent_state, sent_world, lacks_row, logged_world, entered_world, waited_state, waited_world}
use Rattle.boundary.specs.Boundary.{stepped_world, executed_of, on_pending, act_of, send_of, boundary_of, cycles_left, run_of}
use Rattle.boundary.specs.Counts.{Fine}
use Rattle.boundary.specs.declared.State.{State}
use Rattle.boundary.specs.declared.Stop.TheVariants.{Limit, Undefined, Full, LogFull}
use Rattle.boundary.specs.declared.Watch.{Watch}
use Rattle.laws.proofs.Conds.{cases}
use Rattle.boundary.proofs.Cases.{records_fine, records_cycles}

-- each way that a boundary can go
module _ (P : Turn World Ended → Type 0) where
  pub act_cases : (watch : Watch) (w : World)
      → ((cause : Cause) → pending_of w.state.machine ≡ Some cause → lacks_row watch w.state w.lent.log ≡ true → P (done (ended_of LogFull w)))
      → ((cause : Cause) → pending_of w.state.machine ≡ Some cause → lacks_row watch w.state w.lent.log ≡ false
      → P (more (entered_world cause (logged_world watch cause w))))
      → (pending_of w.state.machine ≡ None → idles w.state.machine.chip.registers ≡ true → P (more (waited_world w)))
      → P (done (ended_of Undefined w))
      → ((i : Instruction) → idles w.state.machine.chip.registers ≡ false → look_of (memories_in w.lent) w.state.machine ≡ Some i
      → P (more (stepped_world (step_of i (memories_in w.lent) w.state.machine) w)))
      → P (act_of watch w)
  unfolding act_of
  act_cases watch w lacks entry idle bad op = by (pending_of w.state.machine) refl
    where
      looked : idles w.state.machine.chip.registers ≡ false → (k : Option Instruction) → look_of (memories_in w.lent) w.state.machine ≡ k → P (executed_of k w)
      looked f None e = bad
      looked f (Some i) e = op i f e

      by : (p : Option Cause) → pending_of w.state.machine ≡ p → P (on_pending watch p w)
      by (Some cause) e = cases P (lacks_row watch w.state w.lent.log) (lacks cause e) (entry cause e)
      by None e = cases P (idles w.state.machine.chip.registers) (idle e) (λ f. looked f _ refl)

  pub boundary_cases : (t : Terms) (w : World)
      → (t.limit ≤ w.state.cycles.0 → P (done (ended_of Limit w)))
      → (w.state.cycles.0 < t.limit → P (done (ended_of Full (fed_world t.session w))))
      → (w.state.cycles.0 < t.limit → (fed_world t.session w).state.sent.0 < length w.lent.output
      → P (act_of t.watch (sent_world (fed_world t.session w))))
      → (w.state.cycles.0 < t.limit → P (act_of t.watch (fed_world t.session w)))
      → P (boundary_of t w)
  unfolding boundary_of send_of
  boundary_cases t w end full send rest =
      let f = fed_world t.session w in
      cases P _ (λ e. end (leb-true _ _ e))
      (λ e. cases P (sends_of f.state)
      (λ _. cases P (leb (length w.lent.output) f.state.sent.0) (λ _. full (leb-false _ _ e)) (λ g. send (leb-false _ _ e) (leb-false _ _ g)))
      (λ _. rest (leb-false _ _ e)))

-- an entry takes 4 cycles or 12
pub entry_takes : (cause : Cause) (w : World) → 0 < (entered_of cause (memories_in w.lent) w.state.machine).cycles
unfolding entered_of
entry_takes cause w = cases (λ (k : ℕ). 0 < k) w.state.machine.chip.registers.waiting {x = 4} {y = 12} (λ _. omega arith) (λ _. omega arith)

-- and an instruction 2 to 12
pub step_takes : (i : Instruction) (w : World) → look_of (memories_in w.lent) w.state.machine ≡ Some i
    → 0 < (step_of i (memories_in w.lent) w.state.machine).cycles
step_takes i w e = let b = (step_cycles (memories_in w.lent) w.state.machine i e).0 in omega arith

module _ (t : Terms) where
  abbrev Falls : World → Turn World Ended → Type 0
  Falls w = Then (λ v. cycles_left t v < cycles_left t w) (λ e. Unit)

  act_falls : (v w : World) → w.state.cycles.0 ≡ v.state.cycles.0 → w.state.cycles.0 < t.limit → Falls w (act_of t.watch v)
  unfolding entered_world waited_state
  act_falls v w h l =
      act_cases (Falls w) t.watch v (λ cause e f. tt) (λ cause e f. let k = entry_takes cause v in omega arith) (λ e f. omega arith) tt
      (λ i f e. let k = step_takes i v e in omega arith)

  -- every boundary that goes on passes a cycle
  pub run_falls : (w v : World) → boundary_of t w ≡ more v → cycles_left t v < cycles_left t w
  unfolding sent_state
  run_falls w v e =
      let h = sym (records_cycles t.session (memories_in w.lent) w.state) in
      then_more (λ v. cycles_left t v < cycles_left t w) (λ e. Unit) e
      (boundary_cases (Falls w) t w (λ _. tt) (λ _. tt) (λ l _. act_falls _ w h l) (act_falls _ w h))

  pub run_more : (w : World) {v : World} → boundary_of t w ≡ more v → run_of t w ≡ run_of t v
  unfolding run_of
  run_more w e = loop_more (boundary_of t) _ _ run_falls e

  pub run_done : (w : World) {r : Ended} → boundary_of t w ≡ done r → run_of t w ≡ r
  unfolding run_of
  run_done w e = loop_done (boundary_of t) _ _ run_falls e

  -- the run is a boundary, and then the run
  pub run_unfolds : (w : World) → run_of t w ≡ on_turn (boundary_of t w) (λ v. run_of t v)
  unfolding run_of
  run_unfolds w = loop_unfolds (boundary_of t) _ _ run_falls w

  -- k boundaries at once
  pub run_leap : (at : ℕ → World) (k : ℕ) → ((j : ℕ) → j < k → boundary_of t (at j) ≡ more (at (suc j))) → run_of t (at 0) ≡ run_of t (at k)
  unfolding run_of
  run_leap at k h = loop_leap (boundary_of t) _ _ run_falls at k h

  -- what every boundary keeps, the run keeps
  pub run_keeps : (Q : World → Type 0) (R : Ended → Type 0) → ((w : World) → Q w → Then Q R (boundary_of t w)) → (w : World) → Q w → R (run_of t w)
  unfolding run_of
  run_keeps Q R turn w h =
      loop_keeps (boundary_of t) _ _ run_falls Q R (λ w v h e. then_more Q R e (turn w h)) (λ w r h e. then_done Q R e (turn w h)) w h

  -- the counts stay fine
  abbrev pub FineThen : Turn World Ended → Type 0
  FineThen = Then (λ v. Fine v.state) (λ e. Fine e.world.state)

  sent_fine : (s : State) → Fine s → Fine (sent_state s)
  unfolding sent_state
  sent_fine s h = record { instructions = h.instructions; entries = h.entries; leaps = h.leaps; used = h.used }

  act_fine : (w : World) → Fine w.state → FineThen (act_of t.watch w)
  unfolding entered_world waited_state
  act_fine w h =
      let s = w.state in
      let x = h.instructions in
      let y = h.entries in
      let z = h.leaps in
      act_cases FineThen t.watch w
      (λ cause e f. h)
      (λ cause e f.
      let k = entry_takes cause w in
      record { instructions = omega arith; entries = omega arith; leaps = omega arith; used = h.used })
      (λ e f.
      let k : s.leaps.0 + cond s.inside 0 1 ≤ s.cycles.0 + 1 =
      cases (λ (d : ℕ). s.leaps.0 + d ≤ s.cycles.0 + 1) s.inside {x = 0} {y = 1} (λ _. omega arith) (λ _. omega arith) in
      record { instructions = omega arith; entries = omega arith; leaps = k; used = h.used })
      h
      (λ i f e.
      let k = step_takes i w e in
      record { instructions = omega arith; entries = omega arith; leaps = omega arith; used = h.used })

  pub turn_fine : (w : World) → Fine w.state → FineThen (boundary_of t w)
  turn_fine w h =
      let f = records_fine t.session (memories_in w.lent) w.state h in
      boundary_cases FineThen t w (λ _. h) (λ _. f) (λ _ _. act_fine _ (sent_fine _ f)) (λ _. act_fine _ f)

  pub run_fine : (w v : World) → Fine w.state → boundary_of t w ≡ more v → Fine v.state
  run_fine w v h e = then_more (λ v. Fine v.state) (λ e. Fine e.world.state) e (turn_fine w h)
