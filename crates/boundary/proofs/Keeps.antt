-- What every record applied, byte sent, interrupt entered, waiting cycle and instruction keeps, a run keeps. Assumes nothing.
use Rattle.std.specs.Prelude.{Some}
use Rattle.std.proofs.Common.{◌≡◌, ◌<◌, true, false, length, arith}
use Rattle.turns.specs.Turn.{Turn, Then}
use Rattle.opcodes.specs.declared.Instruction.{Instruction}
use Rattle.registers.specs.Registers.{idles}
use Rattle.machine.specs.declared.Cause.{Cause}
use Rattle.machine.specs.Interrupts.{pending_of}
use Rattle.machine.specs.Steps.{look_of, step_of}
use Rattle.boundary.specs.World.{memories_in, Terms, World, world_of, Ended}
use Rattle.boundary.specs.Boundary.{due, record_taken, fed_world, sent_state, sent_world, lacks_row, logged_world, entered_world}
use Rattle.boundary.specs.Boundary.{waited_world, stepped_world, act_of, boundary_of, run_of}
use Rattle.boundary.specs.declared.State.{State}
use Rattle.boundary.proofs.Feeding.{records_keep}
use Rattle.boundary.proofs.Cases.{records_cycles}
use Rattle.boundary.proofs.Runs.{act_cases, boundary_cases, run_keeps}

pub record Keeps (t : Terms) (Q : World → Type 0) : Type 0 where
  pub applied : (w : World) → due t.session w.state ≡ true → Q w
      → Q (world_of (record_taken t.session (memories_in w.lent) w.state) w.lent)
  pub sent : (w : World) → w.state.sent.0 < length w.lent.output → Q w → Q (sent_world w)
  pub entered : (w : World) (cause : Cause) → pending_of w.state.machine ≡ Some cause → lacks_row t.watch w.state w.lent.log ≡ false
      → w.state.cycles.0 < t.limit → Q w → Q (entered_world cause (logged_world t.watch cause w))
  pub waited : (w : World) → idles w.state.machine.chip.registers ≡ true → w.state.cycles.0 < t.limit → Q w → Q (waited_world w)
  pub stepped : (w : World) (i : Instruction) → idles w.state.machine.chip.registers ≡ false
      → look_of (memories_in w.lent) w.state.machine ≡ Some i → w.state.cycles.0 < t.limit → Q w
      → Q (stepped_world (step_of i (memories_in w.lent) w.state.machine) w)

module _ (t : Terms) (Q : World → Type 0) (k : Keeps t Q) where
  abbrev Holds : Turn World Ended → Type 0
  Holds = Then Q (λ e. Q e.world)

  act_holds : (w : World) → w.state.cycles.0 < t.limit → Q w → Holds (act_of t.watch w)
  act_holds w l q =
      act_cases Holds t.watch w (λ cause e f. q) (λ cause e f. k.entered w cause e f l q) (λ e f. k.waited w f l q) q
      (λ i f e. k.stepped w i f e l q)

  turn_holds : (w : World) → Q w → Holds (boundary_of t w)
  unfolding sent_state
  turn_holds w q =
      let r = fed_world t.session w in
      let c = records_cycles t.session (memories_in w.lent) w.state in
      let h =
      records_keep t.session (memories_in w.lent) (λ (x : State). Q (world_of x w.lent))
      (λ x d h. k.applied (world_of x w.lent) d h)
      w.state q in
      boundary_cases Holds t w
      (λ _. q)
      (λ _. h)
      (λ l g. act_holds (sent_world r) (omega arith) (k.sent r g h))
      (λ l. act_holds r (omega arith) h)

  pub run_holds : (w : World) → Q w → Q (run_of t w).world
  run_holds w q = run_keeps t Q (λ e. Q e.world) turn_holds w q
