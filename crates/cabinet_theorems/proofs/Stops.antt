-- What a run that was not refused shows where it stops: 01's column "Given exactly when" for replies 0, 8 and 9, and 02's 11. No end shows
-- two of them. Assumes nothing.
use Rattle.std.specs.Prelude.{Option, None, Some}
use Prim.Native.Nat.{◌+◌, ◌*◌, ◌≤◌, ◌<◌}
use native.Mathlib.Omega.{arith}
use mathlib.Core.Path.{◌≡◌, refl, sym, ◌∙◌}
use mathlib.Core.Bool.{true, false, true≢false}
use lib.Dec.{leb}
use lib.ListN.{length}
use borrow.Author.Tests.{leb-true, leb-false, not-true}
use Rattle.turns.specs.Turn.{Turn, Then}
use Rattle.laws.proofs.Apart.{apart}
use Rattle.laws.proofs.Bools.{both}
use Rattle.laws.proofs.Conds.{cases}
use Rattle.registers.specs.Registers.{idles}
use Rattle.serial.specs.Serial.{wants_to_send}
use Rattle.opcodes.specs.declared.Instruction.{Instruction}
use Rattle.machine.specs.declared.Cause.{Cause}
use Rattle.machine.specs.Interrupts.{pending_of}
use Rattle.machine.specs.Steps.{look_of}
use Rattle.boundary.specs.declared.State.{State}
use Rattle.boundary.specs.declared.Stop.{Stop}
use Rattle.boundary.specs.declared.Stop.TheVariants.{Limit, Undefined, Full, LogFull}
use Rattle.boundary.specs.World.{Terms, World, Ended, memories_in}
use Rattle.boundary.specs.Boundary.{due, fed_world, sends_of, sent_state, sent_world, lacks_row, executed_of, on_pending, act_of, send_of, boundary_of, run_of}
use Rattle.boundary.proofs.Runs.{run_keeps}
use Rattle.log_theorems.proofs.Ready.{Ready, fed_ready, sent_ready}
use Rattle.cabinet.specs.Answers.{Answer, told_stop, end_at, answer_at}

-- 0: "the cycle limit N is reached"; 8: "the opcode to be executed is undefined", so no byte is to be sent, no interrupt to be
-- accepted and the machine does not wait; 9: "a byte is to be sent and the output has no room"; 11: "no room for a log row, given at the
-- boundary before the entry .. it stands after 9", so no byte is to be sent, and an interrupt to be accepted
abbrev pub Shows : Terms → Stop → Answer → Type 0
Shows asked Limit a = asked.limit ≤ a.cycles
Shows asked Undefined a =
    (a.cycles < asked.limit)
    × (wants_to_send a.machine.chip.bus.serial ≡ false)
    × (pending_of a.machine ≡ None)
    × (idles a.machine.chip.registers ≡ false)
    × (look_of (memories_in a.lent) a.machine ≡ None)
Shows asked Full a =
    (a.cycles < asked.limit) × (wants_to_send a.machine.chip.bus.serial ≡ true) × (length a.lent.output ≤ a.sent)
Shows asked LogFull a =
    (a.cycles < asked.limit)
    × (wants_to_send a.machine.chip.bus.serial ≡ false)
    × (pending_of a.machine ≡ None → ⊥)
    × (asked.watch.log ≡ true)
    × (length a.lent.log < 8 * a.entries + 8)

module _ (asked : Terms) (a : Answer) where
  -- at the limit, and below it
  apart_cycles : {R : Type 0} → asked.limit ≤ a.cycles → a.cycles < asked.limit → R
  apart_cycles l b = absurd (let z : ⊥ = omega arith in z)

  -- a byte is to be sent, and none is
  apart_sending : {R : Type 0} → wants_to_send a.machine.chip.bus.serial ≡ true → wants_to_send a.machine.chip.bus.serial ≡ false → R
  apart_sending s r = absurd (true≢false (sym s ∙ r))

  pub shown_once : (j k : Stop) → Shows asked j a → Shows asked k a → j ≡ k
  shown_once Limit Limit p q = refl
  shown_once Limit Undefined p q = apart_cycles p q.0
  shown_once Limit Full p q = apart_cycles p q.0
  shown_once Limit LogFull p q = apart_cycles p q.0
  shown_once Undefined Limit p q = apart_cycles q p.0
  shown_once Undefined Undefined p q = refl
  shown_once Undefined Full p q = apart_sending q.1 p.1
  shown_once Undefined LogFull p q = absurd (q.2 p.2)
  shown_once Full Limit p q = apart_cycles q p.0
  shown_once Full Undefined p q = apart_sending p.1 q.1
  shown_once Full Full p q = refl
  shown_once Full LogFull p q = apart_sending p.1 q.1
  shown_once LogFull Limit p q = apart_cycles q p.0
  shown_once LogFull Undefined p q = absurd (p.2 q.2)
  shown_once LogFull Full p q = apart_sending q.1 p.1
  shown_once LogFull LogFull p q = refl

-- What is left of that boundary: 8 and 11 leave it at its step 4, 9 at its step 3. So "the records applied at that boundary stay applied", none
-- is due, "and at 8 a byte sent there", none is to be sent; and 11 leaves "what 8 leaves".
abbrev pub Leaves : Terms → Stop → State → Type 0
Leaves asked Limit s = Unit
Leaves asked Undefined s = Ready asked.session asked.limit s
Leaves asked Full s = due asked.session s ≡ false
Leaves asked LogFull s = Ready asked.session asked.limit s

module _ (asked : Terms) where
  abbrev Ends : Ended → Type 0
  Ends e = Shows asked e.stop (answer_at (end_at (told_stop e.stop) e.world)) × Leaves asked e.stop e.world.state

  abbrev EndsThen : Turn World Ended → Type 0
  EndsThen = Then (λ v. Unit {0}) Ends

  act_shows : (w : World) → Ready asked.session asked.limit w.state → EndsThen (act_of asked.watch w)
  unfolding act_of
  act_shows w r = by (pending_of w.state.machine) refl
    where
      by : (p : Option Cause) → pending_of w.state.machine ≡ p → EndsThen (on_pending asked.watch p w)
      by (Some cause) e =
          cases EndsThen (lacks_row asked.watch w.state w.lent.log)
          (λ f. let b = both _ _ f in ((r.below, r.silent, (λ n. apart cc), b.0, leb-false _ _ (not-true _ b.1)), r))
          (λ _. tt)
      by None e =
          cases EndsThen (idles w.state.machine.chip.registers) (λ _. tt)
          (λ f. looked f (look_of (memories_in w.lent) w.state.machine) refl)
        where
          looked : idles w.state.machine.chip.registers ≡ false
              → (k : Option Instruction) → look_of (memories_in w.lent) w.state.machine ≡ k → EndsThen (executed_of k w)
          looked f None g = ((r.below, r.silent, e, f, g), r)
          looked f (Some i) g = tt

  turn_shows : (w : World) → EndsThen (boundary_of asked w)
  unfolding boundary_of send_of sent_state
  turn_shows w =
      let r = fed_world asked.session w in
      let f = r.state in
      cases EndsThen (leb asked.limit w.state.cycles.0)
      (λ e. (leb-true _ _ e, tt))
      (λ e.
      let l = leb-false asked.limit w.state.cycles.0 e in
      let s = sent_ready asked w l in
      cases EndsThen (sends_of f)
      (λ d. cases EndsThen (leb (length w.lent.output) f.sent.0)
      (λ g. ((s.below, d, leb-true _ _ g), s.rested))
      (λ _. act_shows (sent_world r) s))
      (λ d. act_shows r (fed_ready asked w l d)))

  stop_ends : (w : World) → Ends (run_of asked w)
  stop_ends w = run_keeps asked (λ v. Unit {0}) Ends (λ v _. turn_shows v) w tt

  pub stop_shows : (w : World) → let e = run_of asked w in Shows asked e.stop (answer_at (end_at (told_stop e.stop) e.world))
  stop_shows w = (stop_ends w).0

  pub stop_leaves : (w : World) → let e = run_of asked w in Leaves asked e.stop e.world.state
  stop_leaves w = (stop_ends w).1
