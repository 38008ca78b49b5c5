-- A run changes no byte that no write changes: "Any other address at or above R ignores writes", of the registers "the image bytes
-- there are neither read nor written", and the area "follows R". R itself is kept. Assumes nothing.
use Prim.Native.Nat.{ℕ, ◌+◌, ◌≤◌}
use mathlib.Core.Path.{◌≡◌, refl, subst, ◌∙◌}
use mathlib.Core.Bool.{true, false, and-false}
use lib.ListN.{get_or}
use borrow.Author.Tests.{le-ltb}
use Rattle.opcodes.specs.declared.Instruction.{Instruction}
use Rattle.session.specs.declared.Event.{Event}
use Rattle.session.specs.declared.Event.TheVariants.{Port1, Port2, Irq1, Nmi, Received, Idle, Reset}
use Rattle.session.specs.Session.{event_at}
use Rattle.bus.specs.Registers.{register_at, is_memory}
use Rattle.bus.specs.Access.{Memories, takes}
use Rattle.bus.specs.Units.{passed}
use Rattle.bus.proofs.Stores.{Spared, spared_all, spared_then}
use Rattle.chip.proofs.Trees.{timed_r}
use Rattle.machine.specs.declared.Machine.{Machine}
use Rattle.machine.specs.declared.Cause.{Cause}
use Rattle.machine.specs.Events.{applied_of}
use Rattle.machine.specs.Steps.{entered_of, step_of}
use Rattle.machine.proofs.Reset.{reset_is}
use Rattle.machine.proofs.Steps.{step_spared, entered_spared}
use Rattle.boundary.specs.World.{memories_in, Terms, World}
use Rattle.boundary.specs.Boundary.{record_taken, sent_state, entered_world, waited_state, run_of}
use Rattle.boundary.proofs.Keeps.{Keeps, run_holds}

abbrev start : Machine → ℕ
start m = m.chip.bus.r

applied_r : (e : Event) (memory : Memories) (m : Machine) → start (applied_of e memory m) ≡ start m
unfolding applied_of
applied_r (Port1 v) memory m = refl
applied_r (Port2 v) memory m = refl
applied_r (Irq1 high) memory m = refl
applied_r Nmi memory m = refl
applied_r (Received v stop) memory m = refl
applied_r Idle memory m = refl
applied_r Reset memory m = (reset_is memory m).bus.r

entered_r : (cause : Cause) (memory : Memories) (m : Machine) → start (entered_of cause memory m).machine ≡ start m
unfolding entered_of
entered_r cause memory m = timed_r _ _ _ _ memory

step_r : (i : Instruction) (memory : Memories) (m : Machine) → start (step_of i memory m).machine ≡ start m
unfolding step_of
step_r i memory m = timed_r _ _ _ _ memory

-- R is r, and of the memories what every write spares is as it was
abbrev Same : ℕ → Memories → World → Type 0
Same r memory w = (start w.state.machine ≡ r) × Spared r memory (memories_in w.lent)

same : (r : ℕ) (memory : Memories) (t : Terms) → Keeps t (Same r memory)
unfolding record_taken sent_state entered_world waited_state passed
same r memory t =
    record {
      applied = λ w d h. (applied_r (event_at t.session w.state.place) (memories_in w.lent) w.state.machine ∙ h.0, h.1);
      sent = λ w l h. h;
      entered = λ w cause e f l h.
          let m = w.state.machine in
          let here = memories_in w.lent in
          let after = (entered_of cause here m).memory in
          (entered_r cause here m ∙ h.0, spared_then h.1 (subst (λ (x : ℕ). Spared x here after) h.0 (entered_spared cause here m)));
      waited = λ w f l h. h;
      stepped = λ w i f e l h.
          let m = w.state.machine in
          let here = memories_in w.lent in
          let after = (step_of i here m).memory in
          (step_r i here m ∙ h.0, spared_then h.1 (subst (λ (x : ℕ). Spared x here after) h.0 (step_spared i here m)));
    }

module _ (t : Terms) (w : World) where
  kept : Same (start w.state.machine) (memories_in w.lent) (run_of t w).world
  kept = run_holds t (Same (start w.state.machine) (memories_in w.lent)) (same _ _ t) w (refl, spared_all _ _)

  pub r_kept : (run_of t w).world.state.machine.chip.bus.r ≡ w.state.machine.chip.bus.r
  r_kept = kept.0

  pub read_only_kept : (a : ℕ) → takes true w.state.machine.chip.bus.r a ≡ false → get_or (run_of t w).world.lent.image a 0 ≡ get_or w.lent.image a 0
  read_only_kept = kept.1.image

  -- the area "follows R": its bytes at or above R stay
  pub area_kept : (k : ℕ) → w.state.machine.chip.bus.r ≤ 128 + k → get_or (run_of t w).world.lent.area k 0 ≡ get_or w.lent.area k 0
  area_kept k h = kept.1.area k (rw (le-ltb (128 + k) w.state.machine.chip.bus.r h) (and-false (is_memory (register_at (128 + k)))))
