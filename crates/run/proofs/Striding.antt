-- Plain instructions with nothing else between them: the run is the same from where they end. Assumes nothing.
use Rattle.std.specs.Prelude.{Option}
use Prim.Native.Nat.{ℕ, ◌+◌, ◌-◌, ◌≤◌, ◌<◌}
use native.Mathlib.Omega.{arith}
use mathlib.Core.Bool.{Bool, true, false, not, ◌&&◌, ◌||◌, beq, true≢false}
use mathlib.Core.List.{List}
use mathlib.Core.Path.{◌≡◌, refl, sym, ap, subst, ◌∙◌}
use lib.Dec.{leb, eqb}
use borrow.Author.Tests.{leb-false, ne_eqb}
use Rattle.laws.proofs.Bools.{neither, and_true, and_false}
use Rattle.turns.specs.Turn.{more}
use Rattle.timer.specs.Timer.{ticks}
use Rattle.serial.specs.Serial.{ticks_serial, serial_request}
use Rattle.registers.specs.declared.Registers.{Registers}
use Rattle.registers.specs.Registers.{idles}
use Rattle.bus.specs.declared.Bus.{Bus}
use Rattle.bus.specs.Access.{Memories, memories}
use Rattle.bus.specs.Units.{passed}
use Rattle.bus.proofs.Ranges as bus
use Rattle.chip.specs.Act.{end}
use Rattle.opcodes.specs.declared.Instruction.{Instruction}
use Rattle.machine.specs.declared.Machine.{Machine}
use Rattle.machine.specs.Machine.{on_chip, passed_of}
use Rattle.machine.specs.Interrupts.{pending_of}
use Rattle.machine.specs.Steps.{Stepped}
use Rattle.plain.specs.Plainly.{floor_of, Steps, Hopped}
use Rattle.boundary.specs.declared.State.{State}
use Rattle.boundary.specs.World.{Lent, memories_in, with_memories, Terms, world_of, grown, grown_to}
use Rattle.boundary.specs.Boundary.{send_of, stepped_world, executed_of, boundary_of}
use Rattle.boundary.specs.Counts.{Fine, Fits}
use Rattle.boundary.proofs.Feeding.{records_done}
use Rattle.boundary.proofs.Cases.{below_limit, send_rests, act_steps}
use Rattle.boundary.proofs.Runs.{run_more}
use Rattle.run.specs.Leaps.{is_due, First, stirs, strode_of, Goes, Paced}
use Rattle.run.proofs.Waiting.{accepts, later, not_due, same}

-- other registers with the same I accept the same
pub alike_due : (j : ℕ) (m : Machine) (c : Registers) → c.codes.i ≡ m.chip.registers.codes.i
    → is_due (pending_of (on_chip m c (passed j m.chip.bus))) ≡ is_due (pending_of (passed_of j m))
alike_due j m c e =
    later j (on_chip m c m.chip.bus)
    ∙ ap (λ (i : Bool). accepts m.nmi i
    ((not m.irq1 || (m.chip.bus.timer.icf.set && m.chip.bus.timer.eici)) || serial_request m.chip.bus.serial)
    ((ticks j m.chip.bus.timer).ocf.set && m.chip.bus.timer.eoci)
    ((ticks j m.chip.bus.timer).tof.set && m.chip.bus.timer.etoi)) e
    ∙ sym (later j m)

pub strode_law : (s : State) (c : Registers) (j i : ℕ) {b : Bus} {r : State} → b ≡ passed j s.machine.chip.bus
    → r ≡ grown_to s (on_chip s.machine c b) (grown j i 0 0) (s.inside && eqb i 0) → r ≡ strode_of s c j i
strode_law s c j i p q = q ∙ ap (λ (b : Bus). grown_to s (on_chip s.machine c b) (grown j i 0 0) (s.inside && eqb i 0)) p

-- no instruction yet
pub strode_none : (s : State) → s ≡ strode_of s s.machine.chip.registers 0 0
unfolding passed ticks ticks_serial
strode_none s = same s refl (omega arith) (omega arith) (omega arith) (omega arith) (sym (and_true s.inside))

-- one more, of k cycles
strode_more : (s : State) (c d : Registers) (j i k : ℕ)
    → grown_to (strode_of s c j i) (passed_of k (on_chip s.machine d (passed j s.machine.chip.bus))) (grown k 1 0 0) false
    ≡ strode_of s d (j + k) (i + 1)
strode_more s c d j i k =
    same s (ap (λ (b : Bus). on_chip s.machine d b) (sym (bus.passed_add j k s.machine.chip.bus)))
    (omega arith) (omega arith) (omega arith) (omega arith)
    (sym (ap (λ (t : Bool). s.inside && t) (ne_eqb (i + 1) 0 (λ (z : i + 1 ≡ 0). omega arith)) ∙ and_false s.inside))

module _ (t : Terms) (s : State) where
  -- as long as nothing stirs, a boundary is the next instruction
  pub stride_turn : (c d : Registers) (j i k : ℕ) (memory after : Memories) (l : Lent) → s.cycles.0 + j < t.limit → stirs t.session s j ≡ false
      → idles c ≡ false → c.codes.i ≡ s.machine.chip.registers.codes.i
      → Steps memory (strode_of s c j i).machine k (end d (passed k (passed j s.machine.chip.bus)) after)
      → boundary_of t (world_of (strode_of s c j i) (with_memories l memory)) ≡ more (world_of (strode_of s d (j + k) (i + 1)) (with_memories l after))
  unfolding passed
  stride_turn c d j i k memory after l b still awake masked e =
      let r = strode_of s c j i in
      let here = with_memories l memory in
      let q = neither _ _ still in
      let p = neither _ _ q.0 in
      below_limit r here t b
      ∙ ap (λ (x : State). send_of t.watch (world_of x here)) (records_done t.session (memories_in here) r p.0)
      ∙ send_rests r here t.watch p.1
      ∙ act_steps r here t.watch (not_due _ (alike_due j s.machine c masked ∙ q.1)) awake
      ∙ ap (λ (z : Option Instruction). executed_of z (world_of r here)) e.stands
      ∙ ap (λ (z : Stepped). more (stepped_world z (world_of r here))) e.steps
      ∙ ap (λ (x : State). more (world_of x (with_memories l after))) (strode_more s c d j i k)

-- two bools that are not unlike
alike : (a b : Bool) → not (beq a b) ≡ false → a ≡ b
alike true true e = refl
alike true false e = absurd (true≢false e)
alike false true e = absurd (true≢false e)
alike false false e = refl

-- what ends the stride
abbrev pub ends : ℕ → ℕ → Bool → Bool → Bool → Bool
ends room cycles idle i masked = (leb room cycles || idle) || not (beq i masked)

pub below_room : (room cycles : ℕ) (a b : Bool) → ((leb room cycles || a) || b) ≡ false → cycles < room
below_room room cycles a b on = leb-false room cycles (neither (leb room cycles) a (neither (leb room cycles || a) b on).0).0

module _ (t : Terms) (s : State) where
  -- one turn of the stride
  pub strides : (room : ℕ) (c e : Registers) (j i k floor : ℕ) (start image after : List ℕ) {idle : Bool}
      → First (t.limit - s.cycles.0) room (stirs t.session s)
      → idle ≡ idles c → ends room j idle c.codes.i s.machine.chip.registers.codes.i ≡ false
      → floor ≡ floor_of s.machine.chip.bus.rame → Hopped floor s.machine.chip.bus.r c image k e after
      → Goes t s start (strode_of s c j i) image → Goes t s start (strode_of s e (j + k) (i + 1)) after
  unfolding passed
  strides room c e j i k floor start image after {idle} first told on plain hopped goes l =
      let q = neither (leb room j || idle) _ on in
      let p = neither (leb room j) _ q.0 in
      let b = below_room room j _ _ on in
      let w = first.within in
      goes l
      ∙ run_more t _
      (stride_turn t s c e j i k (memories image l.area) (memories after l.area) l (omega arith) (first.before j b) (sym told ∙ p.1) (alike _ _ q.1)
      (hopped.hops (passed j s.machine.chip.bus) l.area s.machine.irq1 s.machine.nmi (omega arith) refl))

  pub stride_ends : (c : Registers) (j i : ℕ) (start image after : List ℕ) {r : State} → Fine s → i ≤ j
      → Goes t s start (strode_of s c j i) image → after ≡ image → r ≡ strode_of s c j i → Paced t s start r after
  stride_ends c j i start image after f l goes e q =
      let x = f.instructions in
      let y = f.entries in
      let z = f.leaps in
      subst (λ (v : State). Paced t s start v after) (sym q)
      (subst (λ (v : List ℕ). Paced t s start (strode_of s c j i) v) (sym e)
      (record { instructions = omega arith; entries = omega arith; leaps = omega arith; used = f.used }, omega arith, goes))

-- the stride's cycles are within the limit but for its last instruction, so no count can pass its type
pub stride_fits : {s : State} {n room j i : ℕ} → Fine s → s.cycles.0 < n → n ≤ 1000000000 → room ≤ n - s.cycles.0 → i ≤ j → j ≤ room + 12
    → Fits s (grown j i 0 0)
stride_fits f l h p q r =
    let x = f.instructions in
    let y = f.entries in
    let z = f.leaps in
    (omega arith, omega arith, omega arith, omega arith)
