-- The ways that a boundary can go, each as a law, in the code's order. Assumes nothing.
use Rattle.std.specs.Prelude.{Option, None, Some, is_some}
use Rattle.std.proofs.Common.{◌≡◌, ℕ, ◌<◌, ◌≤◌, Bool, true, false, cond, not, ◌&&◌, List, length, sym, refl, ap, ◌∙◌, subst, ⊎_elim, true≢false, arith, le-leb}
use mathlib.Core.Bool.{false≢true}
use borrow.Author.Tests.{lt-leb, not-false}
use Rattle.turns.specs.Turn.{more, done}
use Rattle.opcodes.specs.declared.Instruction.{Instruction}
use Rattle.registers.specs.Registers.{idles}
use Rattle.bus.specs.Access.{Memories}
use Rattle.session.proofs.Laws.{next_after}
use Rattle.machine.specs.declared.Machine.{Machine}
use Rattle.machine.specs.declared.Moved.{Moved}
use Rattle.machine.specs.declared.Cause.{Cause}
use Rattle.machine.specs.Machine.{passed_of}
use Rattle.machine.specs.Interrupts.{pending_of}
use Rattle.machine.specs.Steps.{Stepped, moved, entered_of, look_of, step_of}
use Rattle.machine.proofs.Steps.{step_cycles, entered_cycles}
use Rattle.wake_log.specs.declared.Row.{Row}
use Rattle.wake_log.specs.Log.{fits_row, with_row}
use Rattle.boundary.specs.World.{Lent, lending, memories_in, with_memories, Terms, world_of, ended_of, grown, grown_to}
use Rattle.boundary.specs.Boundary.{record_taken, records_of, fed_world, sends_of, sent_state, sent_world, row_of, lacks_row, logged_of, logged_world, entered_world}
use Rattle.boundary.specs.Boundary.{waited_state, waited_world}
use Rattle.boundary.specs.Boundary.{stepped_world, executed_of, on_pending, act_of, send_of, boundary_of}
use Rattle.boundary.specs.Counts.{Fine, Ready, Fits, Refuses, Accepts}
use Rattle.boundary.specs.declared.State.{State}
use Rattle.boundary.specs.declared.Stop.TheVariants as stops
use Rattle.boundary.specs.declared.Watch.{Watch}
use Rattle.laws.proofs.Conds.{picks, passes}
use Rattle.laws.proofs.Bools.{and_false}
use Rattle.laws.proofs.Apart.{apart}
use Rattle.boundary.proofs.Feeding.{records_keep}

-- an entry and an instruction take at most 12 cycles, so that there is room for them in the counts
pub entry_most : (cause : Cause) (memory : Memories) (m : Machine) → (entered_of cause memory m).cycles ≤ 12
entry_most cause memory m = ⊎_elim (λ e. omega arith) (λ e. omega arith) (entered_cycles cause memory m)

few_fit : {s : State} {k i n : ℕ} → Ready s → k ≤ 12 → i ≤ 1 → n ≤ 1 → Fits s (grown k i n 0)
few_fit h q a b =
    let x = h.0.instructions in
    let y = h.0.entries in
    let z = h.0.leaps in
    let c = h.1 in
    (omega arith, omega arith, omega arith, omega arith)

module _ (s : State) (memory : Memories) {e : Moved} {j : Memories} where
  pub entry_fits : (cause : Cause) (i n : ℕ) → moved e j ≡ entered_of cause memory s.machine → Ready s → i ≤ 1 → n ≤ 1
      → Fits s (grown e.cycles.0 i n 0)
  entry_fits cause i n q h = few_fit h (rw (ap (λ (z : Stepped). z.cycles) q) (entry_most cause memory s.machine))

  pub step_fits : (k : Instruction) (i n : ℕ) → look_of memory s.machine ≡ Some k → moved e j ≡ step_of k memory s.machine → Ready s
      → i ≤ 1 → n ≤ 1 → Fits s (grown e.cycles.0 i n 0)
  step_fits k i n l q h = few_fit h (rw (ap (λ (z : Stepped). z.cycles) q) (step_cycles memory s.machine k l).1)

module _ (s : State) (l : Lent) where
  -- step 4, by what the machine's entry gives
  pub entry_law : (cause : Cause) {r : State} {e : Moved} {j : Memories}
      → r ≡ grown_to s e.machine (grown e.cycles.0 0 1 0) false → moved e j ≡ entered_of cause (memories_in l) s.machine
      → world_of r (with_memories l j) ≡ entered_world cause (world_of s l)
  unfolding entered_world
  entry_law cause {j} p q =
      ap (λ (x : State). world_of x (with_memories l j)) p
      ∙ ap (λ (z : Stepped). world_of (grown_to s z.machine (grown z.cycles 0 1 0) false) (with_memories l z.memory)) q

  -- step 6, by what the machine's look and step give
  pub step_stops : look_of (memories_in l) s.machine ≡ None
      → done (ended_of stops.Undefined (world_of s l)) ≡ executed_of (look_of (memories_in l) s.machine) (world_of s l)
  step_stops e = ap (λ (k : Option Instruction). executed_of k (world_of s l)) (sym e)

  pub step_goes : (i : Instruction) {r : State} {e : Moved} {j : Memories} → look_of (memories_in l) s.machine ≡ Some i
      → moved e j ≡ step_of i (memories_in l) s.machine → r ≡ grown_to s e.machine (grown e.cycles.0 1 0 0) false
      → more (world_of r (with_memories l j)) ≡ executed_of (look_of (memories_in l) s.machine) (world_of s l)
  step_goes i {j} h q p =
      ap (λ (x : State). more (world_of x (with_memories l j))) p
      ∙ ap (λ (z : Stepped). more (stepped_world z (world_of s l))) q
      ∙ ap (λ (k : Option Instruction). executed_of k (world_of s l)) (sym h)

  module _ (watch : Watch) where
    -- a row that is asked for, and fits
    pub row_fits : watch.log ≡ true → lacks_row watch s l.log ≡ false → fits_row l.log s.entries.0 ≡ true
    row_fits a e = not-false _ (ap (λ (b : Bool). b && not (fits_row l.log s.entries.0)) (sym a) ∙ e)

    pub logs : (cause : Cause) {row : Row} {log : List ℕ} → watch.log ≡ true → row ≡ row_of watch cause s → log ≡ with_row row s.entries.0 l.log
        → log ≡ logged_of watch cause s l.log
    unfolding logged_of
    logs cause a e f = f ∙ ap (λ (r : Row). with_row r s.entries.0 l.log) e ∙ sym (picks _ _ a)

    pub logs_not : (cause : Cause) → watch.log ≡ false → l.log ≡ logged_of watch cause s l.log
    unfolding logged_of
    logs_not cause a = sym (passes _ _ a)

    -- step 4, by whether a row is asked for and lacks
    module _ (cause : Cause) where
      pub accept_stops : lacks_row watch s l.log ≡ true → on_pending watch (Some cause) (world_of s l) ≡ done (ended_of stops.LogFull (world_of s l))
      accept_stops e = picks _ _ e

      pub accept_goes : lacks_row watch s l.log ≡ false
          → on_pending watch (Some cause) (world_of s l) ≡ more (entered_world cause (logged_world watch cause (world_of s l)))
      accept_goes e = passes _ _ e

    -- steps 4 to 6
    pub act_accepts : {cause : Cause} → pending_of s.machine ≡ Some cause → act_of watch (world_of s l) ≡ on_pending watch (Some cause) (world_of s l)
    unfolding act_of
    act_accepts e = ap (λ (p : Option Cause). on_pending watch p (world_of s l)) e

    module _ (e : pending_of s.machine ≡ None) where
      pub act_waits : idles s.machine.chip.registers ≡ true → act_of watch (world_of s l) ≡ more (waited_world (world_of s l))
      unfolding act_of
      act_waits w = ap (λ (p : Option Cause). on_pending watch p (world_of s l)) e ∙ picks _ _ w

      pub act_steps : idles s.machine.chip.registers ≡ false
          → act_of watch (world_of s l) ≡ executed_of (look_of (memories_in l) s.machine) (world_of s l)
      unfolding act_of
      act_steps w = ap (λ (p : Option Cause). on_pending watch p (world_of s l)) e ∙ passes _ _ w

    -- step 3
    pub send_full : sends_of s ≡ true → length l.output ≤ s.sent.0 → send_of watch (world_of s l) ≡ done (ended_of stops.Full (world_of s l))
    unfolding send_of
    send_full p q = picks _ _ p ∙ picks _ _ (le-leb _ _ q)

    pub send_byte : sends_of s ≡ true → s.sent.0 < length l.output → send_of watch (world_of s l) ≡ act_of watch (sent_world (world_of s l))
    unfolding send_of
    send_byte p q = picks _ _ p ∙ passes _ _ (lt-leb _ _ q)

    pub send_rests : sends_of s ≡ false → send_of watch (world_of s l) ≡ act_of watch (world_of s l)
    unfolding send_of
    send_rests p = passes _ _ p

  module _ (t : Terms) where
    pub at_limit : t.limit ≤ s.cycles.0 → boundary_of t (world_of s l) ≡ done (ended_of stops.Limit (world_of s l))
    unfolding boundary_of
    at_limit h = picks _ _ (le-leb _ _ h)

    pub below_limit : s.cycles.0 < t.limit → boundary_of t (world_of s l) ≡ send_of t.watch (fed_world t.session (world_of s l))
    unfolding boundary_of
    below_limit h = passes _ _ (lt-leb _ _ h)

-- whether the row of an interrupt that is to be accepted lacks, as the code asks it
module _ (logs : Bool) (s : State) (log : List ℕ) where
  abbrev Lacks : Bool → Type 0
  Lacks r = (r ≡ true → Refuses logs s log) × (r ≡ false → Accepts logs s log)

  pub lacks_unasked : logs ≡ false → Lacks false
  lacks_unasked a = ((λ e. absurd (false≢true e)), λ _ cause e. ap (λ (b : Bool). b && not (fits_row log s.entries.0)) a)

  pub lacks_fitting : fits_row log s.entries.0 ≡ true → Lacks false
  lacks_fitting f = ((λ e. absurd (false≢true e)), λ _ cause e. ap (λ (b : Bool). logs && not b) f ∙ and_false logs)

  lacks_nothing : pending_of s.machine ≡ None → Lacks false
  lacks_nothing n = ((λ e. absurd (false≢true e)), λ _ cause e. let z : ◌≡◌ {A = Option Cause} None (Some cause) = sym n ∙ e in apart cc)

  lacks_due : {cause : Cause} → logs ≡ true → fits_row log s.entries.0 ≡ false → pending_of s.machine ≡ Some cause → Lacks true
  lacks_due {cause} a f d = (
    (λ _ since i area o.
        let l = lending i area o log in
        let watch : Watch = record { log = logs; since = since } in
        act_accepts s l watch d ∙ accept_stops s l watch cause (ap (λ (b : Bool). b && not (fits_row log s.entries.0)) a ∙ ap not f)),
    (λ e. absurd (true≢false e)),
  )

  -- where it is asked for and has no room
  pub lacks_asked : {due : Bool} → logs ≡ true → fits_row log s.entries.0 ≡ false → due ≡ is_some (pending_of s.machine) → Lacks due
  lacks_asked {due} a f e = by (pending_of s.machine) refl
    where
      by : (p : Option Cause) → pending_of s.machine ≡ p → Lacks due
      by None q = subst Lacks (sym (e ∙ ap is_some q)) (lacks_nothing q)
      by (Some cause) q = subst Lacks (sym (e ∙ ap is_some q)) (lacks_due a f q)

-- step 5, by k leaps more
pub wait_law : (s : State) {r : State} {m : Machine} (k : ℕ) → cond s.inside 0 1 ≡ k
    → m ≡ passed_of 1 s.machine → r ≡ grown_to s m (grown 1 0 0 k) true → r ≡ waited_state s
unfolding waited_state
wait_law s {m} k e p q =
    q
    ∙ ap (λ (x : Machine). grown_to s x (grown 1 0 0 k) true) p
    ∙ ap (λ (x : ℕ). grown_to s (passed_of 1 s.machine) (grown 1 0 0 x) true) (sym e)

pub one_at_most : (b : Bool) {k : ℕ} → cond b 0 1 ≡ k → k ≤ 1
one_at_most true e = omega arith
one_at_most false e = omega arith

pub sent_ready : {s r : State} → r ≡ sent_state s → Ready s → Ready r
unfolding sent_state
sent_ready {s} e h =
    let f = h.0 in
    subst Ready (sym e) (record { instructions = f.instructions; entries = f.entries; leaps = f.leaps; used = f.used }, h.1)

-- step 2 keeps the count, and that the counts are fine
module _ (session : List ℕ) (memory : Memories) where
  pub records_fine : (s : State) → Fine s → Fine (records_of session memory s)
  unfolding record_taken
  records_fine s h =
      records_keep session memory Fine
      (λ x d q.
      let u = q.used in
      let n = next_after session x.place in
      record { instructions = q.instructions; entries = q.entries; leaps = q.leaps; used = omega arith })
      s h

  pub records_cycles : (s : State) → (records_of session memory s).cycles.0 ≡ s.cycles.0
  unfolding record_taken
  records_cycles s = records_keep session memory (λ (x : State). x.cycles.0 ≡ s.cycles.0) (λ x d q. q) s refl

  pub records_ready : {n : ℕ} {s f : State} → f ≡ records_of session memory s → Fine s → s.cycles.0 < n → n ≤ 1000000000 → Ready f
  records_ready {n} {s} e h l b = let z = records_cycles s in subst Ready (sym e) (records_fine s h, omega arith)
