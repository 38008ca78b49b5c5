-- The counts of a run are those of its boundaries, told one by one: its leaps are the longest stretches of waiting cycles (Longest.antt:
-- `longest_groups`), its entries and instructions the boundaries that took steps 4 and 6. Assumes nothing.
use Rattle.std.specs.Prelude.{Option, None, Some}
use Prim.Native.Nat.{ℕ, ◌+◌}
use mathlib.Core.Path.{◌≡◌, refl, sym, ap, subst, ◌∙◌}
use mathlib.Core.Bool.{Bool, true, false, not, cond, ◌&&◌}
use mathlib.Core.List.{List, [], ◌∷◌, ◌++◌, append-nil}
use lib.Dec.{leb}
use lib.ListN.{length}
use Rattle.turns.specs.Turn.{Turn, more, done, Then}
use Rattle.turns.proofs.Recorded.{total_last, rows_keep}
use Rattle.registers.specs.Registers.{idles}
use Rattle.bus.specs.Access.{Memories}
use Rattle.opcodes.specs.declared.Instruction.{Instruction}
use Rattle.machine.specs.declared.Cause.{Cause}
use Rattle.machine.specs.declared.Machine.{Machine}
use Rattle.machine.specs.Interrupts.{pending_of}
use Rattle.machine.specs.Steps.{look_of}
use Rattle.boundary.specs.declared.State.{State}
use Rattle.boundary.specs.declared.Stop.TheVariants.{Full}
use Rattle.boundary.specs.declared.Watch.{Watch}
use Rattle.boundary.specs.World.{Lent, memories_in, Terms, World, Ended, ended_of}
use Rattle.boundary.specs.Boundary.{record_taken, due, records_of, fed_world, sends_of, sent_state, sent_world, lacks_row, entered_world, waited_state, waited_world}
use Rattle.boundary.specs.Boundary.{executed_of, on_pending, act_of, send_of, boundary_of, run_of}
use Rattle.boundary.specs.Start.{start_world, ran_of}
use Rattle.laws.proofs.Bools.{and_true, and_false}
use Rattle.laws.proofs.Conds.{cases}
use Rattle.boundary.proofs.Feeding.{records_more, records_done, records_keep}
use Rattle.boundary.proofs.Runs.{run_falls}
use Rattle.boundary_theorems.specs.Trace.{Taken, entry, waiting_cycle, instruction, is_entry, is_instruction, step_by, taken_by}
use Rattle.boundary_theorems.specs.Trace.{TraceMark, mark_of, if_going, marks_at, trace_of, waits, stretches_of, entries_of, instructions_of}
use Rattle.boundary_theorems.proofs.Stretches.{leaps_none, last_waits, last_snoc, opens, leaps_snoc}

-- the counts of a state are those of the marks so far
pub record Counted (ms : List TraceMark) (s : State) : Type 0 where
  pub leaps : s.leaps.0 ≡ stretches_of ms
  pub entries : s.entries.0 ≡ entries_of ms
  pub instructions : s.instructions.0 ≡ instructions_of ms

counted_more : (ms : List TraceMark) (x : TraceMark) (s t : State) → Counted ms s
    → t.leaps.0 ≡ s.leaps.0 + opens ms x
    → t.entries.0 ≡ s.entries.0 + cond (is_entry x.taken) 1 0
    → t.instructions.0 ≡ s.instructions.0 + cond (is_instruction x.taken) 1 0
    → Counted (ms ++ x ∷ []) t
counted_more ms x s t h l e i =
    record {
      leaps = l ∙ ap (λ (k : ℕ). k + opens ms x) h.leaps ∙ sym (leaps_snoc ms x);
      entries = e ∙ ap (λ (k : ℕ). k + cond (is_entry x.taken) 1 0) h.entries ∙ sym (total_last (λ (m : TraceMark). cond (is_entry m.taken) 1 0) ms x);
      instructions =
          i
          ∙ ap (λ (k : ℕ). k + cond (is_instruction x.taken) 1 0) h.instructions
          ∙ sym (total_last (λ (m : TraceMark). cond (is_instruction m.taken) 1 0) ms x);
    }

-- `inside` tells that the last mark waits; within a boundary, also that there was no record and no sending so far (q)
record Follows (ms : List TraceMark) (q : Bool) (s : State) : Type 0 where
  counted : Counted ms s
  inside : s.inside ≡ (last_waits ms && q)

abbrev Marked : List TraceMark → TraceMark → Turn World Ended → Type 0
Marked ms x = Then (λ v. Follows (ms ++ x ∷ []) true v.state) (λ e. Counted ms e.world.state)

-- steps 4 to 6, at a boundary where a record was applied (a) and a byte sent (b)
module _ (ms : List TraceMark) (a b : Bool) (w : World) (h : Follows ms (not a && not b) w.state) where
  abbrev mark : Taken → TraceMark
  mark t = record { applied = a; sent = b; taken = t }

  after : (t : Taken) (s : State) → Counted (ms ++ mark t ∷ []) s → s.inside ≡ waits (mark t) → Follows (ms ++ mark t ∷ []) true s
  after t s c i = record { counted = c; inside = i ∙ sym (and_true _ ∙ last_snoc ms (mark t)) }

  act_marked : (watch : Watch) → Marked ms (mark (taken_by w.state.machine)) (act_of watch w)
  unfolding act_of entered_world waited_state
  act_marked watch = by (pending_of w.state.machine)
    where
      counted : (t : Taken) (s : State)
          → s.leaps.0 ≡ w.state.leaps.0 + opens ms (mark t)
          → s.entries.0 ≡ w.state.entries.0 + cond (is_entry t) 1 0
          → s.instructions.0 ≡ w.state.instructions.0 + cond (is_instruction t) 1 0
          → s.inside ≡ waits (mark t)
          → Follows (ms ++ mark t ∷ []) true s
      counted t s l e i f = after t s (counted_more ms (mark t) w.state s h.counted l e i) f

      looked : (k : Option Instruction) → Marked ms (mark instruction) (executed_of k w)
      looked None = h.counted
      looked (Some i) = counted instruction _ refl refl refl refl

      goes : (idle : Bool)
          → Marked ms (mark (cond idle waiting_cycle instruction))
          (cond idle (more (waited_world w)) (executed_of (look_of (memories_in w.lent) w.state.machine) w))
      goes true = counted waiting_cycle _ (ap (λ (i : Bool). w.state.leaps.0 + cond i 0 1) h.inside) refl refl refl
      goes false = looked (look_of (memories_in w.lent) w.state.machine)

      by : (p : Option Cause) → Marked ms (mark (step_by p (idles w.state.machine.chip.registers))) (on_pending watch p w)
      by (Some cause) =
          cases (Marked ms (mark entry)) (lacks_row watch w.state w.lent.log) (λ _. h.counted) (λ _. counted entry _ refl refl refl refl)
      by None = goes (idles w.state.machine.chip.registers)

-- step 2 keeps the counts, and tells by `inside` whether there was a record
module _ (session : List ℕ) (w : World) where
  records_counted : (ms : List TraceMark) → Counted ms w.state → Counted ms (fed_world session w).state
  unfolding record_taken
  records_counted ms h =
      records_keep session (memories_in w.lent) (Counted ms)
      (λ x d h. record { leaps = h.leaps; entries = h.entries; instructions = h.instructions })
      w.state h

  records_inside : (fed_world session w).state.inside ≡ (w.state.inside && not (due session w.state))
  unfolding record_taken
  records_inside = by (due session s) refl
    where
      s : State
      s = w.state

      memory : Memories
      memory = memories_in w.lent

      by : (d : Bool) → due session s ≡ d → (records_of session memory s).inside ≡ (s.inside && not d)
      by true e =
          ap (λ (x : State). x.inside) (records_more session memory s e)
          ∙ records_keep session memory (λ (x : State). x.inside ≡ false) (λ x d h. refl) (record_taken session memory s) refl
          ∙ sym (and_false s.inside)
      by false e = ap (λ (x : State). x.inside) (records_done session memory s e) ∙ sym (and_true s.inside)

module _ (t : Terms) where
  -- a boundary
  turn_marked : (ms : List TraceMark) (w : World) → Follows ms true w.state → Marked ms (mark_of t.session w) (boundary_of t w)
  unfolding boundary_of send_of mark_of sent_state
  turn_marked ms w h =
      cases (Marked ms (mark_of t.session w)) (leb t.limit w.state.cycles.0) (λ _. h.counted) (λ _. by (sends_of r.state))
    where
      r : World
      r = fed_world t.session w

      d : Bool
      d = due t.session w.state

      c : Counted ms r.state
      c = records_counted t.session w ms h.counted

      rests : (l d : Bool) → ((l && true) && not d) ≡ (l && (not d && not false))
      rests true true = refl
      rests true false = refl
      rests false d = refl

      never : (l d : Bool) → false ≡ (l && (not d && not true))
      never true true = refl
      never true false = refl
      never false d = refl

      full : Bool
      full = leb (length w.lent.output) r.state.sent.0

      mark : Bool → TraceMark
      mark b = record { applied = d; sent = b; taken = taken_by (cond b (sent_state r.state) r.state).machine }

      by : (b : Bool) → Marked ms (mark b) (cond b (cond full (done (ended_of Full r)) (act_of t.watch (sent_world r))) (act_of t.watch r))
      by true =
          cases (Marked ms (mark true)) full
          (λ _. c)
          (λ _. act_marked ms d true (sent_world r)
          (record { counted = record { leaps = c.leaps; entries = c.entries; instructions = c.instructions }; inside = never (last_waits ms) d })
          t.watch)
      by false =
          act_marked ms d false r
          (record { counted = c; inside = records_inside t.session w ∙ ap (λ (i : Bool). i && not d) h.inside ∙ rests (last_waits ms) d })
          t.watch

  -- with no mark at the last
  marked : (ms : List TraceMark) (m : TraceMark) (x : Turn World Ended) → Marked ms m x
      → let l = ms ++ if_going x (m ∷ []) in Then (λ v. Follows l true v.state) (λ e. Counted l e.world.state) x
  marked ms m (more v) h = h
  marked ms m (done e) h = subst (λ (l : List TraceMark). Counted l e.world.state) (sym (append-nil ms)) h

  -- a run's counts are those of its trace
  trace_counted : (w : World) → Follows [] true w.state → Counted (trace_of t w) (run_of t w).world.state
  unfolding trace_of run_of
  trace_counted w h =
      rows_keep (boundary_of t) _ _ (run_falls t) (marks_at t)
      (λ l v. Follows l true v.state) (λ l e. Counted l e.world.state)
      (λ l v h. marked l (mark_of t.session v) (boundary_of t v) (turn_marked l v h))
      [] w h

pub counts_told : (t : Terms) (m : Machine) (l : Lent) → Counted (trace_of t (start_world m l)) (ran_of t m l).world.state
counts_told t m l =
    trace_counted t (start_world m l)
    (record { counted = record { leaps = sym leaps_none; entries = refl; instructions = refl }; inside = refl })
