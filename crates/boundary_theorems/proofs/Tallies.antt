-- The cycles, the records used and the bytes sent of a run are the sums of what its boundaries took, applied and sent, told one by
-- one. Assumes nothing.
use Rattle.std.specs.Prelude.{Option, None, Some}
use Prim.Native.Nat.{ℕ, ◌+◌, ◌-◌, ◌≤◌, ◌<◌}
use native.Mathlib.Omega.{arith}
use mathlib.Core.Path.{◌≡◌, refl, sym, ap, ◌∙◌}
use mathlib.Core.Bool.{Bool, true, false, cond}
use mathlib.Core.List.{List, [], ◌∷◌, ◌++◌}
use lib.Dec.{leb}
use lib.ListN.{length}
use Rattle.turns.specs.Turn.{Turn, more, done, Then}
use Rattle.turns.specs.Recorded.{total}
use Rattle.turns.proofs.Laws.{on_more, loop_more, loop_done}
use Rattle.turns.proofs.Recorded.{total_last, rows_keep}
use Rattle.session.specs.Session.{next_at, due_at}
use Rattle.session.proofs.Laws.{next_after, due_there}
use Rattle.registers.specs.Registers.{idles}
use Rattle.bus.specs.Access.{Memories}
use Rattle.opcodes.specs.declared.Instruction.{Instruction}
use Rattle.machine.specs.declared.Machine.{Machine}
use Rattle.machine.specs.declared.Cause.{Cause}
use Rattle.machine.specs.Interrupts.{pending_of}
use Rattle.machine.specs.Steps.{entry_cycles, entered_of, look_of, step_of}
use Rattle.boundary.specs.declared.State.{State}
use Rattle.boundary.specs.declared.Stop.TheVariants.{LogFull}
use Rattle.boundary.specs.declared.Watch.{Watch}
use Rattle.boundary.specs.World.{Lent, memories_in, Terms, World, Ended, ended_of}
use Rattle.boundary.specs.Boundary.{record_taken, records_of, fed_world, sends_of, sent_state, sent_world, lacks_row, logged_world, entered_world, waited_state, waited_world}
use Rattle.boundary.specs.Boundary.{executed_of, on_pending, act_of, send_of, boundary_of, run_of}
use Rattle.boundary.specs.Start.{start_world, ran_of}
use Rattle.laws.proofs.Conds.{picks, passes, cases2}
use Rattle.boundary.proofs.Feeding.{records_end, records_keep}
use Rattle.boundary.proofs.Cases.{records_cycles}
use Rattle.boundary.proofs.Runs.{run_falls}
use Rattle.boundary_theorems.specs.Tallies.{Tally, tally, Passed, due_turn, due_after, due_from, look_cycles, cycles_by, cycles_at, tally_of, tallies_of}

-- how many records are due from a place on, with k before it
module _ (session : List ℕ) (count : ℕ) where
  abbrev passed : ℕ → ℕ → Passed
  passed k place = record { place = place; records = k }

  due_fall : (p q : Passed) → due_turn session count p ≡ more q → length session - q.place < length session - p.place
  unfolding due_turn
  due_fall p q e =
      let k = on_more _ _ _ _ e in
      let d = (due_there session _ _ k.0).0 in
      let n = next_after session p.place in
      let h : next_at session p.place ≡ q.place = ap (λ (z : Passed). z.place) k.1 in
      omega arith

  due_more : (k place : ℕ) → due_at session count place ≡ true
      → due_after session count (passed k place) ≡ due_after session count (passed (k + 1) (next_at session place))
  unfolding due_after due_turn
  due_more k place e = loop_more (due_turn session count) _ _ due_fall (picks _ _ e)

  due_done : (k place : ℕ) → due_at session count place ≡ false → due_after session count (passed k place) ≡ k
  unfolding due_after due_turn
  due_done k place e = loop_done (due_turn session count) _ _ due_fall (passes _ _ e)

-- step 2 uses the records that are due
records_used : (session : List ℕ) (memory : Memories) (s : State) → (records_of session memory s).used.0 ≡ s.used.0 + due_from session s.cycles.0 s.place
unfolding record_taken
records_used session memory s =
    let k =
    records_end session memory
    (λ (x : State). (due_from session count s.place ≡ due_after session count (passed session count (x.used.0 - s.used.0) x.place))
    × (s.used.0 ≤ x.used.0) × (x.cycles.0 ≡ count))
    (λ x d h. (
      h.0
          ∙ due_more session count _ x.place (ap (λ (c : ℕ). due_at session c x.place) (sym h.2) ∙ d)
          ∙ ap (λ (j : ℕ). due_after session count (passed session count j (next_at session x.place))) (one_more s.used.0 x.used.0 h.1),
      one_above s.used.0 x.used.0 h.1,
      h.2,
    ))
    s (ap (λ (j : ℕ). due_after session count (passed session count j s.place)) (none_more s.used.0), less_self s.used.0, refl) in
    let r = records_of session memory s in
    put s.used.0 r.used.0 _
    (k.0.0 ∙ due_done session count _ r.place (ap (λ (c : ℕ). due_at session c r.place) (sym k.0.2) ∙ k.1))
    k.0.1
  where
    count : ℕ
    count = s.cycles.0

    one_more : (a b : ℕ) → a ≤ b → b - a + 1 ≡ b + 1 - a
    one_more a b h = omega arith

    one_above : (a b : ℕ) → a ≤ b → a ≤ b + 1
    one_above a b h = omega arith

    none_more : (a : ℕ) → 0 ≡ a - a
    none_more a = omega arith

    less_self : (a : ℕ) → a ≤ a
    less_self a = omega arith

    put : (a b d : ℕ) → d ≡ b - a → a ≤ b → b ≡ a + d
    put a b d e h = omega arith

records_sent : (session : List ℕ) (memory : Memories) (s : State) → (records_of session memory s).sent.0 ≡ s.sent.0
unfolding record_taken
records_sent session memory s = records_keep session memory (λ (x : State). x.sent.0 ≡ s.sent.0) (λ x d h. h) s refl

-- the counts of r are those of s and a tally more
record Adds (t : Tally) (s r : State) : Type 0 where
  cycles : r.cycles.0 ≡ s.cycles.0 + t.cycles
  used : r.used.0 ≡ s.used.0 + t.records
  sent : r.sent.0 ≡ s.sent.0 + t.bytes

abbrev AddsThen : State → Tally → Turn World Ended → Type 0
AddsThen s t = Then (λ v. Adds t s v.state) (λ e. Adds t s e.world.state)

plus_none : (a b : ℕ) → b ≡ 0 → a ≡ a + b
plus_none a b e = omega arith

-- steps 4 to 6, where a records were applied and b bytes sent
module _ (s : State) (a b : ℕ) (w : World) (h : Adds (tally a b 0) s w.state) where
  takes : (k : ℕ) → w.state.cycles.0 + k ≡ s.cycles.0 + k
  takes k = ap (λ (c : ℕ). c + k) (h.cycles ∙ sym (plus_none s.cycles.0 0 refl))

  act_adds : (watch : Watch) → AddsThen s (tally a b (cycles_at watch w)) (act_of watch w)
  unfolding act_of entered_world waited_state entered_of step_of
  act_adds watch = by (pending_of w.state.machine)
    where
      looked : (k : Option Instruction) → AddsThen s (tally a b (look_cycles k)) (executed_of k w)
      looked None = h
      looked (Some i) = record { cycles = takes _; used = h.used; sent = h.sent }

      look : Option Instruction
      look = look_of (memories_in w.lent) w.state.machine

      goes : (idle : Bool) → AddsThen s (tally a b (cond idle 1 (look_cycles look))) (cond idle (more (waited_world w)) (executed_of look w))
      goes true = record { cycles = takes 1; used = h.used; sent = h.sent }
      goes false = looked look

      accepts : (cause : Cause) (lacks : Bool)
          → AddsThen s (tally a b (cond lacks 0 (entry_cycles w.state.machine)))
          (cond lacks (done (ended_of LogFull w)) (more (entered_world cause (logged_world watch cause w))))
      accepts cause true = h
      accepts cause false = record { cycles = takes _; used = h.used; sent = h.sent }

      by : (p : Option Cause) → AddsThen s (tally a b (cycles_by watch p w)) (on_pending watch p w)
      by (Some cause) = accepts cause (lacks_row watch w.state w.lent.log)
      by None = goes (idles w.state.machine.chip.registers)

-- the counts of a state are the totals of the tallies
pub record Told (ts : List Tally) (s : State) : Type 0 where
  pub cycles : s.cycles.0 ≡ total (λ (t : Tally). t.cycles) ts
  pub used : s.used.0 ≡ total (λ (t : Tally). t.records) ts
  pub sent : s.sent.0 ≡ total (λ (t : Tally). t.bytes) ts

told_more_lem : (ts : List Tally) (t : Tally) (s r : State) → Told ts s → Adds t s r → Told (ts ++ t ∷ []) r
told_more_lem ts t s r h d =
    record {
      cycles = put _ _ _ _ _ d.cycles h.cycles (total_last (λ (t : Tally). t.cycles) ts t);
      used = put _ _ _ _ _ d.used h.used (total_last (λ (t : Tally). t.records) ts t);
      sent = put _ _ _ _ _ d.sent h.sent (total_last (λ (t : Tally). t.bytes) ts t);
    }
  where
    put : (x y k a b : ℕ) → x ≡ y + k → y ≡ a → b ≡ a + k → x ≡ b
    put x y k a b p q r = omega arith

module _ (t : Terms) where
  -- a boundary
  turn_adds : (w : World) → AddsThen w.state (tally_of t w) (boundary_of t w)
  unfolding boundary_of send_of tally_of sent_state
  turn_adds w =
      cases2 (AddsThen w.state) (leb t.limit w.state.cycles.0) (λ _. none)
      (λ _. cases2 (AddsThen w.state) (sends_of r.state)
      (λ _. cases2 (AddsThen w.state) (leb (length w.lent.output) r.state.sent.0)
      (λ _. fed)
      (λ _. act_adds w.state k 1 (sent_world r) (record { cycles = fed.cycles; used = fed.used; sent = one_more _ _ fed.sent }) t.watch))
      (λ _. act_adds w.state k 0 r fed t.watch))
    where
      r : World
      r = fed_world t.session w

      k : ℕ
      k = due_from t.session w.state.cycles.0 w.state.place

      one_more : (x y : ℕ) → x ≡ y + 0 → x + 1 ≡ y + 1
      one_more x y e = omega arith

      none : Adds (tally 0 0 0) w.state w.state
      none = record { cycles = plus_none _ 0 refl; used = plus_none _ 0 refl; sent = plus_none _ 0 refl }

      fed : Adds (tally k 0 0) w.state r.state
      fed =
          record {
            cycles = records_cycles t.session (memories_in w.lent) w.state ∙ plus_none _ 0 refl;
            used = records_used t.session (memories_in w.lent) w.state;
            sent = records_sent t.session (memories_in w.lent) w.state ∙ plus_none _ 0 refl;
          }

  -- a run's counts are the totals of its tallies
  run_told : (w : World) → Told [] w.state → Told (tallies_of t w) (run_of t w).world.state
  unfolding tallies_of run_of
  run_told w h =
      rows_keep (boundary_of t) _ _ (run_falls t) (λ v. tally_of t v ∷ [])
      (λ l v. Told l v.state) (λ l e. Told l e.world.state)
      (λ l v h. by l v h (boundary_of t v) (turn_adds v))
      [] w h
    where
      by : (l : List Tally) (v : World) → Told l v.state → (x : Turn World Ended) → AddsThen v.state (tally_of t v) x
          → let ts = l ++ tally_of t v ∷ [] in Then (λ u. Told ts u.state) (λ e. Told ts e.world.state) x
      by l v h (more u) d = told_more_lem l (tally_of t v) v.state u.state h d
      by l v h (done e) d = told_more_lem l (tally_of t v) v.state e.world.state h d

pub amounts_told : (t : Terms) (m : Machine) (l : Lent) → Told (tallies_of t (start_world m l)) (ran_of t m l).world.state
amounts_told t m l = run_told t (start_world m l) (record { cycles = refl; used = refl; sent = refl })
