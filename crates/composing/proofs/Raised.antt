-- A run of the rest beside the run that it goes on: at each boundary the one has what the other has, and besides what the first run
-- had done. Assumes nothing.
use Rattle.std.specs.Prelude.{Option, None, Some}
use Prim.Native.Nat.{ℕ, ◌+◌, ◌-◌, ◌≤◌}
use native.Mathlib.Nat.{add_assoc}
use native.Mathlib.Omega.{arith}
use mathlib.Core.List.{List, ◌++◌}
use mathlib.Core.Path.{◌≡◌, refl, sym, ap, subst, ◌∙◌}
use mathlib.Core.Bool.{Bool, true, false, cond}
use lib.Dec.{leb}
use lib.ListN.{length, length-append}
use Rattle.turns.specs.Turn.{Turn}
use Rattle.turns.proofs.Beside.{Both, loop_beside}
use Rattle.laws.proofs.Apart.{apart}
use Rattle.laws.proofs.Lists.{set_append_add}
use Rattle.laws.proofs.Orders.{leb_shifted}
use Rattle.bus.specs.Access.{Memories}
use Rattle.bus.specs.Units.{byte_sent}
use Rattle.registers.specs.Registers.{idles}
use Rattle.opcodes.specs.declared.Instruction.{Instruction}
use Rattle.machine.specs.declared.Machine.{Machine}
use Rattle.machine.specs.declared.Cause.{Cause}
use Rattle.machine.specs.Machine.{passed_of}
use Rattle.machine.specs.Interrupts.{pending_of, cause_number, behind_of}
use Rattle.machine.specs.Events.{applied_of, on_bus}
use Rattle.machine.specs.Steps.{entered_of, look_of, step_of}
use Rattle.wake_log.specs.declared.Row.{Row}
use Rattle.wake_log.specs.Log.{with_row}
use Rattle.boundary.specs.declared.State.{State}
use Rattle.boundary.specs.declared.Watch.{Watch}
use Rattle.boundary.specs.World.{Lent, lending, memories_in, with_memories, Terms, watching, later, logged_bytes, World, Ended, world_of, grown, grown_to}
use Rattle.boundary.specs.Boundary.{record_taken, due, record_turn, records_of, fed_world, sends_of, sent_state, sent_world}
use Rattle.boundary.specs.Boundary.{row_of, lacks_row, logged_of, logged_world, entered_world, waited_state, executed_of, on_pending, act_of, send_of, boundary_of, run_of}
use Rattle.boundary.proofs.Feeding.{records_fall}
use Rattle.boundary.proofs.Runs.{run_falls}
use Rattle.rest.proofs.Matched.{Alike, Matched, event_there, next_there, due_shifted, due_goes}
use Rattle.composing.proofs.Rows.{leb_behind, cycle_later, lacks_behind, logged_behind}

-- what a first run has done: where the first unused record stands, its counts, and the filled parts of its output and log
pub record Past : Type 0 where
  pub place : ℕ
  pub used : ℕ
  pub cycles : ℕ
  pub instructions : ℕ
  pub entries : ℕ
  pub filled : List ℕ
  pub logged : List ℕ

-- a state and a world of the second run with that before it; the leaps, and whether the boundary before was a waiting cycle, are apart
abbrev pub raised_state : Past → State → ℕ → Bool → State
raised_state d x leaps inside =
    record {
      machine = x.machine;
      place = d.place + x.place;
      used = record { 0 = d.used + x.used.0 };
      cycles = record { 0 = d.cycles + x.cycles.0 };
      instructions = record { 0 = d.instructions + x.instructions.0 };
      entries = record { 0 = d.entries + x.entries.0 };
      sent = record { 0 = length d.filled + x.sent.0 };
      leaps = record { 0 = leaps };
      inside = inside;
    }

abbrev pub raised_lent : Past → Lent → Lent
raised_lent d l = lending l.image l.area (d.filled ++ l.output) (d.logged ++ l.log)

abbrev pub raised : Past → World → ℕ → Bool → World
raised d w leaps inside = world_of (raised_state d w.state leaps inside) (raised_lent d w.lent)

-- The leaps of the one run, and those of the other after so many before: a waiting cycle where the second run starts opens a leap
-- there, and may go on one here.
pub record Apart (before leaps : ℕ) (inside : Bool) (leaps' : ℕ) (inside' : Bool) : Type 0 where
  pub order : cond inside' 1 0 ≤ cond inside 1 0
  pub low : leaps ≤ before + leaps'
  pub high : before + leaps' + cond inside 1 0 ≤ leaps + 1 + cond inside' 1 0

module _ {before leaps : ℕ} {inside : Bool} {leaps' : ℕ} {inside' : Bool} (a : Apart before leaps inside leaps' inside') where
  apart_ends : Apart before leaps false leaps' false
  apart_ends = let o = a.order in let h = a.high in record { order = omega arith; low = a.low; high = omega arith }

  apart_still : Apart before (leaps + 0) false (leaps' + 0) false
  apart_still =
      let o = a.order in
      let l = a.low in
      let h = a.high in
      record { order = omega arith; low = omega arith; high = omega arith }

  pub apart_most : before + leaps' ≤ leaps + 1
  apart_most = let o = a.order in let h = a.high in omega arith

apart_waits : (before leaps : ℕ) (inside : Bool) (leaps' : ℕ) (inside' : Bool) → Apart before leaps inside leaps' inside'
    → Apart before (leaps + cond inside 0 1) true (leaps' + cond inside' 0 1) true
apart_waits before leaps true leaps' true a = let l = a.low in let h = a.high in record { order = omega arith; low = omega arith; high = omega arith }
apart_waits before leaps true leaps' false a = let l = a.low in let h = a.high in record { order = omega arith; low = omega arith; high = omega arith }
apart_waits before leaps false leaps' true a = let o = a.order in absurd (let z : ⊥ = omega arith in z)
apart_waits before leaps false leaps' false a = let l = a.low in let h = a.high in record { order = omega arith; low = omega arith; high = omega arith }

-- two picks, by tests that say the same
both_cond : {A B : Type 0} (P : A → B → Type 0) (b b' : Bool) {x y : A} {x' y' : B} → b ≡ b'
    → (b' ≡ true → P x x') → (b' ≡ false → P y y') → P (cond b x y) (cond b' x' y')
both_cond P true true e p q = p refl
both_cond P true false e p q = apart cc
both_cond P false true e p q = apart cc
both_cond P false false e p q = q refl

module _ (d : Past) where
  -- each act of a boundary, with what was before it
  grown_raised : (x : State) (m : Machine) (cycles instructions entries opened opened' leaps : ℕ) (inside next : Bool)
      → grown_to (raised_state d x leaps inside) m (grown cycles instructions entries opened) next
      ≡ raised_state d (grown_to x m (grown cycles instructions entries opened') next) (leaps + opened) next
  grown_raised x m cycles instructions entries opened opened' leaps inside next =
      λ k. record {
        machine = m;
        place = d.place + x.place;
        used = record { 0 = d.used + x.used.0 };
        cycles = record { 0 = add_assoc d.cycles x.cycles.0 cycles k };
        instructions = record { 0 = add_assoc d.instructions x.instructions.0 instructions k };
        entries = record { 0 = add_assoc d.entries x.entries.0 entries k };
        sent = record { 0 = length d.filled + x.sent.0 };
        leaps = record { 0 = leaps + opened };
        inside = next;
      }

  taken_raised : (s r : List ℕ) (memory : Memories) (x : State) (leaps : ℕ) (inside : Bool) → Alike s r d.cycles d.place x.place
      → record_taken s memory (raised_state d x leaps inside) ≡ raised_state d (record_taken r memory x) leaps false
  unfolding record_taken
  taken_raised s r memory x leaps inside a =
      let event = event_there s r d.cycles d.place x.place a in
      let next = next_there s d.cycles d.place r x.place a in
      λ k. record {
        machine = applied_of (event k) memory x.machine;
        place = next k;
        used = record { 0 = add_assoc d.used x.used.0 1 k };
        cycles = record { 0 = d.cycles + x.cycles.0 };
        instructions = record { 0 = d.instructions + x.instructions.0 };
        entries = record { 0 = d.entries + x.entries.0 };
        sent = record { 0 = length d.filled + x.sent.0 };
        leaps = record { 0 = leaps };
        inside = false;
      }

  sent_raised : (w : World) (leaps : ℕ) (inside : Bool) → sent_world (raised d w leaps inside) ≡ raised d (sent_world w) leaps false
  unfolding sent_state
  sent_raised w leaps inside =
      let x = w.state in
      let byte = set_append_add d.filled w.lent.output x.sent.0 x.machine.chip.bus.serial.transmit in
      λ k. world_of
      (record {
        machine = on_bus x.machine (byte_sent x.machine.chip.bus);
        place = d.place + x.place;
        used = record { 0 = d.used + x.used.0 };
        cycles = record { 0 = d.cycles + x.cycles.0 };
        instructions = record { 0 = d.instructions + x.instructions.0 };
        entries = record { 0 = d.entries + x.entries.0 };
        sent = record { 0 = add_assoc (length d.filled) x.sent.0 1 k };
        leaps = record { 0 = leaps };
        inside = false;
      })
      (lending w.lent.image w.lent.area (byte k) (d.logged ++ w.lent.log))

  -- the row of an entry
  row_raised : (watch : Watch) (cause : Cause) (x : State) (leaps : ℕ) (inside : Bool)
      → row_of watch cause (raised_state d x leaps inside) ≡ row_of (later watch d.cycles) cause x
  row_raised watch cause x leaps inside =
      λ k. record {
        cycle = cycle_later watch.since.0 d.cycles x.cycles.0 k;
        cause = cause_number cause;
        behind = behind_of cause x.machine;
      }

  logged_raised : (watch : Watch) → length d.logged ≡ logged_bytes watch d.entries → (cause : Cause) (w : World) (leaps : ℕ) (inside : Bool)
      → logged_world watch cause (raised d w leaps inside) ≡ raised d (logged_world (later watch d.cycles) cause w) leaps inside
  unfolding logged_of
  logged_raised watch full cause w leaps inside =
      let x = w.state in
      let one = raised_state d x leaps inside in
      let log = d.logged ++ w.lent.log in
      let e = row_raised watch cause x leaps inside in
      let place = ap (λ (row : Row). cond watch.log (with_row row (d.entries + x.entries.0) log) log) e in
      let put = logged_behind watch.log d.logged w.lent.log d.entries x.entries.0 (row_of (later watch d.cycles) cause x) full in
      ap (λ (l : List ℕ). world_of one (lending w.lent.image w.lent.area (d.filled ++ w.lent.output) l)) (place ∙ put)

module _ (s r : List ℕ) (d : Past) (before : ℕ) where
  -- the one state, and the one world, is the other with what was before it
  record RaisesState (t x : State) : Type 0 where
    leaps : ℕ
    inside : Bool
    same : t ≡ raised_state d x leaps inside
    apart : Apart before leaps inside x.leaps.0 x.inside
    ahead : Matched s r d.cycles d.place x.place

  pub record Raises (w v : World) : Type 0 where
    pub leaps : ℕ
    pub inside : Bool
    pub same : w ≡ raised d v leaps inside
    pub apart : Apart before leaps inside v.state.leaps.0 v.state.inside
    pub ahead : Matched s r d.cycles d.place v.state.place

  abbrev pub Ends : Ended → Ended → Type 0
  Ends e f = (e.stop ≡ f.stop) × Raises e.world f.world

  abbrev Goes : Turn World Ended → Turn World Ended → Type 0
  Goes = Both Raises Ends

  -- an entry, a waiting cycle or an instruction: the counts grow alike, but for the leaps
  grows : (v : World) (m : Machine) (cycles instructions entries opened opened' leaps : ℕ) (inside next : Bool) (memory : Memories)
      → Apart before (leaps + opened) next (v.state.leaps.0 + opened') next
      → Matched s r d.cycles d.place v.state.place
      → Raises
      (world_of (grown_to (raised_state d v.state leaps inside) m (grown cycles instructions entries opened) next) (with_memories (raised_lent d v.lent) memory))
      (world_of (grown_to v.state m (grown cycles instructions entries opened') next) (with_memories v.lent memory))
  grows v m cycles instructions entries opened opened' leaps inside next memory a k =
      record {
        leaps = leaps + opened;
        inside = next;
        same = ap (λ (x : State). world_of x (with_memories (raised_lent d v.lent) memory))
            (grown_raised d v.state m cycles instructions entries opened opened' leaps inside next);
        apart = a;
        ahead = k;
      }

  module _ (watch : Watch) (full : length d.logged ≡ logged_bytes watch d.entries) where
    -- what the second run watches
    abbrev watch₂ : Watch
    watch₂ = later watch d.cycles

    -- steps 4 to 6
    act_raised : (v : World) (leaps : ℕ) (inside : Bool) → Apart before leaps inside v.state.leaps.0 v.state.inside
        → Matched s r d.cycles d.place v.state.place → Goes (act_of watch (raised d v leaps inside)) (act_of watch₂ v)
    unfolding act_of entered_world waited_state
    act_raised v leaps inside a k = by (pending_of v.state.machine)
      where
        memory : Memories
        memory = memories_in v.lent

        m : Machine
        m = v.state.machine

        looked : (x : Option Instruction) → Goes (executed_of x (raised d v leaps inside)) (executed_of x v)
        looked None = (refl, record { leaps = leaps; inside = inside; same = refl; apart = a; ahead = k })
        looked (Some i) =
            let e = step_of i memory m in
            grows v e.machine e.cycles 1 0 0 0 leaps inside false e.memory (apart_still a) k

        entered : (cause : Cause) → Raises
            (entered_world cause (logged_world watch cause (raised d v leaps inside)))
            (entered_world cause (logged_world watch₂ cause v))
        entered cause =
            let e = entered_of cause memory m in
            subst (λ (w : World). Raises (entered_world cause w) (entered_world cause (logged_world watch₂ cause v)))
            (sym (logged_raised d watch full cause v leaps inside))
            (grows (logged_world watch₂ cause v) e.machine e.cycles 0 1 0 0 leaps inside false e.memory (apart_still a) k)

        by : (p : Option Cause) → Goes (on_pending watch p (raised d v leaps inside)) (on_pending watch₂ p v)
        by (Some cause) =
            let log = v.lent.log in
            let n = v.state.entries.0 in
            both_cond Goes
            (lacks_row watch (raised_state d v.state leaps inside) (d.logged ++ log)) (lacks_row watch₂ v.state log)
            (lacks_behind watch.log d.logged log d.entries n full)
            (λ _. (refl, record { leaps = leaps; inside = inside; same = refl; apart = a; ahead = k }))
            (λ _. entered cause)
        by None =
            both_cond Goes (idles m.chip.registers) (idles m.chip.registers) refl
            (λ _. grows v (passed_of 1 m) 1 0 0 (cond inside 0 1) (cond v.state.inside 0 1) leaps inside true memory
            (apart_waits before leaps inside v.state.leaps.0 v.state.inside a) k)
            (λ _. looked (look_of memory m))

    -- steps 3 to 6: the one output has as much room as the other
    room_raised : (o : List ℕ) (n : ℕ) → leb (length (d.filled ++ o)) (length d.filled + n) ≡ leb (length o) n
    room_raised o n = ap (λ (k : ℕ). leb k (length d.filled + n)) (length-append d.filled o) ∙ leb_behind (length d.filled) (length o) n

    send_raised : (v : World) (leaps : ℕ) (inside : Bool) → Apart before leaps inside v.state.leaps.0 v.state.inside
        → Matched s r d.cycles d.place v.state.place → Goes (send_of watch (raised d v leaps inside)) (send_of watch₂ v)
    unfolding send_of sent_state
    send_raised v leaps inside a k =
        let o = v.lent.output in
        let n = v.state.sent.0 in
        both_cond Goes (sends_of v.state) (sends_of v.state) refl
        (λ _. both_cond Goes (leb (length (d.filled ++ o)) (length d.filled + n)) (leb (length o) n) (room_raised o n)
        (λ _. (refl, record { leaps = leaps; inside = inside; same = refl; apart = a; ahead = k }))
        (λ _. subst (λ (w : World). Goes (act_of watch w) (act_of watch₂ (sent_world v))) (sym (sent_raised d v leaps inside))
        (act_raised (sent_world v) leaps false (apart_ends a) k)))
        (λ _. act_raised v leaps inside a k)

    module _ (long : length s ≡ d.place + length r) where
      -- step 2
      record_raised : (memory : Memories) (t x : State) → RaisesState t x
          → Both RaisesState RaisesState (record_turn s memory t) (record_turn r memory x)
      unfolding record_turn record_taken
      record_raised memory t x q =
          both_cond (Both RaisesState RaisesState) (due s t) (due r x)
          (ap (due s) q.same ∙ due_shifted s d.cycles d.place r long q.ahead x.cycles.0)
          (λ e.
          let k = due_goes s d.cycles d.place r long q.ahead x.cycles.0 e in
          record {
            leaps = q.leaps;
            inside = false;
            same = ap (record_taken s memory) q.same ∙ taken_raised d s r memory x q.leaps q.inside k.0;
            apart = apart_ends q.apart;
            ahead = k.1;
          })
          (λ _. q)

      records_raised : (memory : Memories) (t x : State) → RaisesState t x → RaisesState (records_of s memory t) (records_of r memory x)
      unfolding records_of
      records_raised memory =
          loop_beside (record_turn s memory) _ _ (records_fall s memory) (record_turn r memory) _ _ (records_fall r memory)
          RaisesState RaisesState (record_raised memory)

      -- the terms of the two
      abbrev one : ℕ → Terms
      one n = watching s n watch

      abbrev other : ℕ → Terms
      other n = watching r (n - d.cycles) watch₂

      -- steps 1 to 6: the limit is as many cycles earlier
      turn_raised : (n : ℕ) (v : World) (leaps : ℕ) (inside : Bool) → Apart before leaps inside v.state.leaps.0 v.state.inside
          → Matched s r d.cycles d.place v.state.place
          → Goes (boundary_of (one n) (raised d v leaps inside)) (boundary_of (other n) v)
      unfolding boundary_of
      turn_raised n v leaps inside a m =
          let x = v.state in
          let k = records_raised (memories_in v.lent) (raised_state d x leaps inside) x
          (record { leaps = leaps; inside = inside; same = refl; apart = a; ahead = m }) in
          both_cond Goes (leb n (d.cycles + x.cycles.0)) (leb (n - d.cycles) x.cycles.0) (leb_shifted n d.cycles x.cycles.0)
          (λ _. (refl, record { leaps = leaps; inside = inside; same = refl; apart = a; ahead = m }))
          (λ _. subst (λ (t : State). Goes (send_of watch (world_of t (raised_lent d v.lent))) (send_of watch₂ (fed_world r v))) (sym k.same)
          (send_raised (fed_world r v) k.leaps k.inside k.apart k.ahead))

      boundary_raised : (n : ℕ) (w v : World) → Raises w v → Goes (boundary_of (one n) w) (boundary_of (other n) v)
      boundary_raised n w v q =
          subst (λ (x : World). Goes (boundary_of (one n) x) (boundary_of (other n) v)) (sym q.same)
          (turn_raised n v q.leaps q.inside q.apart q.ahead)

      -- the whole run
      pub run_raised : (n : ℕ) (w v : World) → Raises w v → Ends (run_of (one n) w) (run_of (other n) v)
      unfolding run_of
      run_raised n =
          loop_beside (boundary_of (one n)) _ _ (run_falls (one n)) (boundary_of (other n)) _ _ (run_falls (other n)) Raises Ends (boundary_raised n)
