-- What a public run leaves behind: nothing changed and all counts zero after a refusal; and, whatever the reply, the bytes of the output
-- after the sent ones and of the log after its rows, the lengths, the machine's ranges and the bounds of the counts. Assumes nothing.
use Prim.Native.Nat.{ℕ, ◌+◌, ◌*◌, ◌≤◌}
use native.Mathlib.Omega.{arith}
use mathlib.Core.Bool.{Bool, true, false, cond}
use mathlib.Core.Path.{◌≡◌, refl, subst, sym, ap, ◌∙◌}
use mathlib.Core.List.{List, ◌++◌}
use lib.ListN.{length, take, drop, take-append-drop}
use lib.Seq.{length-take-le}
use Rattle.machine.specs.declared.Machine.{Machine}
use Rattle.machine.specs.Machine.{Ranges}
use Rattle.machine.proofs.Ranges.{ranges_say, say_ranges}
use Rattle.boundary.specs.World.{Lent, Terms, logged_bytes, World}
use Rattle.boundary.specs.Start.{start_world, ran_of}
use Rattle.boundary_theorems.specs.Trace as trace
use Rattle.turns.specs.Recorded.{total}
use Rattle.boundary_theorems.specs.Tallies.{Tally, tallies_of}
use Rattle.boundary_theorems.proofs.LeapBound.{leap_bound}
use Rattle.boundary.proofs.Output.{filled_part}
use Rattle.boundary.proofs.Kept.{SameLengths, same_lengths, cycles_bound}
use Rattle.boundary_theorems.proofs.InRanges.{run_ranges}
use Rattle.boundary_theorems.proofs.Trace.{counts_told}
use Rattle.boundary_theorems.proofs.Tallies.{amounts_told}
use Rattle.log_theorems.proofs.Log as log
use Rattle.replies.specs.Replies.{Told, stops}
use Rattle.cabinet.specs.Answers.{End, Answer, answer_at, answer_of, leaps_of}
use Rattle.cabinet.proofs.Ends.{end_cases, left_cases}
use Rattle.cabinet_theorems.proofs.Exactly.{stop_number_lem, Admitted, admitted_end}

-- A buffer that was `before` is `after` with its first k bytes filled: they are within it, it keeps its length, and the bytes after them are
-- unchanged.
abbrev pub Part : List ℕ → List ℕ → ℕ → Type 0
Part before after k =
    (k ≤ length before) × (length after ≡ length before) × (length (take k after) ≡ k) × (after ≡ take k after ++ drop k before)

-- the log of the run itself: eight bytes for each entry where the log is asked for, else none
pub log_part : (t : Terms) (m : Machine) (l : Lent)
    → let w = (ran_of t m l).world in Part l.log w.lent.log (logged_bytes t.watch w.state.entries.0)
log_part t m l = by t.watch.log refl
  where
    w : World
    w = (ran_of t m l).world

    by : (b : Bool) → t.watch.log ≡ b → Part l.log w.lent.log (cond b (8 * w.state.entries.0) 0)
    by true e =
        let k = 8 * w.state.entries.0 in
        let r = log.log_room t m l e in
        let long = log.log_length t m l e in (
          r,
          long,
          length-take-le k w.lent.log (omega (arith, r, long)),
          sym (take-append-drop k w.lent.log) ∙ ap (λ (d : List ℕ). take k w.lent.log ++ d) (log.log_rest t m l e),
        )
    by false e = let same = log.log_untouched t m l e in (omega arith, ap length same, refl, same)

module _ (asked : Terms) (m : Machine) (given : Lent) where
  -- the answer that nothing ran
  abbrev pub untouched : Told → Answer
  untouched t =
      record { reply = t; machine = m; cycles = 0; instructions = 0; entries = 0; used = 0; sent = 0; lent = given }

  -- "Replies 1 to 7 have all counts zero", and leave "image, output, machine unchanged"; 12 leaves "what 1 leaves, all counts zero and every lent
  -- buffer unchanged": so does every reply that is no stop
  pub refused_untouched : let a = answer_of asked m given in stops a.reply.number ≡ false → (a ≡ untouched a.reply) × (leaps_of asked m given ≡ 0)
  refused_untouched =
      end_cases asked m given
      (λ x. stops x.reply.number ≡ false → (answer_at x ≡ untouched x.reply) × (x.world.state.leaps.0 ≡ 0))
      (λ l p. (refl, refl))
      (λ l k p. (refl, refl))
      (λ l r p. (refl, refl))
      (λ l r h p. (refl, refl))
      (λ a f e p. (refl, refl))
      (λ a f p. stop_number_lem (ran_of asked m given).stop refl p)

  -- "leaps ≤ records used + bytes sent + interrupts entered + 1"
  pub leaps_bound : let a = answer_of asked m given in leaps_of asked m given ≤ a.used + a.sent + a.entries + 1
  leaps_bound =
      left_cases asked m given (λ w. let s = w.state in s.leaps.0 ≤ s.used.0 + s.sent.0 + s.entries.0 + 1)
      (omega arith)
      (λ f. leap_bound asked m given)

  -- "the caller gets back the filled part of the output it lent; bytes after it are unchanged"
  pub output_left : let a = answer_of asked m given in Part given.output a.lent.output a.sent
  output_left =
      left_cases asked m given (λ w. Part given.output w.lent.output w.state.sent.0)
      (omega arith, refl, refl, refl)
      (λ f. filled_part asked m given)

  -- "The log may have any length .. Bytes after the rows are unchanged": and all bytes where the log is not asked for
  pub log_left : let a = answer_of asked m given in Part given.log a.lent.log (logged_bytes asked.watch a.entries)
  log_left =
      left_cases asked m given (λ w. Part given.log w.lent.log (logged_bytes asked.watch w.state.entries.0))
      (start asked.watch.log)
      (λ f. log_part asked m given)
    where
      start : (b : Bool) → Part given.log given.log (cond b (8 * 0) 0)
      start true = (omega arith, refl, refl, refl)
      start false = (omega arith, refl, refl, refl)

  pub lengths_left : SameLengths given (answer_of asked m given).lent
  lengths_left = left_cases asked m given (λ w. SameLengths given w.lent) (refl, refl) (λ f. same_lengths asked (start_world m given))

  -- the machine that a run returns is in its ranges where the machine that it got is
  pub machine_left : Ranges m.chip.bus → Ranges (answer_of asked m given).machine.chip.bus
  machine_left r =
      left_cases asked m given (λ w. Ranges w.state.machine.chip.bus) r
      (λ f. ranges_say _ (run_ranges asked m given f (say_ranges m.chip.bus r)))

  -- no instruction and no entry takes more than 12 cycles
  pub cycles_left_lem : (answer_of asked m given).cycles ≤ asked.limit + 11
  cycles_left_lem =
      left_cases asked m given (λ w. w.state.cycles.0 ≤ asked.limit + 11) (omega arith)
      (λ f. cycles_bound asked m given)

  -- the counts are those of the run's boundaries: leaps are 01's longest stretches of waiting cycles (boundary_theorems: `longest_groups`)
  pub counts_left : Admitted asked m given
      → let a = answer_of asked m given in
      let marks = trace.trace_of asked (start_world m given) in
      (leaps_of asked m given ≡ trace.stretches_of marks) × (a.entries ≡ trace.entries_of marks) × (a.instructions ≡ trace.instructions_of marks)
  counts_left h =
      let c = counts_told asked m given in
      let marks = trace.trace_of asked (start_world m given) in
      subst
      (λ (x : End). let s = x.world.state in (s.leaps.0 ≡ trace.stretches_of marks) × (s.entries.0 ≡ trace.entries_of marks) × (s.instructions.0 ≡ trace.instructions_of marks))
      (sym (admitted_end asked m given h))
      (c.leaps, c.entries, c.instructions)

  -- the cycles, the records used and the bytes sent are the sums of what the run's boundaries took, applied and sent
  pub amounts_left : Admitted asked m given
      → let a = answer_of asked m given in
      let tallies = tallies_of asked (start_world m given) in
      (a.cycles ≡ total (λ (t : Tally). t.cycles) tallies) × (a.used ≡ total (λ (t : Tally). t.records) tallies) × (a.sent ≡ total (λ (t : Tally). t.bytes) tallies)
  amounts_left h =
      let c = amounts_told asked m given in
      let tallies = tallies_of asked (start_world m given) in
      subst
      (λ (x : End). let s = x.world.state in
      (s.cycles.0 ≡ total (λ (t : Tally). t.cycles) tallies)
      × (s.used.0 ≡ total (λ (t : Tally). t.records) tallies)
      × (s.sent.0 ≡ total (λ (t : Tally). t.bytes) tallies))
      (sym (admitted_end asked m given h))
      (c.cycles, c.used, c.sent)
