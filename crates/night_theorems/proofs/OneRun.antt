-- A night is one run: the slices of any N end as the one run of N does, in all but the leaps and the number of slices. The night's log is the
-- one run's log. Assumes nothing.
use Prim.Native.Nat.{ℕ, zero, suc, ◌+◌, ◌-◌, ◌≤◌, ◌<◌, ◌%◌, ◌^◌}
use native.Mathlib.Nat.{zero-add, add_assoc}
use native.Mathlib.Omega.{arith}
use mathlib.Core.List.{List, ◌++◌, append_assoc}
use mathlib.Core.Option.{none}
use mathlib.Core.Path.{◌≡◌, refl, sym, ap, subst, ◌∙◌}
use mathlib.Core.Bool.{Bool, true, false, ◌&&◌}
use lib.Dec.{eqb, ltb}
use lib.ListN.{length, take, drop, length-append}
use lib.Seq.{length-take-le, take-append-add, drop-append-add}
use borrow.Author.Tests.{le-ltb, ltb-false}
use Rattle.laws.proofs.Conds.{picks, passes}
use Rattle.session.specs.Session.{check_of}
use Rattle.std.specs.Prelude.{Ok}
use Rattle.replies.specs.Replies.{Told, told}
use Rattle.machine.specs.declared.Machine.{Machine}
use Rattle.machine.specs.Machine.{Ranges, ranges_of}
use Rattle.machine.proofs.Ranges.{ranges_say, say_ranges}
use Rattle.boundary.specs.declared.Stop.{Stop}
use Rattle.boundary.specs.declared.Stop.TheVariants.{Limit, Undefined, Full, LogFull}
use Rattle.boundary.specs.declared.Watch.{Watch}
use Rattle.boundary.specs.World.{Lent, with_output, with_log, Terms, watching, later, logged_bytes, World, Ended, ended_of, stop_number}
use Rattle.boundary.specs.Boundary.{run_of}
use Rattle.boundary.specs.Start.{start_world, ran_of}
use Rattle.boundary.proofs.Cases.{at_limit}
use Rattle.boundary.proofs.Runs.{run_done}
use Rattle.boundary.proofs.Kept.{same_lengths}
use Rattle.boundary.proofs.Output.{filled_part}
use Rattle.boundary_theorems.proofs.InRanges.{run_ranges}
use Rattle.cabinet.specs.Answers.{told_stop, End, end_at, end_of, Answer, answer_at}
use Rattle.cabinet.proofs.Ends.{Lengths, stop_stops}
use Rattle.cabinet_theorems.proofs.Exactly.{admitted_end}
use Rattle.cabinet_theorems.proofs.Left.{log_part}
use Rattle.rest.specs.Rest.{place_of, rest_of}
use Rattle.rest.proofs.Exactly.{rest_written}
use Rattle.composing.specs.Joined.{lent_after, terms_after}
use Rattle.composing.proofs.Further.{run_further, run_same}
use Rattle.composing.proofs.Fresh.{Resumes}
use Rattle.composing.proofs.Raised.{raised, Ends}
use Rattle.composing.proofs.Second.{past_of, rest_after, used_within, after_sound, after_short, runs_raise}
use Rattle.night_slices.specs.Slices.{slice_cycles, Standing, round_sum, Keeping, keeping, on_keep, keeping_of}
use Rattle.night_slices.specs.Slices.{after_of, slice_of, goes_on, slices_of, night_at, night_of}
use Rattle.night_slices.proofs.Going.{slice_falls, slices_more, slices_done}

-- a run that was not stopped by its limit, or that was stopped where a limit no lower is reached too, is the run of that limit
module _ (session : List ℕ) (watch : Watch) (n₁ n : ℕ) (l : n₁ ≤ n) (w : World) where
  abbrev end : Ended
  end = run_of (watching session n₁ watch) w

  run_whole : (end.stop ≡ Limit → n ≤ end.world.state.cycles.0) → run_of (watching session n watch) w ≡ end
  run_whole h = by end.stop refl
    where
      otherwise : {k : Stop} → end.stop ≡ k → 0 < stop_number k → run_of (watching session n watch) w ≡ end
      otherwise q p = run_same session watch n₁ n l w (λ r. let z = ap stop_number (sym q ∙ r) in let y : ⊥ = omega (arith, z, p) in y)

      by : (k : Stop) → end.stop ≡ k → run_of (watching session n watch) w ≡ end
      by Limit q =
          run_further session watch n₁ n l w q
          ∙ run_done (watching session n watch) end.world (at_limit end.world.state end.world.lent (watching session n watch) (h q))
          ∙ ap (λ (k : Stop). ended_of k end.world) (sym q)
      by Undefined q = otherwise q (omega arith)
      by Full q = otherwise q (omega arith)
      by LogFull q = otherwise q (omega arith)

-- sums that go round, and lists that were put together
pub sum_twice : (a b c : ℕ) → round_sum a (b + c) ≡ round_sum (round_sum a b) c
sum_twice a b c = omega arith

seam_take : (i j : ℕ) (o p : List ℕ) → i ≤ length o → take (i + j) (take i o ++ p) ≡ take i o ++ take j p
seam_take i j o p h =
    ap (λ (k : ℕ). take (k + j) (take i o ++ p)) (sym (length-take-le i o h)) ∙ take-append-add (take i o) p j

pub seam_drop : (i j : ℕ) (o p : List ℕ) → i ≤ length o → drop (i + j) (take i o ++ p) ≡ drop j p
seam_drop i j o p h =
    ap (λ (k : ℕ). drop (k + j) (take i o ++ p)) (sym (length-take-le i o h)) ∙ drop-append-add (take i o) p j

seam_fits : (i j : ℕ) (o p : List ℕ) → i ≤ length o → j ≤ length p → i + j ≤ length (take i o ++ p)
seam_fits i j o p h k =
    let a = length-append (take i o) p in
    let b = length-take-le i o h in
    omega arith

slice_most : (left : ℕ) → slice_cycles left ≤ 1000000000
slice_most left = omega arith

pub slice_least : (left : ℕ) → slice_cycles left ≤ left
slice_least left = omega arith

pub below : (a b k : ℕ) → a < b → b < suc k → a < k
below a b k p q = omega arith

-- what a night shows, as an answer; and what it will show when a run's answer comes after it
abbrev shown : Standing → Answer
shown s =
    record {
      reply = s.told;
      machine = s.machine;
      cycles = s.cycles;
      instructions = s.instructions;
      entries = s.entries;
      used = s.used;
      sent = s.sent;
      lent = s.lent;
    }

abbrev summed : Standing → Answer → Answer
summed s a =
    record {
      reply = a.reply;
      machine = a.machine;
      cycles = round_sum s.cycles a.cycles;
      instructions = round_sum s.instructions a.instructions;
      entries = round_sum s.entries a.entries;
      used = round_sum s.used a.used;
      sent = s.sent + a.sent;
      lent = with_log (with_output a.lent (take s.sent s.lent.output ++ a.lent.output)) (take s.logged s.lent.log ++ a.lent.log);
    }

-- what a run that was not refused answers
abbrev ended : Ended → End
ended e = end_at (told_stop e.stop) e.world

-- the run of n from where a night stands, with the room that is left, and the night after a slice that ended so
abbrev pub room_left : Standing → Lent
room_left s = with_log (with_output s.lent (drop s.sent s.lent.output)) (drop s.logged s.lent.log)

abbrev pub run_from : Standing → ℕ → Ended
run_from s n = ran_of (watching s.session n s.watch) s.machine (room_left s)

abbrev pub kept_after : Standing → World → Keeping → Standing
kept_after s w k =
    let x = w.state in
    record {
      told = k.told;
      machine = x.machine;
      lent = with_log (with_output w.lent (take s.sent s.lent.output ++ w.lent.output)) (take s.logged s.lent.log ++ w.lent.log);
      session = k.session;
      left = s.left - x.cycles.0;
      watch = later s.watch x.cycles.0;
      slices = round_sum s.slices 1;
      cycles = round_sum s.cycles x.cycles.0;
      instructions = round_sum s.instructions x.instructions.0;
      entries = round_sum s.entries x.entries.0;
      used = round_sum s.used x.used.0;
      sent = s.sent + x.sent.0;
      logged = s.logged + logged_bytes s.watch x.entries.0;
      leaps = round_sum s.leaps x.leaps.0;
    }

abbrev pub next : Standing → Ended → Standing
next s e =
    let x = e.world.state in
    kept_after s e.world (keeping (told_stop e.stop) (rest_of s.session x.used.0 x.cycles.0))

-- a run that stopped keeps the rest of a sound session
keeps_rest : (k : Stop) (session : List ℕ) (used cycles : ℕ) → check_of session ≡ Ok tt → place_of session used ≤ length session
    → length (rest_of session used cycles) ≤ length session
    → keeping_of (told_stop k) session used cycles ≡ keeping (told_stop k) (rest_of session used cycles)
unfolding keeping_of
keeps_rest k session used cycles h p l =
    picks _ _ (stop_stops k)
    ∙ ap (on_keep (told_stop k) session (rest_of session used cycles))
    ((rest_written session used cycles session (length (rest_of session used cycles))).1 ((h, p, l), refl))

-- slices that do not go on from a limit have no cycles left, and those that go on were stopped by their limit
reached : (k : Stop) (left cycles : ℕ) → (eqb (stop_number k) 0 && ltb 0 (left - cycles)) ≡ false → k ≡ Limit → left ≤ cycles
reached k left cycles f e =
    let h : ltb 0 (left - cycles) ≡ false = subst (λ (x : Stop). (eqb (stop_number x) 0 && ltb 0 (left - cycles)) ≡ false) e f in
    let z : left - cycles ≤ 0 = ltb-false 0 (left - cycles) h in
    omega arith

pub by_limit : (k : Stop) (b : Bool) → (eqb (stop_number k) 0 && b) ≡ true → k ≡ Limit
by_limit Limit b e = refl
by_limit Undefined b e = absurd (let z : ◌≡◌ {A = ℕ} 0 1 = cc in let w : ⊥ = omega arith in w)
by_limit Full b e = absurd (let z : ◌≡◌ {A = ℕ} 0 1 = cc in let w : ⊥ = omega arith in w)
by_limit LogFull b e = absurd (let z : ◌≡◌ {A = ℕ} 0 1 = cc in let w : ⊥ = omega arith in w)

-- what stands before a place, a filled part and what follows it, in the one buffer and in the other
seam : (i j : ℕ) (whole new last : List ℕ) → i ≤ length whole → take i whole ++ (take j new ++ last) ≡ take (i + j) (take i whole ++ new) ++ last
seam i j whole new last h =
    sym (append_assoc (take i whole) (take j new) last)
    ∙ ap (λ (o : List ℕ). o ++ last) (sym (seam_take i j whole new h))

-- a run's answer after a slice's is the answer of both after the night before
joins : (s : Standing) (e : Ended) (t : Told) (v : World) (leaps : ℕ) (inside : Bool)
    → s.sent ≤ length s.lent.output → s.logged ≤ length s.lent.log
    → length (take e.world.state.sent.0 e.world.lent.output) ≡ e.world.state.sent.0
    → summed s (answer_at (end_at t (raised (past_of s.watch e.world) v leaps inside))) ≡ summed (next s e) (answer_at (end_at t v))
joins s e t v leaps inside h g l =
    let x = e.world.state in
    let y = v.state in
    let new = e.world.lent in
    let sums : s.sent + (length (take x.sent.0 new.output) + y.sent.0) ≡ s.sent + x.sent.0 + y.sent.0 =
    ap (λ (j : ℕ). s.sent + (j + y.sent.0)) l ∙ sym (add_assoc s.sent x.sent.0 y.sent.0) in
    let outputs = seam s.sent x.sent.0 s.lent.output new.output v.lent.output h in
    let logs = seam s.logged (logged_bytes s.watch x.entries.0) s.lent.log new.log v.lent.log g in
    λ k. record {
      reply = t;
      machine = y.machine;
      cycles = sum_twice s.cycles x.cycles.0 y.cycles.0 k;
      instructions = sum_twice s.instructions x.instructions.0 y.instructions.0 k;
      entries = sum_twice s.entries x.entries.0 y.entries.0 k;
      used = sum_twice s.used x.used.0 y.used.0 k;
      sent = sums k;
      lent = with_log (with_output v.lent (outputs k)) (logs k);
    }

-- where no slice is refused
pub record Good (s : Standing) : Type 0 where
  pub lengths : Lengths s.lent
  pub in_ranges : ranges_of s.machine ≡ true
  pub sound : check_of s.session ≡ Ok tt
  pub fits : s.sent ≤ length s.lent.output
  pub log_fits : s.logged ≤ length s.lent.log

module _ (s : Standing) (g : Good s) where
  abbrev pub n₁ : ℕ
  n₁ = slice_cycles s.left

  abbrev pub asked : Terms
  asked = watching s.session n₁ s.watch

  abbrev pub given : Lent
  given = room_left s

  abbrev pub first : Ended
  first = run_from s n₁

  slice_ends : end_of asked s.machine given ≡ ended first
  slice_ends =
      admitted_end asked s.machine given (
        record { lengths = g.lengths; in_ranges = ranges_say s.machine.chip.bus g.in_ranges; within = slice_most s.left },
        g.sound,
      )

  pub slice_next : slice_of s ≡ next s first
  unfolding slice_of
  slice_next =
      ap (λ (x : End). after_of s (answer_at x) x.world.state.leaps.0) slice_ends
      ∙ ap (kept_after s first.world)
      (keeps_rest first.stop s.session _ _ g.sound
      (used_within s.session s.watch s.machine given n₁ g.sound)
      (after_short s.session s.watch s.machine given n₁ g.sound))

  pub next_good : Good (next s first)
  next_good =
      let f = filled_part asked s.machine given in
      let g₂ = log_part asked s.machine given in
      let x = first.world in
      let rows = logged_bytes s.watch x.state.entries.0 in
      record {
        lengths = let k = same_lengths asked (start_world s.machine given) in (k.0 ∙ g.lengths.0, k.1 ∙ g.lengths.1);
        in_ranges = run_ranges asked s.machine given g.sound g.in_ranges;
        sound = after_sound s.session s.watch s.machine given n₁ g.sound;
        fits = seam_fits s.sent x.state.sent.0 s.lent.output x.lent.output g.fits
            (subst (λ (k : ℕ). x.state.sent.0 ≤ k) (sym f.1) f.0);
        log_fits = seam_fits s.logged rows s.lent.log x.lent.log g.log_fits (subst (λ (k : ℕ). rows ≤ k) (sym g₂.1) g₂.0);
      }

  -- the last slice is the whole run
  pub last_whole : goes_on (next s first) ≡ false → run_from s s.left ≡ first
  last_whole f =
      run_whole s.session s.watch n₁ s.left (slice_least s.left) (start_world s.machine given)
      (reached first.stop s.left first.world.state.cycles.0 f)

  -- and after one that goes on, what follows it is the rest of the run
  abbrev pub second : Ended
  second =
      let x = first.world.state in
      ran_of (terms_after x.used.0 x.cycles.0 (watching s.session s.left s.watch)) x.machine
      (lent_after s.watch x.sent.0 x.entries.0 first.world.lent)

  pub next_run : second ≡ run_from (next s first) (next s first).left
  next_run =
      let w = first.world in
      let x = w.state in
      let rows = logged_bytes s.watch x.entries.0 in
      let outputs = sym (seam_drop s.sent x.sent.0 s.lent.output w.lent.output g.fits) in
      let logs = sym (seam_drop s.logged rows s.lent.log w.lent.log g.log_fits) in
      λ k. ran_of (terms_after x.used.0 x.cycles.0 (watching s.session s.left s.watch)) x.machine
      (with_log (with_output w.lent (outputs k)) (logs k))

  pub goes_raised : goes_on (next s first) ≡ true
      → Ends s.session (rest_after s.session s.watch s.machine given n₁) (past_of s.watch first.world) first.world.state.leaps.0
      (run_from s s.left) second
  goes_raised f =
      runs_raise s.session s.watch s.machine given n₁ g.sound s.left (slice_least s.left)
      (subst Resumes (sym (by_limit first.stop _ f)) tt)

  goes_whole : goes_on (next s first) ≡ true
      → summed s (answer_at (ended (run_from s s.left))) ≡ summed (next s first) (answer_at (ended (run_from (next s first) (next s first).left)))
  goes_whole f =
      let r = goes_raised f in
      ap (λ (k : Stop). summed s (answer_at (end_at (told_stop k) (run_from s s.left).world))) r.0
      ∙ ap (λ (z : World). summed s (answer_at (end_at (told_stop second.stop) z))) r.1.same
      ∙ joins s first (told_stop second.stop) second.world r.1.leaps r.1.inside g.fits g.log_fits (filled_part asked s.machine given).2
      ∙ ap (λ (x : Ended). summed (next s first) (answer_at (ended x))) next_run

-- from any standing on, the slices are the one run of the cycles that are left
abbrev OneRun : Standing → Type 0
OneRun s = shown (slices_of s) ≡ summed s (answer_at (ended (run_from s s.left)))

slices_run : (k : ℕ) (s : Standing) → Good s → s.left < k → OneRun s
slices_run zero s g l = absurd (let z : ⊥ = omega arith in z)
slices_run (suc k) s g l = by (λ t. slices_run k t) (goes_on (slice_of s)) refl
  where
    e : slice_of s ≡ next s (first s g)
    e = slice_next s g

    by : ((t : Standing) → Good t → t.left < k → OneRun t) → (b : Bool) → goes_on (slice_of s) ≡ b → OneRun s
    by ih true f =
        let t = next s (first s g) in
        let falls : t.left < s.left = subst (λ (x : Standing). x.left < s.left) e (slice_falls s f) in
        ap shown (slices_more s f ∙ ap slices_of e)
        ∙ ih t (next_good s g) (below t.left s.left k falls l)
        ∙ sym (goes_whole s g (subst (λ (x : Standing). goes_on x ≡ true) e f))
    by ih false f =
        ap shown (slices_done s f ∙ e)
        ∙ ap (λ (x : Ended). summed s (answer_at (ended x))) (sym (last_whole s g (subst (λ (x : Standing). goes_on x ≡ false) e f)))

-- A night ended as a run did: its reply, machine, image, area, output, log and bytes sent are the run's, and its sums are the run's counts,
-- which go round at 2^64.
pub record EndsAs (s : Standing) (e : Ended) : Type 0 where
  pub told : s.told ≡ told_stop e.stop
  pub machine : s.machine ≡ e.world.state.machine
  pub lent : s.lent ≡ e.world.lent
  pub sent : s.sent ≡ e.world.state.sent.0
  pub cycles : s.cycles ≡ e.world.state.cycles.0 % 2 ^ 64
  pub instructions : s.instructions ≡ e.world.state.instructions.0 % 2 ^ 64
  pub entries : s.entries ≡ e.world.state.entries.0 % 2 ^ 64
  pub used : s.used ≡ e.world.state.used.0 % 2 ^ 64

module _ (asked : Terms) (m : Machine) (given : Lent)
    (lengths : Lengths given) (ranges : Ranges m.chip.bus) (sound : check_of asked.session ≡ Ok tt) where
  -- the slices of N, for any N, end as the boundaries until one stops them, with the limit N, do
  pub slices_one_run : EndsAs (slices_of (night_at (told 0 none) asked m given)) (ran_of asked m given)
  slices_one_run =
      let s = night_at (told 0 none) asked m given in
      let good : Good s = record { lengths = lengths; in_ranges = say_ranges m.chip.bus ranges; sound = sound; fits = omega arith; log_fits = omega arith } in
      let p = slices_run (suc asked.limit) s good (omega arith) in
      record {
        told = ap (λ (a : Answer). a.reply) p;
        machine = ap (λ (a : Answer). a.machine) p;
        lent = ap (λ (a : Answer). a.lent) p;
        sent = ap (λ (a : Answer). a.sent) p ∙ zero-add _;
        cycles = ap (λ (a : Answer). a.cycles) p ∙ ap (λ (k : ℕ). k % 2 ^ 64) (zero-add _);
        instructions = ap (λ (a : Answer). a.instructions) p ∙ ap (λ (k : ℕ). k % 2 ^ 64) (zero-add _);
        entries = ap (λ (a : Answer). a.entries) p ∙ ap (λ (k : ℕ). k % 2 ^ 64) (zero-add _);
        used = ap (λ (a : Answer). a.used) p ∙ ap (λ (k : ℕ). k % 2 ^ 64) (zero-add _);
      }

  -- so does the night, where there is room for the rest of the session
  pub night_one_run : (room : ℕ) → length asked.session ≤ room → EndsAs (night_of asked m given room) (ran_of asked m given)
  unfolding night_of
  night_one_run room l =
      subst (λ (s : Standing). EndsAs s (ran_of asked m given)) (sym (passes _ _ (le-ltb room (length asked.session) l))) slices_one_run
