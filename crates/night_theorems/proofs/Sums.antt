-- What a night sums up and leaves, beside the one run: its rest is the run's rest, its sums are the run's counts and pass no type, its
-- rows are those of the run's entries, and its leaps are the run's, or more by at most one for each cut. Assumes nothing.
use Prim.Native.Nat.{ℕ, zero, suc, ◌+◌, ◌-◌, ◌*◌, ◌/◌, ◌≤◌, ◌<◌, ◌%◌, ◌^◌}
use native.Mathlib.Nat.{zero-add}
use native.Mathlib.Omega.{arith}
use mathlib.Core.Option.{none}
use mathlib.Core.Path.{◌≡◌, refl, sym, ap, subst, ◌∙◌}
use mathlib.Core.Bool.{Bool, true, false, cond}
use lib.Dec.{eqb}
use lib.ListN.{length, take}
use borrow.Author.Tests.{le-ltb, ltb-true}
use Rattle.laws.proofs.Bools.{both}
use Rattle.laws.proofs.Conds.{passes}
use Rattle.session.specs.Session.{check_of}
use Rattle.std.specs.Prelude.{Ok}
use Rattle.wake_log.specs.declared.Row.{Row}
use Rattle.wake_log.specs.Log.{row_at}
use Rattle.replies.specs.Replies.{told}
use Rattle.machine.specs.declared.Machine.{Machine}
use Rattle.machine.specs.Machine.{Ranges}
use Rattle.machine.proofs.Ranges.{say_ranges}
use Rattle.boundary.specs.World.{Lent, Terms, later, logged_bytes, World, Ended, stop_number}
use Rattle.boundary.specs.declared.Stop.{Stop}
use Rattle.boundary.specs.declared.Watch.{Watch}
use Rattle.boundary.specs.Start.{start_world, ran_of}
use Rattle.boundary.proofs.Kept.{Reached, limit_reached, cycles_bound, counts_fine, place_within}
use Rattle.cabinet.proofs.Ends.{Lengths}
use Rattle.rest.specs.Rest.{rest_of}
use Rattle.rest.proofs.Again.{rest_of_rest}
use Rattle.log_theorems.specs.Wakes.{rows_bytes, wakes_of}
use Rattle.log_theorems.proofs.Log.{log_filled}
use Rattle.log_theorems.proofs.Rows.{Told, row_told}
use Rattle.composing.proofs.Rows.{cycle_later}
use Rattle.composing.proofs.Raised.{apart_most}
use Rattle.composing.proofs.Second.{used_within}
use Rattle.night_slices.specs.Slices.{Standing, round_sum, slice_of, goes_on, slices_of, night_at, night_of}
use Rattle.night_slices.proofs.Going.{slice_falls, slices_more, slices_done}
use Rattle.night_theorems.proofs.OneRun.{sum_twice, below, run_from, next, by_limit, Good, n₁, asked, given, first, slice_next, next_good, last_whole}
use Rattle.night_theorems.proofs.OneRun.{second, next_run, goes_raised, slices_one_run, night_one_run}

-- what the slices from a standing on come to, beside the one run of the cycles that are left
record SlicesCome (s : Standing) (e : Ended) (end : Standing) : Type 0 where
  slices : ℕ
  leaps : ℕ
  slices_told : end.slices ≡ round_sum s.slices slices
  leaps_told : end.leaps ≡ round_sum s.leaps leaps
  slices_few : slices ≤ s.left / 1000000000 + 1
  leaps_least : e.world.state.leaps.0 ≤ leaps
  leaps_most : leaps + 1 ≤ e.world.state.leaps.0 + slices
  rest : end.session ≡ rest_of s.session e.world.state.used.0 e.world.state.cycles.0
  left : end.left ≡ s.left - e.world.state.cycles.0
  watch : end.watch ≡ later s.watch e.world.state.cycles.0
  logged : end.logged ≡ s.logged + logged_bytes s.watch e.world.state.entries.0

-- the bytes of rows that were added in turn
logged_twice : (asked : Bool) (k a b : ℕ) → k + cond asked (8 * a) 0 + cond asked (8 * b) 0 ≡ k + cond asked (8 * (a + b)) 0
logged_twice true k a b = omega arith
logged_twice false k a b = omega arith

-- .. and the cycles before them
later_twice : (watch : Watch) (a b : ℕ) → later (later watch a) b ≡ later watch (a + b)
later_twice watch a b = λ k. record { log = watch.log; since = record { 0 = sym (cycle_later watch.since.0 a b) k } }

module _ (s : Standing) (g : Good s) where
  -- the last slice
  last_comes : SlicesCome s (first s g) (next s (first s g))
  last_comes =
      record {
        slices = 1;
        leaps = (first s g).world.state.leaps.0;
        slices_told = refl;
        leaps_told = refl;
        slices_few = omega arith;
        leaps_least = omega arith;
        leaps_most = omega arith;
        rest = refl;
        left = refl;
        watch = refl;
        logged = refl;
      }

  -- a slice that goes on, and those after it
  goes_comes : goes_on (next s (first s g)) ≡ true → (end : Standing)
      → SlicesCome (next s (first s g)) (second s g) end → SlicesCome s (run_from s s.left) end
  goes_comes f end c =
      let reached : n₁ s g ≤ (first s g).world.state.cycles.0 =
      subst (λ (k : Stop). Reached k (n₁ s g) (first s g).world.state.cycles.0) (by_limit (first s g).stop _ f)
      (limit_reached (asked s g) (start_world s.machine (given s g))) in
      let more : 0 < s.left - (first s g).world.state.cycles.0 = ltb-true _ _ (both (eqb (stop_number (first s g).stop) 0) _ f).1 in
      let x = (first s g).world.state in
      let y = (second s g).world.state in
      let one = (run_from s s.left).world.state in
      let r = (goes_raised s g f).1 in
      let used : one.used.0 ≡ x.used.0 + y.used.0 = ap (λ (w : World). w.state.used.0) r.same in
      let entries : one.entries.0 ≡ x.entries.0 + y.entries.0 = ap (λ (w : World). w.state.entries.0) r.same in
      let cycles : one.cycles.0 ≡ x.cycles.0 + y.cycles.0 = ap (λ (w : World). w.state.cycles.0) r.same in
      let leaps : one.leaps.0 ≡ r.leaps = ap (λ (w : World). w.state.leaps.0) r.same in
      let low = r.apart.low in
      let most = apart_most r.apart in
      let a = c.leaps_least in
      let b = c.leaps_most in
      let few = c.slices_few in
      let left = c.left in
      record {
        slices = 1 + c.slices;
        leaps = x.leaps.0 + c.leaps;
        slices_told = c.slices_told ∙ sym (sum_twice s.slices 1 c.slices);
        leaps_told = c.leaps_told ∙ sym (sum_twice s.leaps x.leaps.0 c.leaps);
        slices_few = omega (arith, few, reached, more);
        leaps_least = omega (arith, leaps, low, a);
        leaps_most = omega (arith, leaps, most, b);
        rest = c.rest
            ∙ rest_of_rest s.session x.used.0 x.cycles.0 g.sound
            (used_within s.session s.watch s.machine (given s g) (n₁ s g) g.sound) y.used.0 y.cycles.0
            ∙ ap (λ (k : ℕ). rest_of s.session k (x.cycles.0 + y.cycles.0)) (sym used)
            ∙ ap (rest_of s.session one.used.0) (sym cycles);
        left = omega (arith, left, cycles);
        watch = c.watch ∙ later_twice s.watch x.cycles.0 y.cycles.0 ∙ ap (later s.watch) (sym cycles);
        logged = c.logged
            ∙ logged_twice s.watch.log s.logged x.entries.0 y.entries.0
            ∙ ap (λ (k : ℕ). s.logged + logged_bytes s.watch k) (sym entries);
      }

slices_come : (k : ℕ) (s : Standing) → Good s → s.left < k → SlicesCome s (run_from s s.left) (slices_of s)
slices_come zero s g l = absurd (let z : ⊥ = omega arith in z)
slices_come (suc k) s g l = by (λ t. slices_come k t) (goes_on (slice_of s)) refl
  where
    e : slice_of s ≡ next s (first s g)
    e = slice_next s g

    by : ((t : Standing) → Good t → t.left < k → SlicesCome t (run_from t t.left) (slices_of t)) → (b : Bool) → goes_on (slice_of s) ≡ b
        → SlicesCome s (run_from s s.left) (slices_of s)
    by ih true f =
        let t = next s (first s g) in
        let falls : t.left < s.left = subst (λ (x : Standing). x.left < s.left) e (slice_falls s f) in
        subst (SlicesCome s (run_from s s.left)) (sym (slices_more s f ∙ ap slices_of e))
        (goes_comes s g (subst (λ (x : Standing). goes_on x ≡ true) e f) (slices_of t)
        (subst (λ (x : Ended). SlicesCome t x (slices_of t)) (sym (next_run s g)) (ih t (next_good s g) (below t.left s.left k falls l))))
    by ih false f =
        subst (SlicesCome s (run_from s s.left)) (sym (slices_done s f ∙ e))
        (subst (λ (x : Ended). SlicesCome s x (next s (first s g))) (sym (last_whole s g (subst (λ (x : Standing). goes_on x ≡ false) e f))) (last_comes s g))

-- A night's rest, the cycles that are left, the bytes of its log that are filled and its sums are those of the run, with no going round; a
-- further run's rows would count on from there; it has no more slices than it needs, and its leaps are the run's, or more by at most one
-- for each slice but the first.
pub record SumsAs (s : Standing) (asked : Terms) (e : Ended) : Type 0 where
  pub session : s.session ≡ rest_of asked.session e.world.state.used.0 e.world.state.cycles.0
  pub left : s.left ≡ asked.limit - e.world.state.cycles.0
  pub watch : s.watch ≡ later asked.watch e.world.state.cycles.0
  pub logged : s.logged ≡ logged_bytes asked.watch e.world.state.entries.0
  pub cycles : s.cycles ≡ e.world.state.cycles.0
  pub instructions : s.instructions ≡ e.world.state.instructions.0
  pub entries : s.entries ≡ e.world.state.entries.0
  pub used : s.used ≡ e.world.state.used.0
  pub slices : s.slices ≤ asked.limit / 1000000000 + 1
  pub leaps_least : e.world.state.leaps.0 ≤ s.leaps
  pub leaps_most : s.leaps + 1 ≤ e.world.state.leaps.0 + s.slices

-- Row k of a night's log: that of an entry of the one run, with the count where it stood, which is below N, "so that 4 bytes do".
pub record RowAs (s : Standing) (asked : Terms) (m : Machine) (given : Lent) (k : ℕ) : Type 0 where
  pub entry : Told asked m given k
  pub row : row_at s.lent.log k ≡ entry.row
  pub cycle : (row_at s.lent.log k).cycle ≡ entry.entered.at.state.cycles.0
  pub below : (row_at s.lent.log k).cycle < asked.limit

-- a number below 2^64 does not go round
as_it_is : {a b : ℕ} → a ≡ b % 2 ^ 64 → b < 2 ^ 64 → a ≡ b
as_it_is e l = omega arith

alone : {a b : ℕ} → a ≡ round_sum 0 b → b < 2 ^ 64 → a ≡ b
alone e l = omega arith

-- N as a night is asked it, and a session that a slice holds
module _ (asked : Terms) (m : Machine) (given : Lent)
    (lengths : Lengths given) (ranges : Ranges m.chip.bus) (sound : check_of asked.session ≡ Ok tt)
    (n-fits : asked.limit < 2 ^ 32) (session-fits : length asked.session < 2 ^ 64) where
  pub slices_sums : SumsAs (slices_of (night_at (told 0 none) asked m given)) asked (ran_of asked m given)
  slices_sums =
      let s = night_at (told 0 none) asked m given in
      let good : Good s = record { lengths = lengths; in_ranges = say_ranges m.chip.bus ranges; sound = sound; fits = omega arith; log_fits = omega arith } in
      let c = slices_come (suc asked.limit) s good (omega arith) in
      let ends = slices_one_run asked m given lengths ranges sound in
      let cycles = cycles_bound asked m given in
      let fine = counts_fine asked m given in
      let place = place_within asked m given sound in
      let i = fine.instructions in
      let n = fine.entries in
      let k = fine.leaps in
      let u = fine.used in
      let few = c.slices_few in
      let least = c.leaps_least in
      let most = c.leaps_most in
      let slices = alone c.slices_told (omega (arith, few, n-fits)) in
      let leaps = alone c.leaps_told (omega (arith, few, most, k, cycles, n-fits)) in
      record {
        session = c.rest;
        left = c.left;
        watch = c.watch;
        logged = c.logged ∙ zero-add _;
        cycles = as_it_is ends.cycles (omega (arith, cycles, n-fits));
        instructions = as_it_is ends.instructions (omega (arith, cycles, i, n-fits));
        entries = as_it_is ends.entries (omega (arith, cycles, n, n-fits));
        used = as_it_is ends.used (omega (arith, place, u, session-fits));
        slices = omega (arith, slices, few);
        leaps_least = omega (arith, leaps, least);
        leaps_most = omega (arith, leaps, slices, most);
      }

  -- so are the night's, where there is room for the rest of the session
  pub night_sums : (room : ℕ) → length asked.session ≤ room → SumsAs (night_of asked m given room) asked (ran_of asked m given)
  unfolding night_of
  night_sums room l =
      subst (λ (s : Standing). SumsAs s asked (ran_of asked m given)) (sym (passes _ _ (le-ltb room (length asked.session) l))) slices_sums

  -- "the night's log is the one run's log": the filled part is the rows of the one run's entries
  pub night_rows : asked.watch.log ≡ true → (room : ℕ) → length asked.session ≤ room
      → let s = night_of asked m given room in take s.logged s.lent.log ≡ rows_bytes (wakes_of asked (start_world m given))
  night_rows a room l =
      let s = night_of asked m given room in
      let k = (ran_of asked m given).world.state.entries.0 in
      ap (λ (j : ℕ). take j s.lent.log) ((night_sums room l).logged ∙ ap (λ (b : Bool). cond b (8 * k) 0) a)
      ∙ ap (λ (x : Lent). take (8 * k) x.log) (night_one_run asked m given lengths ranges sound room l).lent
      ∙ log_filled asked m given a

  -- each of them, where nothing had passed before the night
  pub night_row : asked.watch.log ≡ true → asked.watch.since.0 ≡ 0 → (room : ℕ) → length asked.session ≤ room
      → (k : ℕ) → k < (night_of asked m given room).entries → RowAs (night_of asked m given room) asked m given k
  night_row a z room l k h =
      let n = (night_sums room l).entries in
      let r = row_told asked m given a k (omega (arith, h, n)) in
      let same = ap (λ (x : Lent). row_at x.log k) (night_one_run asked m given lengths ranges sound room l).lent ∙ r.read in
      let c = r.entered.unwrapped (omega (arith, z, n-fits)) in
      let cycle = ap (λ (x : Row). x.cycle) same in
      let count = c.0 in
      let least = c.1 in
      record {
        entry = r;
        row = same;
        cycle = omega (arith, cycle, count, z);
        below = omega (arith, cycle, least, z);
      }
