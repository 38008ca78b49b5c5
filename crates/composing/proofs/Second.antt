-- The second run beside the one: after a run that its limit or a full log stopped, the run of what is left of a limit no lower, on the rest
-- of the session, with the room that is left and a fresh log, is the one run from there on. Assumes nothing.
use Prim.Native.Nat.{ℕ, ◌+◌, ◌≤◌}
use native.Mathlib.Nat.{add-zero}
use native.Mathlib.Omega.{arith}
use mathlib.Core.List.{List, [], ◌++◌}
use mathlib.Core.Path.{◌≡◌, refl, sym, ap, subst, ◌∙◌}
use mathlib.Core.Bool.{Bool, true, false}
use lib.ListN.{length, take, drop, take-append-drop}
use Rattle.session.specs.Session.{next_at, check_of}
use Rattle.std.specs.Prelude.{Ok}
use Rattle.machine.specs.declared.Machine.{Machine}
use Rattle.boundary.specs.declared.Watch.{Watch}
use Rattle.boundary.specs.World.{Lent, lending, with_log, Terms, watching, logged_bytes, World, Ended, world_of}
use Rattle.boundary.specs.Boundary.{record_taken, sent_state, entered_world, waited_state, run_of}
use Rattle.boundary.specs.Start.{start_world, ran_of}
use Rattle.boundary.proofs.Keeps.{Keeps, run_holds}
use Rattle.boundary.proofs.Kept.{place_within}
use Rattle.boundary.proofs.Output.{filled_part}
use Rattle.rest.specs.Rest.{place_of, rest_from, rest_of}
use Rattle.rest.specs.Ahead.{SoundFrom}
use Rattle.rest.proofs.Places.{place_next, place_sound}
use Rattle.rest.proofs.Laws.{rest_length}
use Rattle.rest.proofs.Matched.{Matched, rest_matched, rest_sound}
use Rattle.cabinet_theorems.proofs.Left.{log_part}
use Rattle.composing.specs.Joined.{terms_after, lent_after}
use Rattle.composing.proofs.Rows.{log_back}
use Rattle.composing.proofs.Raised.{Past, raised, Apart, Raises, Ends, run_raised}
use Rattle.composing.proofs.Fresh.{Resumes, fresh_log, fresh_world, run_resumes}

-- the first unused record of a run stands after as many records as it used
placed : (t : Terms) → Keeps t (λ w. place_of t.session w.state.used.0 ≡ w.state.place)
unfolding record_taken sent_state entered_world waited_state
placed t =
    record {
      applied = λ w d h. place_next t.session w.state.used.0 ∙ ap (next_at t.session) h;
      sent = λ w l h. h;
      entered = λ w cause e f l h. h;
      waited = λ w f l h. h;
      stepped = λ w i f e l h. h;
    }

-- what a run that ended in a world has done
abbrev pub past_of : Watch → World → Past
past_of watch w =
    let x = w.state in
    record {
      place = x.place;
      used = x.used.0;
      cycles = x.cycles.0;
      instructions = x.instructions.0;
      entries = x.entries.0;
      filled = take x.sent.0 w.lent.output;
      logged = take (logged_bytes watch x.entries.0) w.lent.log;
    }

-- where the second run starts
abbrev pub second_of : Watch → World → List ℕ → World
second_of watch w fresh = start_world w.state.machine (with_log (lent_after watch w.state.sent.0 w.state.entries.0 w.lent) fresh)

second_raised : (watch : Watch) (w : World) (fresh : List ℕ) → w.state.sent.0 ≡ length (take w.state.sent.0 w.lent.output)
    → world_of w.state (with_log w.lent (take (logged_bytes watch w.state.entries.0) w.lent.log ++ fresh))
    ≡ raised (past_of watch w) (second_of watch w fresh) w.state.leaps.0 w.state.inside
second_raised watch w fresh e =
    let x = w.state in
    let none : (k : ℕ) → k ≡ k + 0 = λ k. sym (add-zero k) in
    λ k. world_of
    (record {
      machine = x.machine;
      place = none x.place k;
      used = record { 0 = none x.used.0 k };
      cycles = record { 0 = none x.cycles.0 k };
      instructions = record { 0 = none x.instructions.0 k };
      entries = record { 0 = none x.entries.0 k };
      sent = record { 0 = (e ∙ none (length (take x.sent.0 w.lent.output))) k };
      leaps = record { 0 = x.leaps.0 };
      inside = x.inside;
    })
    (lending w.lent.image w.lent.area (sym (take-append-drop x.sent.0 w.lent.output) k) (take (logged_bytes watch x.entries.0) w.lent.log ++ fresh))

-- over the definition of a run
module _ (session : List ℕ) (watch : Watch) (m : Machine) (given : Lent) (n₁ : ℕ) where
  abbrev one : Terms
  one = watching session n₁ watch

  abbrev pub first : World
  first = (ran_of one m given).world

  abbrev pub rest_after : List ℕ
  rest_after = rest_of session first.state.used.0 first.state.cycles.0

  used_there : place_of session first.state.used.0 ≡ first.state.place
  unfolding place_of
  used_there =
      run_holds one (λ w. place_of session w.state.used.0 ≡ w.state.place) (placed one) (start_world m given) refl

  rest_there : rest_from session first.state.cycles.0 first.state.place [] ≡ rest_after
  unfolding rest_of
  rest_there = ap (λ (k : ℕ). rest_from session first.state.cycles.0 k []) (sym used_there)

  module _ (sound : check_of session ≡ Ok tt) where
    pub used_within : place_of session first.state.used.0 ≤ length session
    used_within = rw used_there (place_within one m given sound)

    place_there : SoundFrom session first.state.place
    place_there = subst (SoundFrom session) used_there (place_sound session first.state.used.0 sound used_within)

    pub after_sound : check_of rest_after ≡ Ok tt
    after_sound = subst (λ (r : List ℕ). check_of r ≡ Ok tt) rest_there (rest_sound session first.state.cycles.0 first.state.place place_there)

    after_long : length session ≡ first.state.place + length rest_after
    after_long =
        let a = place_there in
        let w = a.within in
        let e = rest_length session first.state.cycles.0 first.state.place a in
        let f = ap length rest_there in
        omega arith

    pub after_short : length rest_after ≤ length session
    after_short = let l = after_long in omega arith

    abbrev pub past : Past
    past = past_of watch first

    second_starts : (fresh : List ℕ) → Raises session rest_after past first.state.leaps.0 (fresh_world one m given fresh) (second_of watch first fresh)
    second_starts fresh =
        record {
          leaps = first.state.leaps.0;
          inside = first.state.inside;
          same = second_raised watch first fresh (sym (filled_part one m given).2);
          apart = starts first.state.leaps.0 first.state.inside;
          ahead = subst (λ (r : List ℕ). Matched session r first.state.cycles.0 first.state.place 0) rest_there
              (rest_matched session first.state.cycles.0 first.state.place place_there);
        }
      where
        starts : (leaps : ℕ) (inside : Bool) → Apart leaps leaps inside 0 false
        starts leaps true = record { order = omega arith; low = omega arith; high = omega arith }
        starts leaps false = record { order = omega arith; low = omega arith; high = omega arith }

    -- the run of N, its log fresh behind the first run's rows, is the run of the rest, with what the first run had done
    pub runs_resume : (n : ℕ) → n₁ ≤ n → Resumes (ran_of one m given).stop → (fresh : List ℕ)
        → Ends session rest_after past first.state.leaps.0
        (ran_of (watching session n watch) m (with_log given (fresh_log one m given fresh)))
        (run_of (terms_after first.state.used.0 first.state.cycles.0 (watching session n watch)) (second_of watch first fresh))
    runs_resume n l r fresh =
        let whole = watching session n watch in
        let again = run_of (terms_after first.state.used.0 first.state.cycles.0 whole) (second_of watch first fresh) in
        subst (λ (x : Ended). Ends session rest_after past first.state.leaps.0 x again)
        (sym (run_resumes session watch n₁ n l m given fresh r))
        (run_raised session rest_after past first.state.leaps.0 watch (log_part one m given).2 after_long n
        (fresh_world one m given fresh) (second_of watch first fresh) (second_starts fresh))

    -- .. and the run of N itself, where the second run's log is the rest of the first's
    pub runs_raise : (n : ℕ) → n₁ ≤ n → Resumes (ran_of one m given).stop
        → Ends session rest_after past first.state.leaps.0
        (ran_of (watching session n watch) m given)
        (ran_of (terms_after first.state.used.0 first.state.cycles.0 (watching session n watch)) first.state.machine
        (lent_after watch first.state.sent.0 first.state.entries.0 first.lent))
    runs_raise n l r =
        let k = logged_bytes watch first.state.entries.0 in
        let p = log_part one m given in
        let rest = drop k first.lent.log in
        let again = run_of (terms_after first.state.used.0 first.state.cycles.0 (watching session n watch)) (second_of watch first rest) in
        subst (λ (log : List ℕ). Ends session rest_after past first.state.leaps.0 (ran_of (watching session n watch) m (with_log given log)) again)
        (log_back k given.log first.lent.log p.2 p.3)
        (runs_resume n l r rest)
