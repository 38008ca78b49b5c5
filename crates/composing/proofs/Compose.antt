-- Runs compose: after a run of N₁ that stopped with 0, or with 11, the run of N less its cycles, on what it left, with the rest of the session,
-- the room that is left and a log of its own, ends as the one run of N does, in all but the leaps; a wait across the cut may count twice. The
-- one run's log is the room of the first's rows and then the second's log: the first's log itself, where the second got the rest of it.
-- Assumes nothing.
use Prim.Native.Nat.{ℕ, ◌+◌, ◌≤◌}
use native.Mathlib.Omega.{arith}
use mathlib.Core.List.{List, ◌++◌}
use mathlib.Core.Bool.{Bool, true, false≢true}
use mathlib.Core.Path.{◌≡◌, refl, sym, ap, subst, ◌∙◌}
use lib.ListN.{length, take, drop}
use lib.Seq.{take-append_seam}
use Rattle.session.specs.declared.Fault.{Fault}
use Rattle.session.specs.declared.Fault.TheVariants as fault
use Rattle.machine.specs.declared.Machine.{Machine}
use Rattle.machine.proofs.Ranges.{ranges_say, say_ranges}
use Rattle.replies.specs.Replies.{Told, told_fault}
use Rattle.boundary.specs.declared.Stop.{Stop}
use Rattle.boundary.specs.declared.Stop.TheVariants.{Limit, Undefined, Full, LogFull}
use Rattle.boundary.specs.declared.Watch.{Watch}
use Rattle.boundary.specs.World.{Lent, lending, with_log, Terms, watching, logged_bytes, World}
use Rattle.boundary.specs.Boundary.{run_of}
use Rattle.boundary.specs.Start.{start_world, ran_of}
use Rattle.boundary.proofs.Kept.{same_lengths}
use Rattle.boundary.proofs.Output.{filled_part}
use Rattle.boundary_theorems.proofs.InRanges.{run_ranges}
use Rattle.cabinet.specs.declared.Ran.{Ran}
use Rattle.cabinet.specs.Answers.{told_stop, End, end_at, end_of, Answer, answer_at, answered, answer_of, leaps_of}
use Rattle.cabinet.proofs.Ends.{end_cases}
use Rattle.cabinet_theorems.proofs.Exactly.{Admitted, admitted_end}
use Rattle.cabinet_theorems.proofs.Left.{log_left}
use Rattle.cabinet_theorems.proofs.Settled.{Single}
use Rattle.rest.specs.Rest.{rest_of}
use Rattle.rest.specs.Answers.{rest_wrote, rest_answer, rest_buffer}
use Rattle.rest.proofs.Exactly.{rest_written, rest_left}
use Rattle.composing.specs.Joined.{resumes, terms_after, lent_after, lent_over, joined}
use Rattle.composing.proofs.Rows.{log_back}
use Rattle.composing.proofs.Raised.{raised, apart_most}
use Rattle.composing.proofs.Fresh.{Resumes}
use Rattle.composing.proofs.Second.{past_of, second_of, rest_after, used_within, after_sound, after_short, runs_resume}

-- the replies 0 and 11 are stops
fault_ends : {R : Type 0} (f : Fault) → resumes (told_fault f) ≡ true → R
fault_ends (fault.Length k) e = absurd (false≢true e)
fault_ends (fault.Kind k) e = absurd (false≢true e)
fault_ends (fault.Value k) e = absurd (false≢true e)
fault_ends (fault.Time k) e = absurd (false≢true e)

stop_resumes : (k : Stop) → resumes (told_stop k) ≡ true → Resumes k
stop_resumes Limit e = tt
stop_resumes Undefined e = absurd (false≢true e)
stop_resumes Full e = absurd (false≢true e)
stop_resumes LogFull e = tt

admits : (t : Terms) (m : Machine) (given : Lent) → resumes (answer_of t m given).reply ≡ true → Admitted t m given × Resumes (ran_of t m given).stop
admits t m given =
    end_cases t m given (λ x. resumes x.reply ≡ true → Admitted t m given × Resumes (ran_of t m given).stop)
    (λ l e. absurd (false≢true e))
    (λ l k e. absurd (false≢true e))
    (λ l r e. absurd (false≢true e))
    (λ l r h e. absurd (false≢true e))
    (λ p f h e. fault_ends f e)
    (λ p s e. ((p, s), stop_resumes (ran_of t m given).stop e))

-- a world with what the first run had done, and the two answers as one
joins : (watch : Watch) (t t₁ : Told) (w u v : World) (leaps : ℕ) (inside : Bool) → w ≡ raised (past_of watch u) v leaps inside
    → length (take u.state.sent.0 u.lent.output) ≡ u.state.sent.0
    → answer_at (end_at t w) ≡ joined watch (answer_at (end_at t₁ u)) (answer_at (end_at t v))
joins watch t t₁ w u v leaps inside e l =
    let x = u.state in
    let y = v.state in
    let joint : answer_at (end_at t (raised (past_of watch u) v leaps inside)) ≡ joined watch (answer_at (end_at t₁ u)) (answer_at (end_at t v)) =
    λ k. record {
      reply = t;
      machine = y.machine;
      cycles = x.cycles.0 + y.cycles.0;
      instructions = x.instructions.0 + y.instructions.0;
      entries = x.entries.0 + y.entries.0;
      used = x.used.0 + y.used.0;
      sent = l k + y.sent.0;
      lent = lending v.lent.image v.lent.area
          (take x.sent.0 u.lent.output ++ v.lent.output)
          (take (logged_bytes watch x.entries.0) u.lent.log ++ v.lent.log);
    } in
    ap (λ (z : World). answer_at (end_at t z)) e ∙ joint

module _ (session : List ℕ) (watch : Watch) (n₁ n : ℕ) (m : Machine) (given : Lent) where
  -- the two questions
  abbrev asked₁ : Terms
  asked₁ = watching session n₁ watch

  abbrev asked : Terms
  asked = watching session n watch

  -- how the first run ends; what the one run is lent, and the second by how the first ended
  abbrev here : End
  here = let e = ran_of asked₁ m given in end_at (told_stop e.stop) e.world

  abbrev over : List ℕ → End → Lent
  over log x = lent_over watch x.world.state.entries.0 log given

  abbrev again : List ℕ → End → End
  again log x =
      let s = x.world.state in
      end_of (terms_after s.used.0 s.cycles.0 asked) s.machine (with_log (lent_after watch s.sent.0 s.entries.0 x.world.lent) log)

  module _ (log : List ℕ) where
    abbrev whole : End
    whole = let e = ran_of asked m (over log here) in end_at (told_stop e.stop) e.world

    abbrev left : End
    left =
        let s = here.world.state in
        let e = run_of (terms_after s.used.0 s.cycles.0 asked) (second_of watch here.world log) in
        end_at (told_stop e.stop) e.world

    module _ (h : Admitted asked₁ m given) (l : n₁ ≤ n) (b : n ≤ 1000000000) where
      whole_end : end_of asked m (over log here) ≡ whole
      whole_end =
          admitted_end asked m (over log here) (record { lengths = h.0.lengths; in_ranges = h.0.in_ranges; within = b }, h.1)

      -- the second run is not refused
      left_end : again log here ≡ left
      left_end =
          let w = here.world in
          let s = w.state in
          admitted_end (terms_after s.used.0 s.cycles.0 asked) s.machine (with_log (lent_after watch s.sent.0 s.entries.0 w.lent) log) (
            record {
              lengths = let k = same_lengths asked₁ (start_world m given) in (k.0 ∙ h.0.lengths.0, k.1 ∙ h.0.lengths.1);
              in_ranges = ranges_say _ (run_ranges asked₁ m given h.1 (say_ranges m.chip.bus h.0.in_ranges));
              within = omega arith;
            },
            after_sound session watch m given n₁ h.1,
          )

      module _ (stopped : Resumes (ran_of asked₁ m given).stop) where
        joined_here : answer_at whole ≡ joined watch (answer_at here) (answer_at left)
        joined_here =
            let r = runs_resume session watch m given n₁ h.1 n l stopped log in
            let q = r.1 in
            ap (λ (k : Stop). answer_at (end_at (told_stop k) whole.world)) r.0
            ∙ joins watch left.reply here.reply whole.world here.world left.world q.leaps q.inside q.same (filled_part asked₁ m given).2

        leaps_here : let k = here.world.state.leaps.0 + left.world.state.leaps.0 in
            (whole.world.state.leaps.0 ≤ k) × (k ≤ whole.world.state.leaps.0 + 1)
        leaps_here =
            let r = (runs_resume session watch m given n₁ h.1 n l stopped log).1 in
            let e = ap (λ (x : World). x.state.leaps.0) r.same in
            let low = r.apart.low in
            let most = apart_most r.apart in
            (omega (arith, e, low), omega (arith, e, most))

  -- the first run's answer; what the one run is lent, with the second's log; and the second's answer, which got what the first left
  abbrev pub first_answer : Answer
  first_answer = answer_of asked₁ m given

  abbrev pub lent_whole : List ℕ → Lent
  lent_whole log = lent_over watch first_answer.entries log given

  abbrev pub second_terms : Terms
  second_terms = terms_after first_answer.used first_answer.cycles asked

  abbrev pub second_lent : Lent
  second_lent = lent_after watch first_answer.sent first_answer.entries first_answer.lent

  abbrev pub second_answer : List ℕ → Answer
  second_answer log = answer_of second_terms first_answer.machine (with_log second_lent log)

  abbrev pub first_leaps : ℕ
  first_leaps = leaps_of asked₁ m given

  abbrev pub second_leaps : List ℕ → ℕ
  second_leaps log = leaps_of second_terms first_answer.machine (with_log second_lent log)

  module _ (e : resumes first_answer.reply ≡ true) where
    admitted : Admitted asked₁ m given
    admitted = (admits asked₁ m given e).0

    first_end : end_of asked₁ m given ≡ here
    first_end = admitted_end asked₁ m given admitted

    -- the call `rest` gives the second run its session: it refuses nothing but a buffer that is too short, and one as long as the session
    -- never is
    abbrev Fits : List ℕ → ℕ → ℕ → Type 0
    Fits buffer used cycles =
        let r = rest_of session used cycles in
        (length r ≤ length session)
        × (length r ≤ length buffer
        → (rest_answer session used cycles buffer ≡ rest_wrote (length r)) × (take (length r) (rest_buffer session used cycles buffer) ≡ r))

    pub rest_given : (buffer : List ℕ) → Fits buffer first_answer.used first_answer.cycles
    rest_given buffer =
        subst (λ (x : End). Fits buffer x.world.state.used.0 x.world.state.cycles.0) (sym first_end) (
          after_short session watch m given n₁ admitted.1,
          (λ l.
              let r = rest_after session watch m given n₁ in
              let sound = admitted.1 in
              let within = used_within session watch m given n₁ sound in (
                (rest_written session _ _ buffer (length r)).1 ((sound, within, l), refl),
                ap (take (length r)) (rest_left session _ _ buffer (sound, within, l)) ∙ take-append_seam r (drop (length r) buffer),
              )),
        )

    module _ (l : n₁ ≤ n) (b : n ≤ 1000000000) where
      stopped : Resumes (ran_of asked₁ m given).stop
      stopped = (admits asked₁ m given e).1

      -- "A run with a fresh log goes on as if uncut": the two answers, joined, are that of the one run with the first's room and then the fresh log
      pub resume : (log : List ℕ) → answer_of asked m (lent_whole log) ≡ joined watch first_answer (second_answer log)
      resume log =
          subst (λ (x : End). answer_of asked m (over log x) ≡ joined watch (answer_at x) (answer_at (again log x))) (sym first_end)
          (ap answer_at (whole_end log admitted l b)
          ∙ joined_here log admitted l b stopped
          ∙ ap (λ (x : End). joined watch (answer_at here) (answer_at x)) (sym (left_end log admitted l b)))

      -- and so are their leaps, but that a wait across the cut may count twice
      pub resume_leaps : (log : List ℕ) → let leaps = leaps_of asked m (lent_whole log) in
          (leaps ≤ first_leaps + second_leaps log) × (first_leaps + second_leaps log ≤ leaps + 1)
      resume_leaps log =
          subst
          (λ (x : End).
          let k = x.world.state.leaps.0 + (again log x).world.state.leaps.0 in
          let leaps = leaps_of asked m (over log x) in
          (leaps ≤ k) × (k ≤ leaps + 1))
          (sym first_end)
          (let p = ap (λ (x : End). x.world.state.leaps.0) (whole_end log admitted l b) in
          let q = ap (λ (x : End). x.world.state.leaps.0) (left_end log admitted l b) in
          let r = leaps_here log admitted l b stopped in
          (omega (arith, p, q, r.0), omega (arith, p, q, r.1)))

      -- the same of what the calls return: a run's report, with the memories, the output and the log that it leaves
      pub calls_resume : (r₁ r₂ r : Ran) (l₁ l₂ k : Lent) (log : List ℕ)
          → Single asked₁ m given r₁ l₁
          → Single (terms_after r₁.counts.used.0 r₁.counts.cycles.0 asked) r₁.machine (with_log (lent_after watch r₁.counts.sent.0 r₁.counts.entries.0 l₁) log) r₂ l₂
          → Single asked m (lent_over watch r₁.counts.entries.0 log given) r k
          → answered r k ≡ joined watch (answered r₁ l₁) (answered r₂ l₂)
      calls_resume r₁ r₂ r l₁ l₂ k log p q u =
          subst
          (λ (a : Answer).
          answered r₂ l₂ ≡ answer_of (terms_after a.used a.cycles asked) a.machine (with_log (lent_after watch a.sent a.entries a.lent) log)
          → answered r k ≡ answer_of asked m (lent_over watch a.entries log given)
          → answered r k ≡ joined watch a (answered r₂ l₂))
          (sym p) (λ v z. z ∙ resume log ∙ ap (joined watch first_answer) (sym v)) q u

      -- Where the second gets the rest of the log: the one run with the first's log.
      given_whole : lent_whole second_lent.log ≡ given
      given_whole =
          let p = log_left asked₁ m given in
          ap (with_log given) (log_back (logged_bytes watch first_answer.entries) given.log first_answer.lent.log p.2 p.3)

      pub compose : answer_of asked m given ≡ joined watch first_answer (answer_of second_terms first_answer.machine second_lent)
      compose = ap (answer_of asked m) (sym given_whole) ∙ resume second_lent.log

      pub compose_leaps : let leaps = leaps_of asked m given in
          let second = leaps_of second_terms first_answer.machine second_lent in
          (leaps ≤ first_leaps + second) × (first_leaps + second ≤ leaps + 1)
      compose_leaps =
          subst
          (λ (x : Lent).
          let k = first_leaps + second_leaps second_lent.log in
          (leaps_of asked m x ≤ k) × (k ≤ leaps_of asked m x + 1))
          given_whole (resume_leaps second_lent.log)

      pub calls_compose : (r₁ r₂ r : Ran) (l₁ l₂ k : Lent)
          → Single asked₁ m given r₁ l₁
          → Single (terms_after r₁.counts.used.0 r₁.counts.cycles.0 asked) r₁.machine (lent_after watch r₁.counts.sent.0 r₁.counts.entries.0 l₁) r₂ l₂
          → Single asked m given r k
          → answered r k ≡ joined watch (answered r₁ l₁) (answered r₂ l₂)
      calls_compose r₁ r₂ r l₁ l₂ k p q u =
          subst
          (λ (a : Answer).
          answered r₂ l₂ ≡ answer_of (terms_after a.used a.cycles asked) a.machine (lent_after watch a.sent a.entries a.lent)
          → answered r k ≡ joined watch a (answered r₂ l₂))
          (sym p) (λ v. u ∙ compose ∙ ap (joined watch first_answer) (sym v)) q
