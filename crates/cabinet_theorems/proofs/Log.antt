-- The wake log of a public run, by 02: without it "the run itself reads as before", and with room enough too; 11 exactly when, by the run
-- without the log; and which rows are in it. What is left of its bytes is in Left.antt. Assumes nothing.
use Prim.Native.Nat.{ℕ, ◌*◌, ◌/◌, ◌≤◌, ◌<◌}
use native.Mathlib.Omega.{arith}
use mathlib.Core.Path.{◌≡◌, refl, sym, ap, subst, ◌∙◌}
use mathlib.Core.Bool.{Bool, true, false, cond, false≢true}
use mathlib.Core.List.{List, [], ◌++◌}
use mathlib.Core.Logic.{◌↔◌, ◌⊎◌, inl, inr, ⊎_elim}
use mathlib.Core.Option.{Option, none, some}
use lib.ListN.{length, take, drop}
use Rattle.machine.specs.declared.Machine.{Machine}
use Rattle.replies.specs.Replies.{Told, told}
use Rattle.boundary.specs.declared.Stop.{Stop}
use Rattle.boundary.specs.declared.Stop.TheVariants.{Limit, Undefined, Full, LogFull}
use Rattle.boundary.specs.World.{Lent, lent, with_log, Terms, terms, logged_bytes, Ended}
use Rattle.boundary.specs.Start.{start_world, ran_of}
use Rattle.log_theorems.specs.Wakes.{wakes_of, rows_bytes, logging, ended_with}
use Rattle.log_theorems.proofs.Ordinary.{ordinary_run}
use Rattle.log_theorems.proofs.Log.{log_filled}
use Rattle.log_theorems.proofs.Watching as watching
use Rattle.log_theorems.proofs.Watching.{log_unread, logged_ends, rows_first, log_first}
use Rattle.log_theorems.proofs.Rows as rows
use Rattle.cabinet.specs.Answers.{told_stop, refusal_of, End, end_at, on_refusal, end_of, Answer, answer_at, answer_of, leaps_of}
use Rattle.cabinet.proofs.Ends.{end_cases}
use Rattle.cabinet_theorems.proofs.Left.{log_left}
use Rattle.cabinet_theorems.proofs.Exactly.{fault_number_lem, number, stop_known, Admitted, admitted_end, reply_11}

-- a run that is not stopped with 11 is the run without a log, in all but the log
module _ (t : Terms) (m : Machine) (l : Lent) where
  abbrev Runs : Ended → Type 0
  Runs e = ran_of (terms t.session t.limit) m (lent l.image l.area l.output) ≡ ended_with [] e

  silent_runs : Runs (ran_of (logging false t) m l)
  silent_runs = sym (ordinary_run t (start_world m (lent l.image l.area l.output))) ∙ log_unread t m l []

  enough_runs : ((ran_of t m l).stop ≡ LogFull → ⊥) → Runs (ran_of t m l)
  enough_runs = by t.watch.log refl
    where
      P : Terms → Type 0
      P x = ((ran_of x m l).stop ≡ LogFull → ⊥) → Runs (ran_of x m l)

      by : (b : Bool) → t.watch.log ≡ b → P t
      by true e = subst P (sym (ap (λ (b : Bool). logging b t) e)) (λ n. silent_runs ∙ ap (ended_with []) (logged_ends t m l n))
      by false e = subst P (sym (ap (λ (b : Bool). logging b t) e)) (λ n. silent_runs)

-- an answer with another log
abbrev pub answer_with : List ℕ → Answer → Answer
answer_with log a =
    record {
      reply = a.reply;
      machine = a.machine;
      cycles = a.cycles;
      instructions = a.instructions;
      entries = a.entries;
      used = a.used;
      sent = a.sent;
      lent = with_log a.lent log;
    }

module _ (asked : Terms) (m : Machine) (given : Lent) where
  -- the ordinary run: it is asked for no log, and lent none
  abbrev ordinary : Terms
  ordinary = terms asked.session asked.limit

  abbrev pub plain_answer : Answer
  plain_answer = answer_of ordinary m (lent given.image given.area given.output)

  abbrev pub plain_leaps : ℕ
  plain_leaps = leaps_of ordinary m (lent given.image given.area given.output)

  abbrev Plain : Type 0
  Plain = (plain_answer ≡ answer_with [] (answer_of asked m given)) × (plain_leaps ≡ leaps_of asked m given)

  -- "with room enough the logged run is the run": where the reply is not 11, it is the ordinary run in every respect but the log
  pub enough : ((answer_of asked m given).reply ≡ told 11 none → ⊥) → Plain
  unfolding end_of refusal_of
  enough = by (refusal_of asked m given)
    where
      by : (o : Option Told)
          → let x = on_refusal o (start_world m given) (ran_of asked m given) in
          let p = on_refusal o (start_world m (lent given.image given.area given.output)) (ran_of ordinary m (lent given.image given.area given.output)) in
          (x.reply ≡ told 11 none → ⊥) → (answer_at p ≡ answer_with [] (answer_at x)) × (p.world.state.leaps.0 ≡ x.world.state.leaps.0)
      by (some r) n = (refl, refl)
      by none n =
          let e = enough_runs asked m given (λ e. n (ap told_stop e)) in (
            ap (λ (x : Ended). answer_at (end_at (told_stop x.stop) x.world)) e,
            ap (λ (x : Ended). x.world.state.leaps.0) e,
          )

  -- "The run itself reads as before": without the log the reply is never 11, and the log is as it was
  pub unlogged : asked.watch.log ≡ false
      → (answer_of asked m given ≡ answer_with given.log plain_answer) × (leaps_of asked m given ≡ plain_leaps)
  unlogged e =
      let p = enough (λ r. false≢true (sym e ∙ ((reply_11 asked m given).0 r).1.3)) in
      let kept : (answer_of asked m given).lent.log ≡ given.log = (log_left asked m given).3 ∙ none_filled in (
        ap (λ (log : List ℕ). answer_with log (answer_of asked m given)) kept ∙ ap (answer_with given.log) (sym p.0),
        sym p.1,
      )
    where
      none_filled : let a = answer_of asked m given in
          take (logged_bytes asked.watch a.entries) a.lent.log ++ drop (logged_bytes asked.watch a.entries) given.log ≡ given.log
      none_filled =
          let a = answer_of asked m given in
          ap (λ (b : Bool). take (cond b (8 * a.entries) 0) a.lent.log ++ drop (cond b (8 * a.entries) 0) given.log) e

  -- the reply is 11, or it is not
  stops_with_11 : ((answer_of asked m given).reply ≡ told 11 none) ⊎ ((answer_of asked m given).reply ≡ told 11 none → ⊥)
  stops_with_11 =
      end_cases asked m given (λ x. (x.reply ≡ told 11 none) ⊎ (x.reply ≡ told 11 none → ⊥))
      (λ l. inr (λ d. let n = number d in omega (arith, n)))
      (λ l k. inr (λ d. let n = number d in omega (arith, n)))
      (λ l r. inr (λ d. let n = number d in omega (arith, n)))
      (λ l r h. inr (λ d. let n = number d in omega (arith, n)))
      (λ p f h. inr (λ d. let n = number d in let b = (fault_number_lem f).1 in omega (arith, n, b)))
      (λ p s. by (ran_of asked m given).stop)
    where
      by : (k : Stop) → (told_stop k ≡ told 11 none) ⊎ (told_stop k ≡ told 11 none → ⊥)
      by Limit = inr (λ d. let n = number d in omega (arith, n))
      by Undefined = inr (λ d. let n = number d in omega (arith, n))
      by Full = inr (λ d. let n = number d in omega (arith, n))
      by LogFull = inl refl

  -- where the log is asked for
  module _ (e : asked.watch.log ≡ true) where
    as_logging : logging true asked ≡ asked
    as_logging = sym (ap (λ (b : Bool). logging b asked) e)

    abbrev logged_answer : Answer
    logged_answer = answer_of asked m given

    filled : 8 * logged_answer.entries ≤ length given.log
    filled = let n = ap (λ (b : Bool). cond b (8 * logged_answer.entries) 0) e in let l = (log_left asked m given).0 in omega (arith, n, l)

    -- 11 comes where the rows fill the log
    pub full_11 : (answer_of asked m given).reply ≡ told 11 none → (answer_of asked m given).entries ≡ length given.log / 8
    full_11 r =
        let s = ((reply_11 asked m given).0 r).1.4 in
        let long = (log_left asked m given).1 in
        let f = filled in
        omega (arith, s, long, f)

    more_entries : (answer_of asked m given).reply ≡ told 11 none → length given.log / 8 < plain_answer.entries
    more_entries r =
        let h = ((reply_11 asked m given).0 r).0 in
        let p = h.0 in
        let stop = stop_known (ran_of asked m given).stop LogFull (ap (λ (x : End). x.reply) (sym (admitted_end asked m given h)) ∙ r) in
        let more = (watching.exactly_11 asked m given).0 (ap (λ (t : Terms). (ran_of t m given).stop) as_logging ∙ stop) in
        let plain = admitted_end ordinary m (lent given.image given.area given.output)
        (record { lengths = p.lengths; in_ranges = p.in_ranges; within = p.within }, h.1) in
        let same = ap (λ (x : End). x.world.state.entries.0) plain in
        let silent = ap (λ (x : Ended). x.world.state.entries.0) (silent_runs asked m given) in
        omega (arith, more, same, silent)

    -- "With room k it stops with 11 exactly when the run has more than k entries"
    pub exactly_11 : ((answer_of asked m given).reply ≡ told 11 none) ↔ (length given.log / 8 < plain_answer.entries)
    exactly_11 = (more_entries, (λ h. ⊎_elim (λ r. r) (λ n. absurd (other h n)) stops_with_11))
      where
        other : length given.log / 8 < plain_answer.entries → (logged_answer.reply ≡ told 11 none → ⊥) → ⊥
        other h n =
            let same = ap (λ (a : Answer). a.entries) (enough n).0 in
            let f = filled in
            omega (arith, h, same, f)

    -- ".. and its rows are the first k": of the causes that woke the run without the log
    pub rows_told : Admitted asked m given
        → let a = answer_of asked m given in
        take (8 * a.entries) a.lent.log ≡ rows_bytes (take (length given.log / 8) (wakes_of (logging false asked) (start_world m given)))
    rows_told h =
        let first = subst (λ (t : Terms). wakes_of t (start_world m given) ≡ take (length given.log / 8) (wakes_of (logging false asked) (start_world m given)))
        as_logging (rows_first asked m given) in
        subst
        (λ (x : End).
        take (8 * x.world.state.entries.0) x.world.lent.log
        ≡ rows_bytes (take (length given.log / 8) (wakes_of (logging false asked) (start_world m given))))
        (sym (admitted_end asked m given h))
        (log_filled asked m given e ∙ ap rows_bytes first)

    -- each row tells an entry of the run: its number, its cycle, the cause, first in 01's order of those that held, and the others that held behind it
    pub each_row : (k : ℕ) → k < (answer_of asked m given).entries
        → rows.Told asked m given k × ((answer_of asked m given).lent.log ≡ (ran_of asked m given).world.lent.log)
    each_row k =
        end_cases asked m given
        (λ x. k < x.world.state.entries.0 → rows.Told asked m given k × (x.world.lent.log ≡ (ran_of asked m given).world.lent.log))
        (λ l h. absurd (none h))
        (λ l a h. absurd (none h))
        (λ l r h. absurd (none h))
        (λ l r b h. absurd (none h))
        (λ p f d h. absurd (none h))
        (λ p s h. (rows.row_told asked m given e k h, refl))
      where
        none : k < 0 → ⊥
        none h = omega (arith, h)

    -- of two logs the shorter has the first rows of the longer
    pub first_rows : (longer : List ℕ) → length given.log ≤ length longer
        → let a = answer_of asked m given in
        take (8 * a.entries) a.lent.log ≡ take (8 * a.entries) (answer_of asked m (with_log given longer)).lent.log
    unfolding end_of refusal_of
    first_rows longer h = by (refusal_of asked m given)
      where
        by : (o : Option Told)
            → let x = (on_refusal o (start_world m given) (ran_of asked m given)).world in
            let y = (on_refusal o (start_world m (with_log given longer)) (ran_of asked m (with_log given longer))).world in
            take (8 * x.state.entries.0) x.lent.log ≡ take (8 * x.state.entries.0) y.lent.log
        by (some r) = refl
        by none =
            subst
            (λ (t : Terms).
            let w = (ran_of t m given).world in
            take (8 * w.state.entries.0) w.lent.log ≡ take (8 * w.state.entries.0) (ran_of t m (with_log given longer)).world.lent.log)
            as_logging (log_first asked m given longer h)
