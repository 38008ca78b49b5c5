-- The ways that a public run can end, each as a law: the five tests in their order, a refusal, and the run. Assumes nothing.
use Prim.Native.Nat.{◌≤◌, ◌<◌}
use native.Mathlib.Omega.{arith}
use mathlib.Core.Path.{◌≡◌, refl, sym, ap, subst, ◌∙◌}
use mathlib.Core.Bool.{Bool, true, false, not, true≢false}
use mathlib.Core.Option.{Option, none, some}
use lib.Dec.{eqb, ltb}
use lib.ListN.{length}
use borrow.Author.Tests.{eq-eqb, ne_eqb, lt-ltb, le-ltb, eqb-true, eqb-false, ltb-true, ltb-false}
use Rattle.laws.proofs.Conds.{picks, passes}
use Rattle.laws.proofs.Options.{some_none}
use Rattle.session.specs.Session.{check_of, fault_number}
use Rattle.session.specs.declared.Fault.{Fault}
use Rattle.session.specs.declared.Fault.TheVariants as fault
use Rattle.std.specs.Prelude.{Result, Ok, Err, ⊤}
use Rattle.replies.specs.declared.Reply.{Reply}
use Rattle.replies.specs.Replies.{Told, told, told_reply, told_fault, told_check, stops}
use Rattle.machine.specs.declared.Machine.{Machine}
use Rattle.machine.specs.Machine.{Ranges, ranges_of}
use Rattle.machine.proofs.Ranges.{ranges_say}
use Rattle.boundary.specs.declared.State.{State}
use Rattle.boundary.specs.declared.Stop.{Stop}
use Rattle.boundary.specs.declared.Stop.TheVariants as stop
use Rattle.boundary.specs.World.{Lent, Terms, World, Ended, world_of, ended_of, stop_number}
use Rattle.boundary.specs.Boundary.{run_of}
use Rattle.boundary.specs.Counts.{Fine}
use Rattle.boundary.specs.Start.{start_of, start_world, ran_of}
use Rattle.cabinet.specs.Answers.{told_admission, told_stop, refusal_of, End, end_at, on_refusal, end_of, ended_with, answer_of}

pub start_fine : (m : Machine) {s : State} → s ≡ start_of m → Fine s
start_fine m e = subst Fine (sym e) (record { instructions = omega arith; entries = omega arith; leaps = omega arith; used = omega arith })

-- what 1 and 12 let pass
abbrev pub Lengths : Lent → Type 0
Lengths l = (length l.image ≡ 65536) × (length l.area ≡ 128)

module _ (asked : Terms) (m : Machine) (given : Lent) where
  abbrev Refuses : Option Told → Type 0
  Refuses t = refusal_of asked m given ≡ t

  pub refuses_1 : (length given.image ≡ 65536 → ⊥) → Refuses (some (told 1 none))
  unfolding refusal_of
  refuses_1 l = picks _ _ (ap not (ne_eqb _ _ l))

  pub refuses_12 : length given.image ≡ 65536 → (length given.area ≡ 128 → ⊥) → Refuses (some (told 12 none))
  unfolding refusal_of
  refuses_12 l k = passes _ _ (ap not (eq-eqb _ _ l)) ∙ picks _ _ (ap not (ne_eqb _ _ k))

  module _ (l : Lengths given) where
    right_image : not (eqb (length given.image) 65536) ≡ false
    right_image = ap not (eq-eqb _ _ l.0)

    right_area : not (eqb (length given.area) 128) ≡ false
    right_area = ap not (eq-eqb _ _ l.1)

    pub refuses_2 : ranges_of m ≡ false → Refuses (some (told 2 none))
    unfolding refusal_of
    refuses_2 r = passes _ _ right_image ∙ passes _ _ right_area ∙ picks _ _ (ap not r)

    module _ (r : ranges_of m ≡ true) where
      pub refuses_3 : 1000000000 < asked.limit → Refuses (some (told 3 none))
      unfolding refusal_of
      refuses_3 h = passes _ _ right_image ∙ passes _ _ right_area ∙ passes _ _ (ap not r) ∙ picks _ _ (lt-ltb _ _ h)

      pub session_decides : asked.limit ≤ 1000000000 → Refuses (told_check (check_of asked.session))
      unfolding refusal_of
      session_decides h = passes _ _ right_image ∙ passes _ _ right_area ∙ passes _ _ (ap not r) ∙ passes _ _ (le-ltb _ _ h)

  -- what the first four tests let pass
  pub record Passed : Type 0 where
    pub lengths : Lengths given
    pub in_ranges : Ranges m.chip.bus
    pub within : asked.limit ≤ 1000000000

  pub refusal_cases : (P : Option Told → Type 0)
      → ((length given.image ≡ 65536 → ⊥) → P (some (told 1 none)))
      → (length given.image ≡ 65536 → (length given.area ≡ 128 → ⊥) → P (some (told 12 none)))
      → (Lengths given → ranges_of m ≡ false → P (some (told 2 none)))
      → (Lengths given → ranges_of m ≡ true → 1000000000 < asked.limit → P (some (told 3 none)))
      → (Passed → P (told_check (check_of asked.session)))
      → P (refusal_of asked m given)
  refusal_cases P p a q s t =
      by (eqb (length given.image) 65536) refl (eqb (length given.area) 128) refl (ranges_of m) refl (ltb 1000000000 asked.limit) refl
    where
      by : (long : Bool) → eqb (length given.image) 65536 ≡ long → (wide : Bool) → eqb (length given.area) 128 ≡ wide
          → (fits : Bool) → ranges_of m ≡ fits → (over : Bool) → ltb 1000000000 asked.limit ≡ over → P (refusal_of asked m given)
      by false e wide k fits f over g = let l = eqb-false _ _ e in subst P (sym (refuses_1 l)) (p l)
      by true e false k fits f over g = let l = eqb-true _ _ e in let n = eqb-false _ _ k in subst P (sym (refuses_12 l n)) (a l n)
      by true e true k false f over g = let l : Lengths given = (eqb-true _ _ e, eqb-true _ _ k) in subst P (sym (refuses_2 l f)) (q l f)
      by true e true k true f true g =
          let l : Lengths given = (eqb-true _ _ e, eqb-true _ _ k) in
          let h = ltb-true _ _ g in
          subst P (sym (refuses_3 l f h)) (s l f h)
      by true e true k true f false g =
          let l : Lengths given = (eqb-true _ _ e, eqb-true _ _ k) in
          let h = ltb-false _ _ g in
          subst P (sym (session_decides l f h)) (t (record { lengths = l; in_ranges = ranges_say m.chip.bus f; within = h }))

  pub admitted_within : Refuses none → asked.limit ≤ 1000000000
  admitted_within =
      refusal_cases (λ t. t ≡ none → asked.limit ≤ 1000000000) (λ l. some_none) (λ l k. some_none) (λ l r. some_none) (λ l r h. some_none) (λ p e. p.within)

  -- a refusal leaves the start
  pub end_refused : {t : Told} → Refuses (some t) → end_of asked m given ≡ end_at t (start_world m given)
  unfolding end_of
  end_refused e = ap (λ (t : Option Told). on_refusal t (start_world m given) (ran_of asked m given)) e

  -- else the run's end
  pub end_ran : Refuses none → (e : Ended) → e ≡ ran_of asked m given → end_of asked m given ≡ end_at (told_stop e.stop) e.world
  unfolding end_of
  end_ran r e h =
      ap (λ (t : Option Told). on_refusal t (start_world m given) (ran_of asked m given)) r
      ∙ ap (λ (x : Ended). end_at (told_stop x.stop) x.world) (sym h)

  -- what `end` returns, where the tests refuse and where they do not
  module _ {a : Result ⊤ Reply} {s : State} (t : told_admission a ≡ refusal_of asked m given) (f : s ≡ start_of m) where
    pub refusal_ends : {r : Reply} → a ≡ Err r
        → ended_with (record { reply = r; state = s }) given ≡ end_of asked m given
    refusal_ends {r} e =
        ap (λ (x : State). end_at (told_reply r) (world_of x given)) f
        ∙ sym (end_refused (sym t ∙ ap told_admission e))

    pub run_ends : (r : Reply) (k : Stop) {u : State} {l : Lent} → a ≡ Ok tt
        → ended_of k (world_of u l) ≡ run_of asked (world_of s given)
        → told_reply r ≡ told_stop k
        → ended_with (record { reply = r; state = u }) l ≡ end_of asked m given
    run_ends r k {u} {l} e h d =
        ap (λ (x : Told). end_at x (world_of u l)) d
        ∙ sym (end_ran (sym t ∙ ap told_admission e) (ended_of k (world_of u l)) (h ∙ ap (λ (x : State). run_of asked (world_of x given)) f))

  -- each way that a public run can end
  pub end_cases : (P : End → Type 0)
      → ((length given.image ≡ 65536 → ⊥) → P (end_at (told 1 none) (start_world m given)))
      → (length given.image ≡ 65536 → (length given.area ≡ 128 → ⊥) → P (end_at (told 12 none) (start_world m given)))
      → (Lengths given → ranges_of m ≡ false → P (end_at (told 2 none) (start_world m given)))
      → (Lengths given → ranges_of m ≡ true → 1000000000 < asked.limit → P (end_at (told 3 none) (start_world m given)))
      → (Passed → (f : Fault) → check_of asked.session ≡ Err f → P (end_at (told_fault f) (start_world m given)))
      → (Passed → check_of asked.session ≡ Ok tt → P (end_at (told_stop (ran_of asked m given).stop) (ran_of asked m given).world))
      → P (end_of asked m given)
  unfolding end_of
  end_cases P p k q s t u =
      refusal_cases (λ (x : Option Told). P (on_refusal x (start_world m given) (ran_of asked m given))) p k q s (λ a. by a (check_of asked.session) refl)
    where
      by : Passed → (c : Result ⊤ Fault) → check_of asked.session ≡ c → P (on_refusal (told_check c) (start_world m given) (ran_of asked m given))
      by a (Ok x) e = u a e
      by a (Err f) e = t a f e

  -- what holds of the start and of where a run stops holds of what is left, whatever the reply
  pub left_cases : (P : World → Type 0) → P (start_world m given) → (check_of asked.session ≡ Ok tt → P (ran_of asked m given).world)
      → P (end_of asked m given).world
  left_cases P s r = end_cases (λ x. P x.world) (λ l. s) (λ l k. s) (λ l f. s) (λ l f h. s) (λ a f e. s) (λ a e. r e)

-- the replies to a run are at most 12, those that name a record at most 7
fault_most : (f : Fault) → fault_number f ≤ 7
fault_most (fault.Length k) = omega arith
fault_most (fault.Kind k) = omega arith
fault_most (fault.Value k) = omega arith
fault_most (fault.Time k) = omega arith

stop_most : (s : Stop) → stop_number s ≤ 12
stop_most stop.Limit = omega arith
stop_most stop.Undefined = omega arith
stop_most stop.Full = omega arith
stop_most stop.LogFull = omega arith

pub reply_most : (asked : Terms) (m : Machine) (given : Lent) → (answer_of asked m given).reply.number ≤ 12
reply_most asked m given =
    end_cases asked m given (λ x. x.reply.number ≤ 12)
    (λ l. omega arith)
    (λ l k. omega arith)
    (λ l r. omega arith)
    (λ l r h. omega arith)
    (λ p f e. let h = fault_most f in omega arith)
    (λ p e. stop_most (ran_of asked m given).stop)

pub stop_stops : (s : Stop) → stops (stop_number s) ≡ true
stop_stops stop.Limit = refl
stop_stops stop.Undefined = refl
stop_stops stop.Full = refl
stop_stops stop.LogFull = refl

-- with a right area those of refusals are at most 7
pub refusal_most : (asked : Terms) (m : Machine) (given : Lent) → length given.area ≡ 128
    → let k = (answer_of asked m given).reply.number in stops k ≡ false → k ≤ 7
refusal_most asked m given right =
    end_cases asked m given (λ x. stops x.reply.number ≡ false → x.reply.number ≤ 7)
    (λ l e. omega arith)
    (λ l k e. absurd (k right))
    (λ l r e. omega arith)
    (λ l r h e. omega arith)
    (λ p f s e. fault_most f)
    (λ p s e. absurd (true≢false (sym (stop_stops (ran_of asked m given).stop) ∙ e)))
