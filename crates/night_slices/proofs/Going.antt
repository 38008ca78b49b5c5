-- The laws of the slices: one that goes on has passed cycles, so the slices end; and the night is its slices. Assumes nothing.
use Rattle.std.proofs.Common.{◌≡◌, ℕ, ◌-◌, ◌<◌, ◌≤◌, min, Bool, true, false, cond, leb, List, length, take, drop, sym, refl, ap, ◌∙◌, arith, length-take, take_all, ltb-true, le-ltb, lt-ltb, eqb-true, leb-false, leb-true}
use mathlib.Core.Option.{none}
use Rattle.turns.specs.Turn.{more}
use Rattle.turns.proofs.Laws.{on_more, loop_more, loop_done}
use Rattle.laws.proofs.Bools.{both}
use Rattle.laws.proofs.Conds.{picks, passes}
use Rattle.session.specs.Session.{fault_number}
use Rattle.session.specs.declared.Fault.{Fault}
use Rattle.session.specs.declared.Fault.TheVariants.{Length, Kind, Value, Time}
use Rattle.replies.specs.Replies.{Told, told, stops}
use Rattle.machine.specs.declared.Machine.{Machine}
use Rattle.boundary.specs.declared.Stop.{Stop}
use Rattle.boundary.specs.declared.Stop.TheVariants.{Limit, Undefined, Full, LogFull}
use Rattle.boundary.specs.declared.Watch.{Watch}
use Rattle.boundary.specs.World.{Lent, with_output, with_log, Terms, watching, stop_number}
use Rattle.boundary.specs.Start.{start_world, ran_of}
use Rattle.boundary.proofs.Kept as kept
use Rattle.cabinet.specs.Answers.{answer_of}
use Rattle.cabinet.proofs.Ends.{end_cases}
use Rattle.rest.specs.Rest.{rest_of}
use Rattle.rest.specs.Answers.{rest_answer}
use Rattle.rest.proofs.Exactly.{answer_cases}
use Rattle.night_slices.specs.Slices.{Standing, slice_cycles, keeping, on_keep, keeping_of, slice_of, goes_on, slice_turn, slices_of, night_at, night_of}

-- a refusal of a session has a number of 4 or more
fault_number_lem : (f : Fault) → 4 ≤ fault_number f
fault_number_lem (Length k) = omega arith
fault_number_lem (Kind k) = omega arith
fault_number_lem (Value k) = omega arith
fault_number_lem (Time k) = omega arith

-- a run that replies 0 has reached its limit
reached : (k : Stop) {n cycles : ℕ} → kept.Reached k n cycles → stop_number k ≡ 0 → n ≤ cycles
reached Limit h e = h
reached Undefined h e = absurd (let z : ⊥ = omega arith in z)
reached Full h e = absurd (let z : ⊥ = omega arith in z)
reached LogFull h e = absurd (let z : ⊥ = omega arith in z)

limit_reached : (asked : Terms) (m : Machine) (given : Lent) → let a = answer_of asked m given in a.reply.number ≡ 0 → asked.limit ≤ a.cycles
limit_reached asked m given =
    end_cases asked m given (λ x. x.reply.number ≡ 0 → asked.limit ≤ x.world.state.cycles.0)
    (λ l d. absurd (let z : ⊥ = omega arith in z))
    (λ l k d. absurd (let z : ⊥ = omega arith in z))
    (λ l r d. absurd (let z : ⊥ = omega arith in z))
    (λ l r h d. absurd (let z : ⊥ = omega arith in z))
    (λ p f e d. absurd (let k = fault_number_lem f in let z : ⊥ = omega arith in z))
    (λ p s d. reached (ran_of asked m given).stop (kept.limit_reached asked (start_world m given)) d)

-- where a slice tells 0 its run replied 0: crate rest refuses with 4 or more
kept_zero : (t : Told) (s : List ℕ) (u c : ℕ) → (keeping_of t s u c).told.number ≡ 0 → t.number ≡ 0
unfolding keeping_of
kept_zero t s u c = by (stops t.number)
  where
    by : (b : Bool) → (cond b (on_keep t s (rest_of s u c) (rest_answer s u c s)) (keeping t s)).told.number ≡ 0 → t.number ≡ 0
    by true =
        answer_cases s u c s (λ a. (on_keep t s (rest_of s u c) a).told.number ≡ 0 → t.number ≡ 0)
        (λ f e d. absurd (let k = fault_number_lem f in let z : ⊥ = omega arith in z))
        (λ e h d. absurd (let z : ⊥ = omega arith in z))
        (λ e h l d. absurd (let z : ⊥ = omega arith in z))
        (λ e h l d. d)
    by false = λ e. e

-- a slice that goes on has fewer cycles left
less : (left cycles : ℕ) → min left 1000000000 ≤ cycles → 0 < left - cycles → left - cycles < left
less left cycles l k = omega arith

pub slice_falls : (s : Standing) → goes_on (slice_of s) ≡ true → (slice_of s).left < s.left
unfolding slice_of
slice_falls s g =
    let asked = watching s.session (slice_cycles s.left) s.watch in
    let given = with_log (with_output s.lent (drop s.sent s.lent.output)) (drop s.logged s.lent.log) in
    let a = answer_of asked s.machine given in
    let p = both _ _ g in
    let z = kept_zero a.reply s.session a.used a.cycles (eqb-true _ _ p.0) in
    less s.left a.cycles (limit_reached asked s.machine given z) (ltb-true _ _ p.1)

turns_fall : (s t : Standing) → slice_turn s ≡ more t → t.left < s.left
turns_fall s t e =
    let k = on_more _ _ _ _ e in
    let f = slice_falls s k.0 in
    let h = ap (λ (x : Standing). x.left) k.1 in
    omega arith

pub slices_more : (s : Standing) → goes_on (slice_of s) ≡ true → slices_of s ≡ slices_of (slice_of s)
unfolding slices_of
slices_more s g = loop_more slice_turn _ _ turns_fall (picks _ _ g)

pub slices_done : (s : Standing) → goes_on (slice_of s) ≡ false → slices_of s ≡ slice_of s
unfolding slices_of
slices_done s g = loop_done slice_turn _ _ turns_fall (passes _ _ g)

-- as many bytes as there are, at most so many
take_least : (k : ℕ) (l : List ℕ) → take (min k (length l)) l ≡ take k l
take_least k l = by (leb k (length l)) refl
  where
    by : (b : Bool) → leb k (length l) ≡ b → take (min k (length l)) l ≡ take k l
    by true e = let h = leb-true k (length l) e in let z : min k (length l) ≡ k = omega arith in ap (λ (j : ℕ). take j l) z
    by false e =
        let h = leb-false k (length l) e in
        let z : min k (length l) ≡ length l = omega arith in
        ap (λ (j : ℕ). take j l) z ∙ take_all (length l) l (omega arith) ∙ sym (take_all k l (omega arith))

module _ (session : List ℕ) (size n : ℕ) (watch : Watch) (m : Machine) (given : Lent) (room : ℕ) {least : ℕ} (e : least ≡ min size (length session)) where
  same : take least session ≡ take size session
  same = ap (λ (j : ℕ). take j session) e ∙ take_least size session

  abbrev night : Standing
  night = night_of (watching (take size session) n watch) m given room

  pub night_refused : room < least → night_at (told 31 none) (watching (take least session) n watch) m given ≡ night
  unfolding night_of
  night_refused h =
      let l = length-take size session in
      ap (λ (s : List ℕ). night_at (told 31 none) (watching s n watch) m given) same
      ∙ sym (picks _ _ (lt-ltb room (length (take size session)) (omega arith)))

  pub night_runs : least ≤ room → slices_of (night_at (told 0 none) (watching (take least session) n watch) m given) ≡ night
  unfolding night_of
  night_runs h =
      let l = length-take size session in
      ap (λ (s : List ℕ). slices_of (night_at (told 0 none) (watching s n watch) m given)) same
      ∙ sym (passes _ _ (le-ltb room (length (take size session)) (omega arith)))
