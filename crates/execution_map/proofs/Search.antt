-- The search for an address that never ran, in words: it gives the least one of the range, or none exactly where every address of it ran. Assumes nothing.
use Prim.Native.Nat.{ℕ, zero, suc, ◌+◌, ◌-◌, ◌≤◌, ◌<◌}
use native.Mathlib.Decide.{ℕ_discrete}
use native.Mathlib.Omega.{arith}
use mathlib.Core.Bool.{Bool, true, false, true≢false}
use mathlib.Core.List.{List, [], ◌∷◌}
use mathlib.Core.Logic.{◌↔◌}
use Rattle.std.specs.Prelude.{Option, None, Some}
use mathlib.Core.Path.{◌≡◌, refl, sym, ap, subst, ◌∙◌}
use lib.ListN.{length}
use borrow.Author.Tests.{eq-eqb, ne_eqb}
use Rattle.laws.proofs.Apart.{apart}
use Rattle.laws.proofs.Conds.{picks, passes}
use Rattle.asking.specs.Asking.{gives, replies}
use Rattle.execution_map.specs.Map.{has_run, unrun_from, first_of, unrun_answer}

module _ (bytes : List ℕ) (at last : ℕ) where
  -- the first of the addresses that are left
  turn : at ≤ last → last + 1 - at ≡ suc (last + 1 - (at + 1))
  turn h = omega (arith, h)

  -- it ran: the rest is to be searched
  pub from_more : at ≤ last → has_run bytes at ≡ true → unrun_from bytes at (last + 1 - at) ≡ unrun_from bytes (at + 1) (last + 1 - (at + 1))
  unfolding unrun_from
  from_more h e = rw (turn h) (picks _ _ e)

  -- it did not: it comes first
  pub from_here : at ≤ last → has_run bytes at ≡ false
      → unrun_from bytes at (last + 1 - at) ≡ at ∷ unrun_from bytes (at + 1) (last + 1 - (at + 1))
  unfolding unrun_from
  from_here h e = rw (turn h) (passes _ _ e)

  -- none is left
  pub from_end : last < at → unrun_from bytes at (last + 1 - at) ≡ []
  unfolding unrun_from
  from_end h = let e : last + 1 - at ≡ 0 = omega (arith, h) in rw e

-- "the first address in a range that never ran"
pub record Least (bytes : List ℕ) (first last a : ℕ) : Type 0 where
  pub from : first ≤ a
  pub to : a ≤ last
  pub unrun : has_run bytes a ≡ false
  pub earlier : (b : ℕ) → first ≤ b → b < a → has_run bytes b ≡ true

-- .. "or none (as for a backward range)"
abbrev pub AllRan : List ℕ → ℕ → ℕ → Type 0
AllRan bytes first last = (b : ℕ) → first ≤ b → b ≤ last → has_run bytes b ≡ true

-- the first of the full search, and what it says
abbrev found_in : List ℕ → ℕ → ℕ → Option ℕ
found_in bytes first last = first_of (unrun_from bytes first (last + 1 - first))

abbrev Told : List ℕ → ℕ → ℕ → Option ℕ → Type 0
Told bytes first last None = AllRan bytes first last
Told bytes first last (Some a) = Least bytes first last a

module _ (bytes : List ℕ) (last : ℕ) where
  -- an address that ran, in front
  ran_first : (at : ℕ) (P : ℕ → Type 0) → has_run bytes at ≡ true → ((b : ℕ) → at + 1 ≤ b → P b → has_run bytes b ≡ true)
      → (b : ℕ) → at ≤ b → P b → has_run bytes b ≡ true
  ran_first at P e rest b h p = go (ℕ_discrete at b)
    where
      go : Dec (at ≡ b) → has_run bytes b ≡ true
      go (yes q) = ap (has_run bytes) (sym q) ∙ e
      go (no n) = rest b (omega (arith, h, n)) p

  on : (at : ℕ) → has_run bytes at ≡ true → (o : Option ℕ) → Told bytes (at + 1) last o → Told bytes at last o
  on at e None t = ran_first at (λ b. b ≤ last) e t
  on at e (Some a) t = record {
    from = let f = t.from in omega (arith, f);
    to = t.to;
    unrun = t.unrun;
    earlier = ran_first at (λ b. b < a) e t.earlier;
  }

  -- one address more, in front
  more : (at : ℕ) → at ≤ last → Told bytes (at + 1) last (found_in bytes (at + 1) last) → Told bytes at last (found_in bytes at last)
  more at h rest = by (has_run bytes at) refl
    where
      by : (t : Bool) → has_run bytes at ≡ t → Told bytes at last (found_in bytes at last)
      by true r = rw (from_more bytes at last h r) (on at r (found_in bytes (at + 1) last) rest)
      by false r = rw (from_here bytes at last h r) (record {
        from = omega arith;
        to = h;
        unrun = r;
        earlier = λ b f l. absurd (let z : ⊥ = omega (arith, f, l) in z);
      })

  -- the search's first has the words
  told : (n at : ℕ) → last + 1 - at ≡ n → Told bytes at last (found_in bytes at last)
  told zero at e = rw (from_end bytes at last (omega (arith, e))) (λ b f l. absurd (let z : ⊥ = omega (arith, e, f, l) in z))
  told (suc n) at e = more at (omega (arith, e)) (told n (at + 1) (omega (arith, e)))

  -- .. and no other answer has them
  not_both : (first a : ℕ) → AllRan bytes first last → Least bytes first last a → ⊥
  not_both first a all l = true≢false (sym (all a l.from l.to) ∙ l.unrun)

  not_below : (first a b : ℕ) → Least bytes first last a → Least bytes first last b → a < b → ⊥
  not_below first a b l m h = true≢false (sym (m.earlier a l.from h) ∙ l.unrun)

  only : (first : ℕ) (o p : Option ℕ) → Told bytes first last o → Told bytes first last p → o ≡ p
  only first None None t u = refl
  only first None (Some b) t u = absurd (not_both first b t u)
  only first (Some a) None t u = absurd (not_both first a u t)
  only first (Some a) (Some b) t u =
      let m = not_below first a b t u in
      let n = not_below first b a u t in
      let e : a ≡ b = omega (arith, m, n) in
      ap Some e

module _ (bytes : List ℕ) (first last : ℕ) where
  first_told : Told bytes first last (found_in bytes first last)
  first_told = told bytes last (last + 1 - first) first refl

  answer_right : length bytes ≡ 8192 → unrun_answer bytes first last ≡ gives (found_in bytes first last)
  unfolding unrun_answer
  answer_right e = picks _ _ (eq-eqb _ _ e)

  answer_wrong : (length bytes ≡ 8192 → ⊥) → unrun_answer bytes first last ≡ replies 15
  unfolding unrun_answer
  answer_wrong n = passes _ _ (ne_eqb _ _ n)

  -- an answer that is given is the search's, of a map of the right length
  gives_right : (o : Option ℕ) → unrun_answer bytes first last ≡ gives o → (length bytes ≡ 8192) × (found_in bytes first last ≡ o)
  gives_right o e = go (ℕ_discrete (length bytes) 8192)
    where
      go : Dec (length bytes ≡ 8192) → (length bytes ≡ 8192) × (found_in bytes first last ≡ o)
      go (yes h) = let r = answer_right h in (h, cc)
      go (no n) = let r = answer_wrong n in apart cc

  given : (o : Option ℕ) → (unrun_answer bytes first last ≡ gives o) ↔ ((length bytes ≡ 8192) × Told bytes first last o)
  given o = (
    λ e. let g = gives_right o e in (g.0, subst (Told bytes first last) g.1 first_told),
    λ w. answer_right w.0 ∙ ap gives (only bytes last first (found_in bytes first last) o first_told w.1),
  )

  -- an address is given exactly where it is the least of the range that never ran
  pub gives_least : (a : ℕ) → (unrun_answer bytes first last ≡ gives (Some a)) ↔ ((length bytes ≡ 8192) × Least bytes first last a)
  gives_least a = given (Some a)

  -- none is given exactly where every address of the range ran
  pub gives_none : (unrun_answer bytes first last ≡ gives None) ↔ ((length bytes ≡ 8192) × AllRan bytes first last)
  gives_none = given None

  -- 15 exactly for a wrong length
  pub replies_wrong : (unrun_answer bytes first last ≡ replies 15) ↔ (length bytes ≡ 8192 → ⊥)
  replies_wrong = (λ e h. let r = answer_right h in apart cc, answer_wrong)

-- a backward range
pub backward : (bytes : List ℕ) (first last : ℕ) → length bytes ≡ 8192 → last < first → unrun_answer bytes first last ≡ gives None
backward bytes first last e h = (gives_none bytes first last).1 (e, λ b f l. absurd (let z : ⊥ = omega (arith, h, f, l) in z))
