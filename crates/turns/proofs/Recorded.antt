-- A loop that carries what its turns did ends as the loop does, with the rows of all its turns; with limited room, so or cut off before the
-- first turn whose rows do not fit. Assumes nothing.
use Prim.Native.Nat.{ℕ, zero, suc, ◌+◌, ◌≤◌, ◌<◌}
use native.Mathlib.Omega.{arith}
use mathlib.Core.Path.{◌≡◌, refl, sym, ap, subst, ◌∙◌}
use mathlib.Core.Bool.{Bool, true, false, cond}
use mathlib.Core.List.{List, [], ◌∷◌, ◌++◌, append_assoc, append-nil}
use lib.Dec.{leb}
use lib.ListN.{length, take, length-append}
use lib.Seq.{take_at}
use borrow.Author.Tests.{leb-true, leb-false}
use Rattle.turns.specs.Turn.{Turn, more, done, Then, loop_of}
use Rattle.turns.specs.Recorded.{onward, visits, path_of, all_of, rows_of, Listed, listed, with_rows}
use Rattle.turns.specs.Recorded.{recorded_turn, recorded_of, roomy_turn, roomy_of, total}
use Rattle.turns.proofs.Beside.{Both}
use Rattle.turns.proofs.Laws.{same_more, apart, then_more, then_done, loop_more, loop_done, loop_induction}

-- How a loop with room for so many rows ends where the room does, the loop itself having the rows `whole` and the result `end`: before the turn from `at`, whose
-- rows no longer fit, with the rows of the turns before; and from there on, with new room, it is the loop as if uncut.
pub record CutOff {S R A : Type 0} (turn : S → Turn S R) (out : S → R) (μ : S → ℕ) (did : S → List A) (stop : S → R) (room : ℕ)
    (whole : List A) (end : R) (e : Listed A R) : Type 0 where
  pub at : S
  pub result : e.value ≡ stop at
  pub fits : length e.rows ≤ room
  pub over : room < length e.rows + length (did at)
  pub rest : whole ≡ e.rows ++ rows_of turn μ did at
  pub onwards : end ≡ loop_of turn out μ at

-- sums
pub total_append : {A : Type 0} (part : A → ℕ) (l m : List A) → total part (l ++ m) ≡ total part l + total part m
total_append part [] m = omega arith
total_append part (x ∷ l) m = let h = total_append part l m in omega arith

pub total_last : {A : Type 0} (part : A → ℕ) (l : List A) (x : A) → total part (l ++ x ∷ []) ≡ total part l + part x
total_last part l x = let h = total_append part l (x ∷ []) in omega arith

pub total_ones : {A : Type 0} (l : List A) → total (λ x. 1) l ≡ length l
total_ones [] = refl
total_ones (x ∷ l) = let h = total_ones l in omega arith

module _ {S R : Type 0} (turn : S → Turn S R) (out : S → R) (μ : S → ℕ)
    (falls : (s t : S) → turn s ≡ more t → μ t < μ s) where
  -- the path of a loop
  visits_same : (f g : ℕ) (s : S) → μ s < f → μ s < g → visits turn f s ≡ visits turn g s
  unfolding visits
  visits_same zero g s p q = absurd (let z : ⊥ = omega arith in z)
  visits_same (suc f) zero s p q = absurd (let z : ⊥ = omega arith in z)
  visits_same (suc f) (suc g) s p q = ap (λ (l : List S). s ∷ l) (by (λ t. visits_same f g t) (turn s) refl)
    where
      by : ((t : S) → μ t < f → μ t < g → visits turn f t ≡ visits turn g t)
          → (x : Turn S R) → turn s ≡ x → onward x (λ t. visits turn f t) ≡ onward x (λ t. visits turn g t)
      by ih (more t) e = let h : μ t < μ s = falls s t e in ih t (omega arith) (omega arith)
      by ih (done r) e = refl

  pub path_more : {s t : S} → turn s ≡ more t → path_of turn μ s ≡ s ∷ path_of turn μ t
  unfolding path_of visits
  path_more {s} {t} e =
      ap (λ (l : List S). s ∷ l)
      (ap (λ (x : Turn S R). onward x (λ t. visits turn (μ s) t)) e ∙ visits_same (μ s) (suc (μ t)) t (falls s t e) (omega arith))

  pub path_done : {s : S} {r : R} → turn s ≡ done r → path_of turn μ s ≡ s ∷ []
  unfolding path_of visits
  path_done {s} e = ap (λ (x : Turn S R). s ∷ onward x (λ t. visits turn (μ s) t)) e

  module _ {A : Type 0} (did : S → List A) where
    abbrev loop : S → R
    loop = loop_of turn out μ

    abbrev rows : S → List A
    rows = rows_of turn μ did

    -- the rows of a loop
    pub rows_more : {s t : S} → turn s ≡ more t → rows_of turn μ did s ≡ did s ++ rows_of turn μ did t
    unfolding rows_of
    rows_more e = ap (all_of did) (path_more e)

    pub rows_done : {s : S} {r : R} → turn s ≡ done r → rows_of turn μ did s ≡ did s
    unfolding rows_of
    rows_done {s} e = ap (all_of did) (path_done e) ∙ append-nil (did s)

    -- with l before them
    pub before_more : (l : List A) {s t : S} → turn s ≡ more t → l ++ rows s ≡ (l ++ did s) ++ rows t
    before_more l {s} {t} e = ap (λ (m : List A). l ++ m) (rows_more e) ∙ sym (append_assoc l (did s) (rows t))

    pub before_done : (l : List A) {s : S} {r : R} → turn s ≡ done r → l ++ rows s ≡ l ++ did s
    before_done l e = ap (λ (m : List A). l ++ m) (rows_done e)

    -- what each turn keeps, of the rows so far and the state, the end has, of all rows and the result
    pub rows_keep : (P : List A → S → Type 0) (Q : List A → R → Type 0)
        → ((l : List A) (s : S) → P l s → Then (P (l ++ did s)) (Q (l ++ did s)) (turn s))
        → (l : List A) (s : S) → P l s → Q (l ++ rows_of turn μ did s) (loop_of turn out μ s)
    rows_keep P Q keeps l s p =
        loop_induction turn out μ falls (λ s. (l : List A) → P l s → Q (l ++ rows s) (loop s))
        (λ s t e ih l p.
        rw (before_more l e, loop_more turn out μ falls e) (ih (l ++ did s) (then_more (P (l ++ did s)) (Q (l ++ did s)) e (keeps l s p))))
        (λ s r e l p.
        rw (before_done l e, loop_done turn out μ falls e) (then_done (P (l ++ did s)) (Q (l ++ did s)) e (keeps l s p)))
        s l p

    -- a count that each turn raises by the sum of its rows is raised by the sum of all rows
    pub rows_counted : (part : A → ℕ) (before : S → ℕ) (after : R → ℕ)
        → ((s : S) → Then (λ t. before t ≡ before s + total part (did s)) (λ r. after r ≡ before s + total part (did s)) (turn s))
        → (s : S) → after (loop_of turn out μ s) ≡ before s + total part (rows_of turn μ did s)
    rows_counted part before after counts s =
        rows_keep (λ l t. before t ≡ before s + total part l) (λ l r. after r ≡ before s + total part l)
        (λ l t h. by l t h (turn t) (counts t))
        [] s (let z : before s ≡ before s + 0 = omega arith in z)
      where
        by : (l : List A) (t : S) → before t ≡ before s + total part l → (x : Turn S R)
            → Then (λ u. before u ≡ before t + total part (did t)) (λ r. after r ≡ before t + total part (did t)) x
            → Then (λ u. before u ≡ before s + total part (l ++ did t)) (λ r. after r ≡ before s + total part (l ++ did t)) x
        by l t h (more u) k = let a = total_append part l (did t) in omega (arith, a, h, k)
        by l t h (done r) k = let a = total_append part l (did t) in omega (arith, a, h, k)

    -- the loop with its rows beside
    pub recorded_falls : (p q : Listed A S) → recorded_turn turn did p ≡ more q → μ q.value < μ p.value
    unfolding recorded_turn
    recorded_falls p q = by (turn p.value) refl
      where
        by : (x : Turn S R) → turn p.value ≡ x → with_rows (p.rows ++ did p.value) x ≡ more q → μ q.value < μ p.value
        by (more t) d e = subst (λ (z : Listed A S). μ z.value < μ p.value) (same_more _ _ e) (falls p.value t d)
        by (done r) d e = absurd (apart _ _ (sym e))

    recorded_from : (s : S) (l : List A)
        → loop_of (recorded_turn turn did) (λ p. listed p.rows (out p.value)) (λ p. μ p.value) (listed l s) ≡ listed (l ++ rows s) (loop s)
    unfolding recorded_turn
    recorded_from =
        loop_induction turn out μ falls
        (λ s. (l : List A) → loop_of (recorded_turn turn did) (λ p. listed p.rows (out p.value)) (λ p. μ p.value) (listed l s) ≡ listed (l ++ rows s) (loop s))
        (λ s t e ih l.
        loop_more (recorded_turn turn did) _ _ recorded_falls (ap (with_rows (l ++ did s)) e)
        ∙ ih (l ++ did s)
        ∙ sym (rw (before_more l e, loop_more turn out μ falls e)))
        (λ s r e l.
        loop_done (recorded_turn turn did) _ _ recorded_falls (ap (with_rows (l ++ did s)) e)
        ∙ sym (rw (before_done l e, loop_done turn out μ falls e)))

    -- it ends as the loop, with the rows of all turns
    pub recorded : (s : S) → recorded_of turn out μ did s ≡ listed (rows_of turn μ did s) (loop_of turn out μ s)
    unfolding recorded_of
    recorded s = recorded_from s []

    -- with limited room
    module _ (stop : S → R) (room : ℕ) where
      abbrev roomy : Listed A S → Listed A R
      roomy = loop_of (roomy_turn turn did stop room) (λ p. listed p.rows (out p.value)) (λ p. μ p.value)

      abbrev Cut : List A → R → Listed A R → Type 0
      Cut = CutOff turn out μ did stop room

      -- a turn: its rows fit and it goes on, they fit and it is the last, they do not fit
      pub fits_on : (l : List A) {s t : S} → leb (length (l ++ did s)) room ≡ true → turn s ≡ more t
          → roomy_turn turn did stop room (listed l s) ≡ more (listed (l ++ did s) t)
      unfolding roomy_turn recorded_turn
      fits_on l b e = rw (b, e)

      pub fits_last : (l : List A) {s : S} {r : R} → leb (length (l ++ did s)) room ≡ true → turn s ≡ done r
          → roomy_turn turn did stop room (listed l s) ≡ done (listed (l ++ did s) r)
      unfolding roomy_turn recorded_turn
      fits_last l b e = rw (b, e)

      pub full : (l : List A) {s : S} → leb (length (l ++ did s)) room ≡ false
          → roomy_turn turn did stop room (listed l s) ≡ done (listed l (stop s))
      unfolding roomy_turn
      full l b = rw (b)

      pub roomy_falls : (p q : Listed A S) → roomy_turn turn did stop room p ≡ more q → μ q.value < μ p.value
      unfolding roomy_turn
      roomy_falls p q = by (leb (length (p.rows ++ did p.value)) room)
        where
          by : (b : Bool) → cond b (recorded_turn turn did p) (done (listed p.rows (stop p.value))) ≡ more q → μ q.value < μ p.value
          by true e = recorded_falls p q e
          by false e = absurd (apart _ _ (sym e))

      -- from the rows l and the state s: the whole, or a cut
      record Ends (l : List A) (s : S) : Type 0 where
        whole : length (l ++ rows s) ≤ room → roomy (listed l s) ≡ listed (l ++ rows s) (loop s)
        cut : room < length (l ++ rows s) → Cut (l ++ rows s) (loop s) (roomy (listed l s))

      -- no room for the rows of the turn from s, which `tail` follow
      over : (l tail : List A) (s : S) → length l ≤ room → leb (length (l ++ did s)) room ≡ false → l ++ rows s ≡ (l ++ did s) ++ tail → Ends l s
      over l tail s h b e =
          let k : room < length (l ++ did s) = leb-false _ _ b in
          let a = length-append (l ++ did s) tail in
          let d = length-append l (did s) in
          let z : room < length (l ++ rows s) = rw (e) (let y : room < length ((l ++ did s) ++ tail) = omega (arith, k, a) in y) in
          record {
            whole = λ w. absurd (let y : ⊥ = omega (arith, w, z) in y);
            cut = λ w.
                rw (loop_done (roomy_turn turn did stop room) _ _ roomy_falls (full l b))
                (record { at = s; result = refl; fits = h; over = omega (arith, k, d); rest = refl; onwards = refl });
          }

      roomy_from : (s : S) (l : List A) → length l ≤ room → Ends l s
      roomy_from =
          loop_induction turn out μ falls (λ s. (l : List A) → length l ≤ room → Ends l s)
          (λ s t e ih l h. on s t e ih l h (leb (length (l ++ did s)) room) refl)
          (λ s r e l h. off s r e l h (leb (length (l ++ did s)) room) refl)
        where
          on : (s t : S) → turn s ≡ more t → ((l : List A) → length l ≤ room → Ends l t) → (l : List A) → length l ≤ room
              → (b : Bool) → leb (length (l ++ did s)) room ≡ b → Ends l s
          on s t e ih l h true b =
              let k = ih (l ++ did s) (leb-true _ _ b) in
              let q : roomy (listed l s) ≡ roomy (listed (l ++ did s) t) = loop_more (roomy_turn turn did stop room) _ _ roomy_falls (fits_on l b e) in
              record {
                whole = rw (q, before_more l e, loop_more turn out μ falls e) k.whole;
                cut = rw (q, before_more l e, loop_more turn out μ falls e) k.cut;
              }
          on s t e ih l h false b = over l (rows t) s h b (before_more l e)

          off : (s : S) (r : R) → turn s ≡ done r → (l : List A) → length l ≤ room → (b : Bool) → leb (length (l ++ did s)) room ≡ b → Ends l s
          off s r e l h true b =
              let q : roomy (listed l s) ≡ listed (l ++ did s) r = loop_done (roomy_turn turn did stop room) _ _ roomy_falls (fits_last l b e) in
              record {
                whole = λ w. q ∙ sym (rw (before_done l e, loop_done turn out μ falls e));
                cut = λ w.
                    let k : length (l ++ did s) ≤ room = leb-true _ _ b in
                    let v : room < length (l ++ did s) = rw (← before_done l e) w in
                    absurd (let y : ⊥ = omega (arith, k, v) in y);
              }
          off s r e l h false b = over l [] s h b (before_done l e ∙ sym (append-nil (l ++ did s)))

      -- room enough: as without limit
      pub roomy_whole : (s : S) → length (rows_of turn μ did s) ≤ room → roomy_of turn out μ did stop room s ≡ listed (rows_of turn μ did s) (loop_of turn out μ s)
      unfolding roomy_of
      roomy_whole s h = (roomy_from s [] (omega arith)).whole h

      -- else cut off
      pub roomy_cut : (s : S) → room < length (rows_of turn μ did s)
          → CutOff turn out μ did stop room (rows_of turn μ did s) (loop_of turn out μ s) (roomy_of turn out μ did stop room s)
      unfolding roomy_of
      roomy_cut s h = (roomy_from s [] (omega arith)).cut h

      -- where no turn has more than one row, the cut has the first rows, as many as there is room for
      pub roomy_first : ((s : S) → length (did s) ≤ 1) → (s : S) → room < length (rows_of turn μ did s)
          → (roomy_of turn out μ did stop room s).rows ≡ take room (rows_of turn μ did s)
      roomy_first one s h =
          let c = roomy_cut s h in
          let k = one c.at in
          let e = roomy_of turn out μ did stop room s in
          let f = c.fits in
          let o = c.over in
          rw c.rest (sym (take_at e.rows (rows_of turn μ did c.at) room (omega (arith, k, f, o))))

-- two loops side by side whose related states have the same rows
module _ {S R S' R' A : Type 0}
    (turn : S → Turn S R) (out : S → R) (μ : S → ℕ) (falls : (s u : S) → turn s ≡ more u → μ u < μ s)
    (turn' : S' → Turn S' R') (out' : S' → R') (μ' : S' → ℕ) (falls' : (t u : S') → turn' t ≡ more u → μ' u < μ' t)
    (Q : S → S' → Type 0) (E : R → R' → Type 0) (did : S → List A) (did' : S' → List A) where
  pub rows_beside : ((s : S) (t : S') → Q s t → Both Q E (turn s) (turn' t)) → ((s : S) (t : S') → Q s t → did s ≡ did' t)
      → (s : S) (t : S') → Q s t → rows_of turn μ did s ≡ rows_of turn' μ' did' t
  rows_beside keeps same =
      loop_induction turn out μ falls (λ s. (t : S') → Q s t → rows_of turn μ did s ≡ rows_of turn' μ' did' t)
      (λ s u d ih t q. on s u d ih t q (turn' t) refl (subst (λ (x : Turn S R). Both Q E x (turn' t)) d (keeps s t q)))
      (λ s a d t q. off s a d t q (turn' t) refl (subst (λ (x : Turn S R). Both Q E x (turn' t)) d (keeps s t q)))
    where
      on : (s u : S) → turn s ≡ more u → ((t : S') → Q u t → rows_of turn μ did u ≡ rows_of turn' μ' did' t)
          → (t : S') → Q s t → (y : Turn S' R') → turn' t ≡ y → Both Q E (more u) y → rows_of turn μ did s ≡ rows_of turn' μ' did' t
      on s u d ih t q (more v) e b =
          rw (rows_more turn out μ falls did d, rows_more turn' out' μ' falls' did' e, same s t q, ih v b)
      on s u d ih t q (done r) e b = absurd b

      off : (s : S) (a : R) → turn s ≡ done a → (t : S') → Q s t
          → (y : Turn S' R') → turn' t ≡ y → Both Q E (done a) y → rows_of turn μ did s ≡ rows_of turn' μ' did' t
      off s a d t q (more v) e b = absurd b
      off s a d t q (done r) e b = rows_done turn out μ falls did d ∙ same s t q ∙ sym (rows_done turn' out' μ' falls' did' e)
