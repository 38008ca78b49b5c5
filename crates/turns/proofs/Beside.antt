-- Two loops side by side, of any states and results: Q relates the states of the one to those of the other, E the results. Two loops whose
-- turns keep a relation end related. Assumes nothing.
use Prim.Native.Nat.{ℕ, zero, suc, ◌+◌, ◌<◌}
use native.Mathlib.Omega.{arith}
use mathlib.Core.Path.{◌≡◌, refl}
use Rattle.turns.specs.Turn.{Turn, more, done, loop_of}
use Rattle.turns.proofs.Laws.{loop_more, loop_done}

-- both turns go on to related states, or both are the last with related results
abbrev pub Both : {S R S' R' : Type 0} → (S → S' → Type 0) → (R → R' → Type 0) → Turn S R → Turn S' R' → Type 0
Both Q E (more s) (more t) = Q s t
Both Q E (more s) (done b) = ⊥
Both Q E (done a) (more t) = ⊥
Both Q E (done a) (done b) = E a b

-- What the turns x from s and y from t come to: both are taken, or one of them alone while the other loop stands.
pub data Beside {S R S' R' : Type 0} (Q : S → S' → Type 0) (E : R → R' → Type 0) (s : S) (t : S') (x : Turn S R) (y : Turn S' R') : Type 0 where
  both_taken : Both Q E x y → Beside Q E s t x y
  first_alone : (u : S) → x ≡ more u → Q u t → Beside Q E s t x y
  second_alone : (u : S') → y ≡ more u → Q s u → Beside Q E s t x y

module _ {S R S' R' : Type 0}
    (turn : S → Turn S R) (out : S → R) (μ : S → ℕ) (falls : (s u : S) → turn s ≡ more u → μ u < μ s)
    (turn' : S' → Turn S' R') (out' : S' → R') (μ' : S' → ℕ) (falls' : (t u : S') → turn' t ≡ more u → μ' u < μ' t)
    (Q : S → S' → Type 0) (E : R → R' → Type 0) where
  abbrev Ends : S → S' → Type 0
  Ends s t = E (loop_of turn out μ s) (loop_of turn' out' μ' t)

  module _ (keeps : (s : S) (t : S') → Q s t → Beside Q E s t (turn s) (turn' t)) where
    ends : (f : ℕ) (s : S) (t : S') → μ s + μ' t < f → Q s t → Ends s t
    ends zero s t l q = absurd (let z : ⊥ = omega arith in z)
    ends (suc f) s t l q = by (λ s t. ends f s t) (keeps s t q)
      where
        pair : ((s : S) (t : S') → μ s + μ' t < f → Q s t → Ends s t)
            → (x : Turn S R) (y : Turn S' R') → turn s ≡ x → turn' t ≡ y → Both Q E x y → Ends s t
        pair ih (more u) (more v) d e b =
            let h : μ u < μ s = falls s u d in
            let k : μ' v < μ' t = falls' t v e in
            rw (loop_more turn out μ falls d, loop_more turn' out' μ' falls' e) (ih u v (omega arith) b)
        pair ih (more u) (done b) d e n = absurd n
        pair ih (done a) (more v) d e n = absurd n
        pair ih (done a) (done b) d e n = rw (loop_done turn out μ falls d, loop_done turn' out' μ' falls' e) n

        by : ((s : S) (t : S') → μ s + μ' t < f → Q s t → Ends s t) → Beside Q E s t (turn s) (turn' t) → Ends s t
        by ih (both_taken b) = pair ih (turn s) (turn' t) refl refl b
        by ih (first_alone u d k) =
            let h : μ u < μ s = falls s u d in
            rw (loop_more turn out μ falls d) (ih u t (omega arith) k)
        by ih (second_alone u e k) =
            let h : μ' u < μ' t = falls' t u e in
            rw (loop_more turn' out' μ' falls' e) (ih s u (omega arith) k)

    -- either loop may take turns that the other does not: the measures see to it that there are only so many
    pub loop_stutters : (s : S) (t : S') → Q s t → E (loop_of turn out μ s) (loop_of turn' out' μ' t)
    loop_stutters s t q = ends (suc (μ s + μ' t)) s t (omega arith) q

  -- turn by turn
  pub loop_beside : ((s : S) (t : S') → Q s t → Both Q E (turn s) (turn' t))
      → (s : S) (t : S') → Q s t → E (loop_of turn out μ s) (loop_of turn' out' μ' t)
  loop_beside keeps = loop_stutters (λ s t q. both_taken (keeps s t q))
