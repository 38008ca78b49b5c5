-- The laws of two loops and of what a loop did, used on small loops. Assumes nothing.
use Prim.Native.Nat.{ℕ, zero, suc, ◌+◌, ◌≤◌, ◌<◌}
use native.Mathlib.Omega.{arith}
use mathlib.Core.Path.{◌≡◌, refl, sym, subst, ◌∙◌}
use mathlib.Core.List.{List, [], ◌∷◌}
use lib.ListN.{length, take}
use Rattle.turns.specs.Turn.{Turn, more, done, Then, turns, loop_of}
use Rattle.turns.specs.Recorded.{rows_of, listed, recorded_turn, recorded_of, roomy_turn, roomy_of, total}
use Rattle.turns.proofs.Beside.{Both, Beside, both_taken, first_alone, loop_beside, loop_stutters}
use Rattle.turns.proofs.Laws.{same_more, apart}
use Rattle.turns.proofs.Recorded.{total_ones, rows_counted, recorded, roomy_first}

-- It counts down by ones, and hands back how many turns went on.
record Down : Type 0 where
  left : ℕ
  passed : ℕ

abbrev down : ℕ → ℕ → Down
down left passed = record { left = left; passed = passed }

abbrev down_from : ℕ → ℕ → Turn Down ℕ
down_from zero n = done n
down_from (suc k) n = more (down k (suc n))

abbrev down_turn : Down → Turn Down ℕ
down_turn d = down_from d.left d.passed

abbrev down_of : Down → ℕ
down_of = loop_of down_turn (λ d. d.passed) (λ d. d.left)

five : down_of (down 5 0) ≡ 5
unfolding loop_of turns
five = refl

down_falls : (d e : Down) → down_turn d ≡ more e → e.left < d.left
down_falls d e = by d.left
  where
    by : (k : ℕ) → down_from k d.passed ≡ more e → e.left < k
    by zero h = absurd (apart _ _ (sym h))
    by (suc k) h = subst (λ (x : Down). x.left < suc k) (same_more _ _ h) (omega arith)

-- 1. Turn by turn: a loop that starts with a passed beside one that starts with none, as a run that goes on beside its rest.
record Ahead (a : ℕ) (d e : Down) : Type 0 where
  left : d.left ≡ e.left
  passed : d.passed ≡ a + e.passed

down_ahead : (a k : ℕ) → down_of (down k a) ≡ a + down_of (down k 0)
down_ahead a k =
    loop_beside down_turn _ _ down_falls down_turn _ _ down_falls (Ahead a) (λ m n. m ≡ a + n)
    (λ d e q. by d.left e.left d.passed e.passed q.left q.passed)
    (down k a) (down k 0) (record { left = refl; passed = omega arith })
  where
    by : (k l m n : ℕ) → k ≡ l → m ≡ a + n → Both (Ahead a) (λ m n. m ≡ a + n) (down_from k m) (down_from l n)
    by zero zero m n h e = e
    by zero (suc l) m n h e = absurd (let z : ⊥ = omega arith in z)
    by (suc k) zero m n h e = absurd (let z : ⊥ = omega arith in z)
    by (suc k) (suc l) m n h e = record { left = omega arith; passed = omega arith }

-- 2. One loop alone at times: the sum of a list beside that of the list with its zeros dropped, as a session beside the thinned one.
record Sum : Type 0 where
  ahead : List ℕ
  so_far : ℕ

abbrev sum : List ℕ → ℕ → Sum
sum ahead so_far = record { ahead = ahead; so_far = so_far }

abbrev sum_from : List ℕ → ℕ → Turn Sum ℕ
sum_from [] n = done n
sum_from (x ∷ xs) n = more (sum xs (x + n))

abbrev sum_turn : Sum → Turn Sum ℕ
sum_turn s = sum_from s.ahead s.so_far

abbrev sum_of : Sum → ℕ
sum_of = loop_of sum_turn (λ s. s.so_far) (λ s. length s.ahead)

sum_falls : (s t : Sum) → sum_turn s ≡ more t → length t.ahead < length s.ahead
sum_falls s t = by s.ahead
  where
    by : (l : List ℕ) → sum_from l s.so_far ≡ more t → length t.ahead < length l
    by [] h = absurd (apart _ _ (sym h))
    by (x ∷ l) h = subst (λ (y : Sum). length y.ahead < suc (length l)) (same_more _ _ h) (omega arith)

abbrev thinned : List ℕ → List ℕ
thinned [] = []
thinned (zero ∷ l) = thinned l
thinned (suc x ∷ l) = suc x ∷ thinned l

record Thinner (s t : Sum) : Type 0 where
  ahead : t.ahead ≡ thinned s.ahead
  so_far : s.so_far ≡ t.so_far

sum_thinned : (l : List ℕ) → sum_of (sum l 0) ≡ sum_of (sum (thinned l) 0)
sum_thinned l =
    loop_stutters sum_turn _ _ sum_falls sum_turn _ _ sum_falls Thinner (λ m n. m ≡ n)
    (λ s t q. rw q.ahead (by s.ahead s.so_far t.so_far q.so_far))
    (sum l 0) (sum (thinned l) 0) (record { ahead = refl; so_far = refl })
  where
    by : (l : List ℕ) (m n : ℕ) → m ≡ n → Beside Thinner (λ m n. m ≡ n) (sum l m) (sum (thinned l) n) (sum_from l m) (sum_from (thinned l) n)
    by [] m n e = both_taken e
    by (zero ∷ l) m n e = first_alone (sum l (0 + m)) refl (record { ahead = refl; so_far = omega arith })
    by (suc x ∷ l) m n e = both_taken (record { ahead = refl; so_far = omega arith })

-- 3. What a loop did: the number left, at each turn that goes on.
abbrev left_from : ℕ → List ℕ
left_from zero = []
left_from (suc k) = suc k ∷ []

abbrev did : Down → List ℕ
did d = left_from d.left

three : recorded_of down_turn (λ d. d.passed) (λ d. d.left) did (down 3 0) ≡ listed (3 ∷ 2 ∷ 1 ∷ []) 3
unfolding recorded_of recorded_turn loop_of turns
three = refl

two_of_three : roomy_of down_turn (λ d. d.passed) (λ d. d.left) did (λ d. 99) 2 (down 3 0) ≡ listed (3 ∷ 2 ∷ []) 99
unfolding roomy_of roomy_turn recorded_turn loop_of turns
two_of_three = refl

abbrev down_rows : ℕ → List ℕ
down_rows k = rows_of down_turn (λ d. d.left) did (down k 0)

-- the loop beside its rows is the loop
down_recorded : (k : ℕ) → recorded_of down_turn (λ d. d.passed) (λ d. d.left) did (down k 0) ≡ listed (down_rows k) (down_of (down k 0))
down_recorded k = recorded down_turn _ _ down_falls did (down k 0)

-- what it hands back is the number of its rows
down_counted : (k : ℕ) → down_of (down k 0) ≡ length (down_rows k)
down_counted k =
    rows_counted down_turn _ _ down_falls did (λ x. 1) (λ d. d.passed) (λ n. n) (λ d. by d.left d.passed) (down k 0)
    ∙ (let h = total_ones (down_rows k) in let z : 0 + total (λ x. 1) (down_rows k) ≡ length (down_rows k) = omega (arith, h) in z)
  where
    by : (k n : ℕ) → Then (λ d. d.passed ≡ n + total (λ x. 1) (left_from k)) (λ m. m ≡ n + total (λ x. 1) (left_from k)) (down_from k n)
    by zero n = omega arith
    by (suc k) n = omega arith

-- with room for fewer rows, it has the first of them
down_cut : (k room : ℕ) → room < length (down_rows k)
    → (roomy_of down_turn (λ d. d.passed) (λ d. d.left) did (λ d. 99) room (down k 0)).rows ≡ take room (down_rows k)
down_cut k room h = roomy_first down_turn _ _ down_falls did (λ d. 99) room (λ d. one d.left) (down k 0) h
  where
    one : (k : ℕ) → length (left_from k) ≤ 1
    one zero = omega arith
    one (suc k) = omega arith
