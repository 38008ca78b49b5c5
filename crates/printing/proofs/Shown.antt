-- A text shorter than 256 bytes is shown whole; a decimal number has at most 20 digits, a hexadecimal one as many as asked.
-- Assumes nothing.
use Prim.Native.Nat.{ℕ, zero, suc, ◌+◌, ◌/◌, ◌%◌, ◌≤◌, ◌<◌}
use native.Mathlib.Omega.{arith}
use mathlib.Core.List.{List, [], ◌∷◌, ◌++◌}
use mathlib.Core.Bool.{Bool, true, false, cond}
use mathlib.Core.Path.{◌≡◌, refl, sym, ap, ◌∙◌}
use lib.ListN.{length, length-append, length-set, length-replicate}
use lib.Seq.{take-suc-set, append_snoc}
use lib.Dec.{ltb}
use borrow.Author.Tests.{lt-ltb}
use Rattle.printing.specs.Printing.{empty_line, put_of, puts_of, shown, digit_of, decimal_from, decimal_of, hexadecimal_of}
use Rattle.printing.specs.declared.Line.{Line}

append_none : (l : List ℕ) → l ++ [] ≡ l
append_none [] = refl
append_none (x ∷ l) = ap (λ (r : List ℕ). x ∷ r) (append_none l)

-- a byte more, where there is room
put_shown : (l : Line) (b : ℕ) → length l.bytes ≡ 256 → l.length + 1 < 256 → shown (put_of l b) ≡ shown l ++ (b ∷ [])
put_shown l b e h =
    let m : (l.length + 1) % 256 ≡ suc l.length = omega arith in
    rw m (take-suc-set l.bytes l.length b (omega (arith, e, h)))

-- a text more, where there is room
puts_shown : (text : List ℕ) (l : Line) → length l.bytes ≡ 256 → l.length + length text < 256 → shown (puts_of l text) ≡ shown l ++ text
unfolding puts_of
puts_shown [] l e h = sym (append_none (shown l))
puts_shown (b ∷ text) l e h =
    puts_shown text (put_of l b) (length-set l.bytes l.length b ∙ e) (omega (arith, h))
    ∙ ap (λ (r : List ℕ). r ++ text) (put_shown l b e (omega (arith, h)))
    ∙ append_snoc (shown l) b text

pub shown_whole : (text : List ℕ) → length text < 256 → shown (puts_of empty_line text) ≡ text
shown_whole text h = puts_shown text empty_line (length-replicate {A = ℕ} 256 0) (omega (arith, h))

-- a text of at most so many bytes
pub record Short (n : ℕ) (text : List ℕ) : Type 0 where
  pub most : length text ≤ n

infixl 50 ◌then◌
pub ◌then◌ : {m n : ℕ} {a b : List ℕ} → Short m a → Short n b → Short (m + n) (a ++ b)
◌then◌ {a} {b} p q = record { most = let e = length-append a b in let k = p.most in let l = q.most in omega (arith, e, k, l) }

decimal_most : (f n : ℕ) → length (decimal_from f n) ≤ f
unfolding decimal_from
decimal_most zero n = omega arith
decimal_most (suc f) n =
    let e = length-append (cond (ltb n 10) [] (decimal_from f (n / 10))) (digit_of (n % 10) ∷ []) in
    let h = by (decimal_most f (n / 10)) (ltb n 10) in
    omega (arith, e, h)
  where
    by : length (decimal_from f (n / 10)) ≤ f → (t : Bool) → length (cond t [] (decimal_from f (n / 10))) ≤ f
    by h true = omega arith
    by h false = h

pub decimal_short : (n : ℕ) → Short 20 (decimal_of n)
decimal_short n = record { most = decimal_most 20 n }

-- and below 10 one digit
pub one_digit : (k : ℕ) → k ≤ 9 → decimal_of k ≡ digit_of (k % 10) ∷ []
unfolding decimal_from
one_digit k h = rw (lt-ltb k 10 (omega (arith, h)))

pub digit_short : (k : ℕ) → k ≤ 9 → Short 1 (decimal_of k)
digit_short k h = record { most = let e = ap length (one_digit k h) in omega (arith, e) }

hexadecimal_long : (k n : ℕ) → length (hexadecimal_of k n) ≡ k
hexadecimal_long zero n = refl
hexadecimal_long (suc k) n =
    let e = length-append (hexadecimal_of k (n / 16)) (digit_of (n % 16) ∷ []) in
    let h = hexadecimal_long k (n / 16) in
    omega (arith, e, h)

pub hexadecimal_short : (k n : ℕ) → Short k (hexadecimal_of k n)
hexadecimal_short k n = record { most = let h = hexadecimal_long k n in omega (arith, h) }

-- a text is as short as it is
pub short : (text : List ℕ) → Short (length text) text
short text = record { most = omega arith }
