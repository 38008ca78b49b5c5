-- The laws of a line: texts put one after the other, and the kit's digits are the definitions'. Assumes nothing.
use Prim.Native.Nat.{ℕ, zero, suc, ◌+◌, ◌/◌, ◌%◌, ◌^◌, ◌≤◌, ◌<◌}
use native.Mathlib.Nat.{pow-suc, pow-le-pow_right}
use native.Mathlib.Numerals.{add-one, sub-one}
use native.Mathlib.Omega.{arith}
use mathlib.Core.List.{List, [], ◌∷◌, ◌++◌}
use mathlib.Core.Bool.{Bool, true, false}
use mathlib.Core.Path.{◌≡◌, refl, sym, ap, subst, ◌∙◌}
use lib.ListN.{length, get_or, drop, drop_of_length-le}
use lib.Seq.{drop-cons}
use lib.Dec.{ltb}
use borrow.Author.Tests.{lt-ltb, le-ltb, ltb-true, ltb-false}
use Rattle.io.specs.Digits.{hex_digit_ascii, last_digits, IsDigitCount}
use Rattle.printing.specs.Printing.{put_of, puts_of, digit_of, decimal_from, decimal_of, hexadecimal_of}
use Rattle.printing.specs.declared.Line.{Line}

-- two texts are one
pub puts_both : (l : Line) (a b : List ℕ) → puts_of (puts_of l a) b ≡ puts_of l (a ++ b)
unfolding puts_of
puts_both l [] b = refl
puts_both l (x ∷ a) b = puts_both (put_of l x) a b

-- a text, and then another
pub puts_then : (l : Line) {m r : Line} (a b : List ℕ) → m ≡ puts_of l a → r ≡ puts_of m b → r ≡ puts_of l (a ++ b)
puts_then l a b e f = f ∙ ap (λ (x : Line). puts_of x b) e ∙ puts_both l a b

-- a text put byte by byte
pub puts_more : (text : List ℕ) (l : Line) (i : ℕ) → i < length text
    → puts_of l (drop i text) ≡ puts_of (put_of l (get_or text i 0)) (drop (i + 1) text)
unfolding puts_of
puts_more text l i h =
    ap (λ (t : List ℕ). puts_of l t) (drop-cons text i 0 h)
    ∙ ap (λ (k : ℕ). puts_of (put_of l (get_or text i 0)) (drop k text)) (sym (add-one i))

-- a byte put, and the rest of the text: what is left of the loop
pub puts_turn : (text : List ℕ) (l : Line) (i : ℕ) {m r : Line} → i < length text → r ≡ puts_of l (drop i text)
    → m ≡ put_of l (get_or text i 0) → r ≡ puts_of m (drop (i + 1) text)
puts_turn text l i h e p = e ∙ puts_more text l i h ∙ ap (λ (m : Line). puts_of m (drop (i + 1) text)) (sym p)

pub puts_all : (text : List ℕ) (l : Line) (i : ℕ) → length text ≤ i → puts_of l (drop i text) ≡ l
unfolding puts_of
puts_all text l i h = ap (λ (t : List ℕ). puts_of l t) (drop_of_length-le text h)

last_digit : (n : ℕ) → hex_digit_ascii (n % 10) ≡ digit_of (n % 10)
last_digit n = rw (lt-ltb (n % 10) 10 (omega arith))

ten_pos : (k : ℕ) → 0 < 10 ^ k
ten_pos zero = omega arith
ten_pos (suc k) = let h = ten_pos k in let e = pow-suc 10 k in omega arith

-- k + 1 digits that are the fewest, of at most f
fewest : (k f n : ℕ) → k < f → n < 10 ^ suc k → (0 < k → 10 ^ k ≤ n) → last_digits 10 (suc k) n ≡ decimal_from f n
unfolding decimal_from
fewest k zero n l h m = absurd (let z : ⊥ = omega arith in z)
fewest zero (suc f) n l h m = rw (lt-ltb n 10 h, last_digit n)
fewest (suc k) (suc f) n l h m =
    let e = pow-suc 10 (suc k) in
    let d = pow-suc 10 k in
    let o = ten_pos k in
    let t : 10 ^ suc k ≤ n = m (omega arith) in
    rw (le-ltb n 10 (omega arith), last_digit n)
    (ap (λ (x : List ℕ). x ++ (digit_of (n % 10) ∷ [])) (fewest k f (n / 10) (omega arith) (omega arith) (λ p. omega arith)))

pub decimal_digits : (n r : ℕ) → n < 2 ^ 64 → IsDigitCount 10 1 n r → last_digits 10 r n ≡ decimal_of n
decimal_digits n zero l (a, b, c) = absurd (let z : ⊥ = omega arith in z)
decimal_digits n (suc k) l (a, b, c) = fewest k 20 n (few (ltb k 20) refl) b most
  where
    most : 0 < k → 10 ^ k ≤ n
    most p = subst (λ (j : ℕ). 10 ^ j ≤ n) (sub-one (suc k)) (c (omega arith))

    few : (t : Bool) → ltb k 20 ≡ t → k < 20
    few true e = ltb-true k 20 e
    few false e =
        let h = ltb-false k 20 e in
        let m = most (omega arith) in
        let g = pow-le-pow_right {n = 10} (omega arith) h in
        absurd (let z : ⊥ = omega arith in z)

-- a byte's two digits, and a word's four
byte_digits : (v : ℕ) → v < 256 → digit_of (v / 16) ∷ digit_of (v % 16) ∷ [] ≡ hexadecimal_of 2 v
byte_digits v h = let e : v / 16 % 16 ≡ v / 16 = omega arith in rw e

pub puts_byte : (l : Line) (v : ℕ) → v < 256 → put_of (put_of l (digit_of (v / 16))) (digit_of (v % 16)) ≡ puts_of l (hexadecimal_of 2 v)
unfolding puts_of
puts_byte l v h = ap (λ (t : List ℕ). puts_of l t) (byte_digits v h)

pub word_digits : (v : ℕ) → hexadecimal_of 2 (v / 256) ++ hexadecimal_of 2 (v % 256) ≡ hexadecimal_of 4 v
word_digits v =
    let a : v / 256 / 16 % 16 ≡ v / 16 / 16 / 16 % 16 = omega arith in
    let b : v / 256 % 16 ≡ v / 16 / 16 % 16 = omega arith in
    let c : v % 256 / 16 % 16 ≡ v / 16 % 16 = omega arith in
    let d : v % 256 % 16 ≡ v % 16 = omega arith in
    rw (a, b, c, d)
