-- The laws of numbers in bytes: a number put byte by byte, bytes at the front of a lent buffer, numbers put one after the other into it, and that a
-- number is read back. Assumes nothing.
use Prim.Native.Nat.{ℕ, zero, suc, ◌+◌, ◌*◌, ◌-◌, ◌/◌, ◌%◌, ◌^◌, ◌≤◌, ◌<◌}
use native.Mathlib.Nat.{zero-add, pow-suc}
use native.Mathlib.Numerals.{add-one}
use native.Mathlib.Omega.{arith}
use mathlib.Core.List.{List, [], ◌∷◌, ◌++◌, append_assoc, append-nil}
use mathlib.Core.Path.{◌≡◌, refl, sym, ap, ◌∙◌}
use lib.ListN.{length, take, drop, set, length-append, length-drop}
use lib.Seq.{sets, sets-eq, take-suc-set, take_all, take_at, drop_at, drop-drop, length-take-le}
use Rattle.numbers.specs.Numbers.{little_endian, four_bytes, over}

pub length_little_endian : (w n : ℕ) → length (little_endian w n) ≡ w
unfolding little_endian
length_little_endian zero n = refl
length_little_endian (suc w) n = ap suc (length_little_endian w (n / 256))

-- k bytes of a number: none of them put, one more, all of them
pub bytes_none : (l : List ℕ) (k n : ℕ) → little_endian k n ≡ take 0 l ++ little_endian (k - 0) n
bytes_none l k n = ap (λ (w : ℕ). little_endian w n) (omega arith)

pub bytes_more : (l : List ℕ) (i k n : ℕ) → i < length l → i < k
    → take i l ++ little_endian (k - i) n ≡ take (i + 1) (set l i (n % 256)) ++ little_endian (k - (i + 1)) (n / 256)
unfolding little_endian
bytes_more l i k n h p =
    let e : k - i ≡ suc (k - (i + 1)) = omega arith in
    rw (e, add-one i, take-suc-set l i (n % 256) h, append_assoc)

pub bytes_all : (l : List ℕ) (i k n : ℕ) → length l ≤ i → k ≤ i → take i l ++ little_endian (k - i) n ≡ l
unfolding little_endian
bytes_all l i k n h p = let e : k - i ≡ 0 = omega arith in rw (e, take_all i l h) (append-nil l)

-- bytes stored from a buffer's front on
pub sets_over : (bytes buffer : List ℕ) → length bytes ≤ length buffer → sets buffer 0 bytes ≡ over bytes buffer
sets_over bytes buffer h =
    let e = zero-add (length bytes) in
    sets-eq bytes buffer 0 (omega arith) ∙ ap (λ (k : ℕ). bytes ++ drop k buffer) e

-- a bytes p over the first ones of a buffer
pub record Laid (buffer p : List ℕ) (a : ℕ) (l : List ℕ) : Type 0 where
  pub same : l ≡ over p buffer
  pub long : length p ≡ a

pub laid_none : (buffer : List ℕ) → Laid buffer [] 0 buffer
laid_none buffer = record { same = refl; long = refl }

-- a number put into the k bytes after them
pub laid_more : {buffer p l : List ℕ} {a : ℕ} → Laid buffer p a l → (k n : ℕ) {q : List ℕ} → a + k ≤ length buffer
    → q ≡ little_endian (length (take k (drop a l))) n
    → Laid buffer (p ++ little_endian k n) (a + k) (take a l ++ (q ++ drop k (drop a l)))
laid_more {buffer} {p} {l} {a} o k n {q} b e =
    let h = o.long in
    let rest = drop (length p) buffer in
    let front : take a l ≡ p = ap (λ (x : List ℕ). take a x) o.same ∙ take_at p rest a h in
    let back : drop a l ≡ rest = ap (λ (x : List ℕ). drop a x) o.same ∙ drop_at p rest a h in
    let d = length-drop (length p) buffer in
    let m : length (take k (drop a l)) ≡ k = ap (λ (x : List ℕ). length (take k x)) back ∙ length-take-le k rest (omega arith) in
    let g : q ≡ little_endian k n = e ∙ ap (λ (w : ℕ). little_endian w n) m in
    let s : length (p ++ little_endian k n) ≡ length p + k =
    length-append p (little_endian k n) ∙ ap (λ (w : ℕ). length p + w) (length_little_endian k n) in
    record {
      same = rw (front, back, g, drop-drop k (length p) buffer, ← s) (sym (append_assoc p (little_endian k n) _));
      long = s ∙ ap (λ (w : ℕ). w + k) h;
    }

-- the number that bytes tell, the lowest first
pub number_in : List ℕ → ℕ
number_in [] = 0
number_in (b ∷ bytes) = b + 256 * number_in bytes

-- a number below the width's reach is told back
pub told_back : (width n : ℕ) → n < 256 ^ width → number_in (little_endian width n) ≡ n
unfolding little_endian number_in
told_back zero n h = omega arith
told_back (suc width) n h =
    let e = pow-suc 256 width in
    ap (λ (k : ℕ). n % 256 + 256 * k) (told_back width (n / 256) (omega arith)) ∙ omega arith

-- four bytes that leave nothing out are read back, whatever the number
pub four_back : (n b₀ b₁ b₂ b₃ : ℕ) → b₀ ≡ n % 256 → b₁ ≡ n / 256 % 256 → b₂ ≡ n / 65536 % 256 → b₃ ≡ n / 16777216
    → b₀ + 256 * b₁ + 65536 * (b₂ + 256 * b₃) ≡ n
four_back n b₀ b₁ b₂ b₃ p q u v = omega arith

-- and are the four of a number that fits
pub four_fit : (n : ℕ) → n < 4294967296 → little_endian 4 n ≡ four_bytes n
unfolding little_endian
four_fit n h =
    let p : n / 256 / 256 % 256 ≡ n / 65536 % 256 = omega arith in
    let q : n / 256 / 256 / 256 % 256 ≡ n / 16777216 = omega arith in
    rw (p, q)
