-- What is known of a line that was read: it is within its text, and its one to three bytes are at its address and within memory. Assumes nothing.
use Prim.Native.Nat.{ℕ, ◌+◌, ◌≤◌, ◌<◌}
use native.Mathlib.Omega.{arith}
use mathlib.Core.Path.{◌≡◌, ap, ◌∙◌}
use mathlib.Core.Bool.{true}
use mathlib.Core.List.{List}
use lib.Dec.{ltb}
use lib.ListN.{length, drop, length-append}
use Rattle.laws.proofs.Apart.{apart}
use Rattle.laws.proofs.Bools.{both}
use Rattle.laws.proofs.Conds.{cases}
use Rattle.listing_lines.proofs.Laws.{line_size, size_least}
use Rattle.listing_codes.specs.Codes.{coded_of}
use Rattle.std.specs.Prelude.{Result, Ok, Err}
use Rattle.listing_codes.specs.declared.Line.{Line}
use Rattle.listing_codes.specs.declared.Unread.{Unread}
use Rattle.listing_codes.specs.declared.Unread.TheVariants.{Bad, Far}
use Rattle.listing_codes.proofs.Whole.{coded_whole, coded_far}
use Rattle.listing_reading.specs.Reading.{at, digit_in, two_in, four_in, address_in, column_in, name_in, form_in, operand_in, written_as, begins, no_end, is_line, line_in}
use Rattle.listing_reading.proofs.Begins.{begins_rest}

digit_small : (c : ℕ) → digit_in c < 16
unfolding digit_in
digit_small c = cases (λ (n : ℕ). n < 16) (ltb c 58) (λ e. omega arith) (λ e. omega arith)

-- two digits are a byte, and four a word
pub byte_small : (w : List ℕ) (k : ℕ) → two_in w k < 256
byte_small w k = let d = digit_small (at w k) in let e = digit_small (at w (k + 1)) in omega arith

pub word_small : (w : List ℕ) (k : ℕ) → four_in w k < 65536
word_small w k = let d = byte_small w k in let e = byte_small w (k + 2) in omega arith

-- the line that a text says is within it
written_long : (w : List ℕ) → 20 ≤ length (written_as w)
written_long w = let v = operand_in (form_in w) w in rw (line_size (address_in w) (column_in w) (name_in w) (form_in w) v) (size_least _ (form_in w))

written_within : (w : List ℕ) → is_line w ≡ true → length (written_as w) ≤ length w
written_within w e =
    let l = written_as w in
    let p : length w ≡ length l + length (drop (length l) w) =
    ap length (begins_rest w l (both (begins w l) (no_end (column_in w)) e).0) ∙ length-append l (drop (length l) w) in
    omega arith

-- a line was read only where the text begins with it
lines : (P : Result Line Unread → Type 0) (w : List ℕ) → P (Err Bad)
    → (is_line w ≡ true → P (coded_of (address_in w) (name_in w) (form_in w) (operand_in (form_in w) w) (length (written_as w)))) → P (line_in w)
unfolding line_in
lines P w bad good = cases P (is_line w) good (λ _. bad)

-- a line that is read
abbrev pub Within : List ℕ → Line → Type 0
Within w l =
    let p = l.piece in
    (20 ≤ l.size) × (l.size ≤ length w) × (1 ≤ p.length) × (p.length ≤ 3) × (p.address ≡ address_in w) × (p.address + p.length ≤ 65536)

pub read_whole : (w : List ℕ) (l : Line) → line_in w ≡ Ok l → Within w l
read_whole w l =
    lines (λ (r : Result Line Unread). r ≡ Ok l → Within w l) w
    (λ e. apart cc)
    (λ is e.
    let h = coded_whole (address_in w) (operand_in (form_in w) w) (length (written_as w)) (name_in w) (form_in w) l e in
    let least = written_long w in
    let most = written_within w is in
    let sized = h.sized in
    (omega arith, omega arith, h.least, h.most, h.stands, h.inside (word_small w 1)))

-- a target out of reach
pub read_far : (w : List ℕ) (a : ℕ) → line_in w ≡ Err (Far a) → a ≡ address_in w
read_far w a =
    lines (λ (r : Result Line Unread). r ≡ Err (Far a) → a ≡ address_in w) w (λ e. apart cc)
    (λ _ e. coded_far (address_in w) (operand_in (form_in w) w) (length (written_as w)) (name_in w) (form_in w) a e)
