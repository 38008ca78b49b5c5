-- The line of an instruction or of a data byte, read again, gives its bytes. Assumes nothing.
use Prim.Native.Nat.{ℕ, zero, suc, ◌+◌, ◌*◌, ◌/◌, ◌%◌, ◌<◌, ◌≤◌}
use native.Mathlib.Omega.{arith}
use mathlib.Core.Path.{◌≡◌, refl, ◌∙◌}
use mathlib.Core.Bool.{Bool, true, false, cond}
use mathlib.Core.List.{List, [], ◌∷◌, ◌++◌}
use lib.Dec.{ltb}
use lib.ListN.{length, take}
use lib.Seq.{take-nil}
use borrow.Author.Tests.{lt-ltb, le-ltb, ltb-true, ltb-false}
use Rattle.bits.specs.Words.{up, down}
use Rattle.opcodes.specs.Opcodes.{decode_of}
use Rattle.opcodes.specs.Fits.{operand_bytes}
use Rattle.opcodes.specs.declared.Place.{Place}
use Rattle.opcodes.specs.declared.Place.TheVariants as place
use Rattle.opcodes.specs.declared.Instruction.{Instruction}
use Rattle.std.specs.Prelude.{None, Some}
use Rattle.opcodes.proofs.Fits.{fits}
use Rattle.listing_lines.specs.Lines.{form_of, column_of, branch_target, operand_of, data_name, item_line}
use Rattle.listing_lines.specs.declared.Form.TheVariants.{Byte}
use Rattle.listing_codes.specs.Codes.{piece, line_of, branch_distance, branch_to, placed_at, coded_of}
use Rattle.listing_reading.specs.Reading.{no_end, line_in}
use Rattle.listing_theorems.proofs.Known.{name_of, known_at}
use Rattle.listing_theorems.proofs.Digits.{no_end_lem}
use Rattle.listing_theorems.specs.Published.{Writes}
use Rattle.listing_theorems.proofs.Back.{any_back}

-- a byte that is one of n, or 0
abbrev pub second_of : ℕ → ℕ → ℕ
second_of n b = cond (ltb 1 n) b 0

abbrev pub third_of : ℕ → ℕ → ℕ
third_of n c = cond (ltb 2 n) c 0

-- a target within reach comes back as its offset
target_back : (a b op size : ℕ) → a < 65536 → b < 256 → branch_to a op (branch_distance a (branch_target a b)) size ≡ line_of (piece a 2 op b 0) size
target_back a b op size h k = by (ltb b 128) refl
  where
    by : (t : Bool) → ltb b 128 ≡ t → branch_to a op (branch_distance a (up (up a 2) (cond t b (b + 65280)))) size ≡ line_of (piece a 2 op b 0) size
    by true e =
        let l = ltb-true b 128 e in
        let d : down (up (up a 2) b) (up a 2) ≡ b = omega arith in
        let m : b % 256 ≡ b = omega arith in
        rw (d, le-ltb 127 b (omega arith), m)
    by false e =
        let l = ltb-false b 128 e in
        let d : down (up (up a 2) (b + 65280)) (up a 2) ≡ b + 65280 = omega arith in
        let m : (b + 65280) % 256 ≡ b = omega arith in
        rw (d, lt-ltb 127 (b + 65280) (omega arith), le-ltb (b + 65280) 65408 (omega arith), m)

module _ (a b c : ℕ) (h : a < 65536) (k : b < 256) (l : c < 256) where
  writes : (p : Place) → Writes (form_of p) (operand_of a p b c)
  writes place.Inherent = refl
  writes place.AccumulatorA = refl
  writes place.AccumulatorB = refl
  writes place.ImmediateByte = k
  writes place.ImmediateWord = omega arith
  writes place.Direct = k
  writes place.Indexed = k
  writes place.Extended = omega arith
  writes place.Relative = omega arith

  abbrev Placed : ℕ → ℕ → Place → Type 0
  Placed op size p = let n = 1 + operand_bytes p in placed_at a op p (operand_of a p b c) size ≡ line_of (piece a n op (second_of n b) (third_of n c)) size

  placed_back : (op size : ℕ) (p : Place) → Placed op size p
  placed_back op size place.Inherent = refl
  placed_back op size place.AccumulatorA = refl
  placed_back op size place.AccumulatorB = refl
  placed_back op size place.ImmediateByte = let e : b % 256 ≡ b = omega arith in rw e
  placed_back op size place.ImmediateWord =
      let e : (b * 256 + c) / 256 ≡ b = omega arith in
      let f : (b * 256 + c) % 256 ≡ c = omega arith in
      rw (e, f)
  placed_back op size place.Direct = let e : b % 256 ≡ b = omega arith in rw e
  placed_back op size place.Indexed = let e : b % 256 ≡ b = omega arith in rw e
  placed_back op size place.Extended =
      let e : (b * 256 + c) / 256 ≡ b = omega arith in
      let f : (b * 256 + c) % 256 ≡ c = omega arith in
      rw (e, f)
  placed_back op size place.Relative = target_back a b op size h k

  -- the search finds the opcode again
  coded_back : (op : ℕ) (i : Instruction) (size : ℕ) → op < 256 → decode_of op ≡ Some i → a + i.length ≤ 65536
      → coded_of a (name_of i) (form_of i.place) (operand_of a i.place b c) size
      ≡ line_of (piece a i.length op (second_of i.length b) (third_of i.length c)) size
  unfolding coded_of
  coded_back op i size m e f =
      let t = known_at op i m e in
      rw (t.no_data, t.code, e, le-ltb 65536 (a + i.length) f, (fits op i e).0) (placed_back op size i.place)

-- columns 7 to 14 are eight characters, none of them LF
column_eight : (n op b c : ℕ) → length (column_of (take n (op ∷ b ∷ c ∷ []))) ≡ 8
column_eight zero op b c = refl
column_eight (suc zero) op b c = refl
column_eight (suc (suc zero)) op b c = refl
column_eight (suc (suc (suc n))) op b c = rw (take-nil {A = ℕ} n)

column_free : (n op b c : ℕ) → no_end (column_of (take n (op ∷ b ∷ c ∷ []))) ≡ true
column_free zero op b c = refl
column_free (suc zero) op b c = rw (no_end_lem (op / 16 % 16) (omega arith), no_end_lem (op % 16) (omega arith))
column_free (suc (suc zero)) op b c =
    rw (no_end_lem (op / 16 % 16) (omega arith), no_end_lem (op % 16) (omega arith), no_end_lem (b / 16 % 16) (omega arith), no_end_lem (b % 16) (omega arith))
column_free (suc (suc (suc n))) op b c =
    rw (
      take-nil {A = ℕ} n,
      no_end_lem (op / 16 % 16) (omega arith),
      no_end_lem (op % 16) (omega arith),
      no_end_lem (b / 16 % 16) (omega arith),
      no_end_lem (b % 16) (omega arith),
      no_end_lem (c / 16 % 16) (omega arith),
      no_end_lem (c % 16) (omega arith),
    )

pub item_back : (a op b c : ℕ) → a < 65536 → op < 256 → b < 256 → c < 256 → (rest : List ℕ) (i : Instruction) → decode_of op ≡ Some i → a + i.length ≤ 65536
    → line_in (item_line a (Some i) op b c ++ rest)
    ≡ line_of (piece a i.length op (second_of i.length b) (third_of i.length c)) (length (item_line a (Some i) op b c))
unfolding item_line
item_back a op b c h m k l rest i e f =
    let t = known_at op i m e in
    any_back a h _ (column_eight i.length op b c) (column_free i.length op b c) (name_of i) t.four t.no_end_lem rest (form_of i.place) _
    (writes a b c h k l i.place)
    ∙ coded_back a b c h k l op i _ m e f

pub data_back : (a op b c : ℕ) → a < 65536 → op < 256 → (rest : List ℕ)
    → line_in (item_line a None op b c ++ rest) ≡ line_of (piece a 1 op 0 0) (length (item_line a None op b c))
unfolding item_line coded_of
data_back a op b c h m rest =
    let e : op % 256 ≡ op = omega arith in
    any_back a h _ (column_eight 1 op b c) (column_free 1 op b c) data_name refl refl rest Byte op m ∙ rw e
