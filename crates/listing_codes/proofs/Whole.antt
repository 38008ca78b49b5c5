-- What is known of a line that was coded: its size is the text's, it has one to three bytes at its address, and they end within the 65,536; and a
-- target out of reach is told with the line's address. Assumes nothing.
use Prim.Native.Nat.{ℕ, ◌+◌, ◌≤◌, ◌<◌}
use native.Mathlib.Omega.{arith}
use mathlib.Core.Path.{◌≡◌, refl, subst}
use mathlib.Core.List.{List}
use lib.Dec.{ltb}
use borrow.Author.Tests.{ltb-false}
use Rattle.bits.specs.Words.{low}
use Rattle.laws.proofs.Conds.{cases}
use Rattle.opcodes.specs.Opcodes.{decode_of}
use Rattle.opcodes.specs.Fits.{operand_bytes}
use Rattle.opcodes.specs.declared.Place.{Place}
use Rattle.opcodes.specs.declared.Place.TheVariants.{Inherent, AccumulatorA, AccumulatorB, ImmediateByte, ImmediateWord}
use Rattle.opcodes.specs.declared.Place.TheVariants.{Direct, Indexed, Extended, Relative}
use Rattle.std.specs.Prelude.{Option, None, Some, Result, Ok, Err}
use Rattle.opcodes.specs.declared.Instruction.{Instruction}
use Rattle.opcodes.proofs.Fits.{fits}
use Rattle.listing_lines.specs.declared.Form.{Form}
use Rattle.listing_codes.specs.Codes.{code_for, piece, line_of, branch_distance, is_far, placed_at, coded_as, is_data, coded_of}
use Rattle.listing_codes.specs.declared.Line.{Line}
use Rattle.listing_codes.specs.declared.Unread.{Unread}
use Rattle.listing_codes.specs.declared.Unread.TheVariants.{Bad, Far}

pub record Whole (a size : ℕ) (l : Line) : Type 0 where
  pub sized : l.size ≡ size
  pub least : 1 ≤ l.piece.length
  pub most : l.piece.length ≤ 3
  pub stands : l.piece.address ≡ a
  pub inside : a < 65536 → l.piece.address + l.piece.length ≤ 65536

abbrev Fair : ℕ → ℕ → Result Line Unread → Type 0
Fair a size (Err Bad) = Unit {0}
Fair a size (Err (Far b)) = b ≡ a
Fair a size (Ok l) = Whole a size l

module _ (a v size : ℕ) where
  whole : (l x y z : ℕ) → 1 ≤ l → l ≤ 3 → (a < 65536 → a + l ≤ 65536) → Whole a size (record { piece = piece a l x y z; size = size })
  whole l x y z least most h = record { sized = refl; least = least; most = most; stands = refl; inside = h }

  -- the bytes of an opcode are as many as its length
  placed_fair : (op l : ℕ) (place : Place) → l ≡ 1 + operand_bytes place → a + l ≤ 65536 → Fair a size (placed_at a op place v size)
  placed_fair op l Inherent e h = whole 1 _ _ _ (omega arith) (omega arith) (λ _. omega arith)
  placed_fair op l AccumulatorA e h = whole 1 _ _ _ (omega arith) (omega arith) (λ _. omega arith)
  placed_fair op l AccumulatorB e h = whole 1 _ _ _ (omega arith) (omega arith) (λ _. omega arith)
  placed_fair op l ImmediateByte e h = whole 2 _ _ _ (omega arith) (omega arith) (λ _. omega arith)
  placed_fair op l ImmediateWord e h = whole 3 _ _ _ (omega arith) (omega arith) (λ _. omega arith)
  placed_fair op l Direct e h = whole 2 _ _ _ (omega arith) (omega arith) (λ _. omega arith)
  placed_fair op l Indexed e h = whole 2 _ _ _ (omega arith) (omega arith) (λ _. omega arith)
  placed_fair op l Extended e h = whole 3 _ _ _ (omega arith) (omega arith) (λ _. omega arith)
  placed_fair op l Relative e h =
      let d = branch_distance a v in
      cases (Fair a size) (is_far d) {x = Err (Far a)} {y = line_of (piece a 2 op (low d) 0) size} (λ _. refl)
      (λ _. whole 2 _ _ _ (omega arith) (omega arith) (λ _. omega arith))

  coded_as_fair : (op : ℕ) (d : Option Instruction) → decode_of op ≡ d → Fair a size (coded_as a op d v size)
  coded_as_fair op None e = tt
  coded_as_fair op (Some i) e =
      cases (Fair a size) (ltb 65536 (a + i.length)) {x = Err Bad} {y = placed_at a op i.place v size} (λ _. tt)
      (λ f. placed_fair op i.length i.place (fits op i e).0 (ltb-false 65536 (a + i.length) f))

  module _ (name : List ℕ) (form : Form) where
    coded_fair : Fair a size (coded_of a name form v size)
    unfolding coded_of
    coded_fair =
        let op = code_for name form in
        cases (Fair a size) (is_data name form) {x = line_of (piece a 1 (low v) 0 0) size} {y = coded_as a op (decode_of op) v size}
        (λ _. whole 1 _ _ _ (omega arith) (omega arith) (λ h. omega arith)) (λ _. coded_as_fair op (decode_of op) refl)

    pub coded_whole : (l : Line) → coded_of a name form v size ≡ Ok l → Whole a size l
    coded_whole l e = subst (Fair a size) e coded_fair

    pub coded_far : (b : ℕ) → coded_of a name form v size ≡ Err (Far b) → b ≡ a
    coded_far b e = subst (Fair a size) e coded_fair
