-- What a mnemonic with an operand comes to: its bytes, by the same opcode facts as the machine.
use Rattle.std.specs.Prelude.{ℕ, zero, suc, ◌+◌, List, Bool, false, cond, ◌&&◌, ltb, eqb, get_or, Option, None, Some, Result, Ok, Err}
use Rattle.bits.specs.Words.{high, low, up, down}
use Rattle.opcodes.specs.Opcodes.{decode_of}
use Rattle.opcodes.specs.declared.Place.{Place}
use Rattle.opcodes.specs.declared.Place.TheVariants as place
use Rattle.opcodes.specs.declared.Instruction.{Instruction}
use Rattle.mnemonics.specs.Mnemonics.{mnemonic_of}
use Rattle.listing_lines.specs.Lines.{form_of, data_name}
use Rattle.listing_lines.specs.declared.Form.{Form}
use Rattle.listing_lines.specs.declared.Form.TheVariants.{Bare, HashByte, HashWord, Byte, Word, Indexed}
use Rattle.listing_codes.specs.declared.Piece.{Piece}
use Rattle.listing_codes.specs.declared.Line.{Line}
use Rattle.listing_codes.specs.declared.Unread.{Unread}
use Rattle.listing_codes.specs.declared.Unread.TheVariants.{Bad, Far}

-- "the assembler searches the 256 values of `decode`": the first that is written so, 256 where none is
abbrev pub same_name : List ℕ → List ℕ → Bool
same_name a b = eqb (get_or a 0 0) (get_or b 0 0) && eqb (get_or a 1 0) (get_or b 1 0) && eqb (get_or a 2 0) (get_or b 2 0) && eqb (get_or a 3 0) (get_or b 3 0)

abbrev pub form_number : Form → ℕ
form_number Bare = 0
form_number HashByte = 1
form_number HashWord = 2
form_number Byte = 3
form_number Word = 4
form_number Indexed = 5

abbrev pub same_form : Form → Form → Bool
same_form a b = eqb (form_number a) (form_number b)

abbrev pub is_written : List ℕ → Form → Option Instruction → Bool
is_written name form None = false
is_written name form (Some i) = same_name name (mnemonic_of i.operation i.place) && same_form form (form_of i.place)

abbrev pub first_from : (ℕ → Bool) → ℕ → ℕ → ℕ
first_from test k zero = k
first_from test k (suc n) = cond (test k) k (first_from test (suc k) n)

unfoldable pub code_for : List ℕ → Form → ℕ
code_for name form = first_from (λ (op : ℕ). is_written name form (decode_of op)) 0 256

-- a line's bytes, so many of three
abbrev pub piece : ℕ → ℕ → ℕ → ℕ → ℕ → Piece
piece address length first second third =
    record { address = address; length = length; first = first; second = second; third = third }

-- .. and how many characters the line has
abbrev pub line_of : Piece → ℕ → Result Line Unread
line_of p size = Ok (record { piece = p; size = size })

-- "14 exactly when (target - address - 2) mod 65,536 lies in 128 to 65,407"
abbrev pub branch_distance : ℕ → ℕ → ℕ
branch_distance address target = down target (up address 2)

abbrev pub is_far : ℕ → Bool
is_far distance = ltb 127 distance && ltb distance 65408

abbrev pub branch_to : ℕ → ℕ → ℕ → ℕ → Result Line Unread
branch_to address op distance size = cond (is_far distance) (Err (Far address)) (line_of (piece address 2 op (low distance) 0) size)

-- the bytes of an opcode with its operand
abbrev pub placed_at : ℕ → ℕ → Place → ℕ → ℕ → Result Line Unread
placed_at address op place.Inherent v size = line_of (piece address 1 op 0 0) size
placed_at address op place.AccumulatorA v size = line_of (piece address 1 op 0 0) size
placed_at address op place.AccumulatorB v size = line_of (piece address 1 op 0 0) size
placed_at address op place.ImmediateByte v size = line_of (piece address 2 op (low v) 0) size
placed_at address op place.ImmediateWord v size = line_of (piece address 3 op (high v) (low v)) size
placed_at address op place.Direct v size = line_of (piece address 2 op (low v) 0) size
placed_at address op place.Indexed v size = line_of (piece address 2 op (low v) 0) size
placed_at address op place.Extended v size = line_of (piece address 3 op (high v) (low v)) size
placed_at address op place.Relative v size = branch_to address op (branch_distance address v) size

-- "a line whose bytes would end past $FFFF is 13", which comes before 14
abbrev pub coded_as : ℕ → ℕ → Option Instruction → ℕ → ℕ → Result Line Unread
coded_as address op None v size = Err Bad
coded_as address op (Some i) v size = cond (ltb 65536 (address + i.length)) (Err Bad) (placed_at address op i.place v size)

-- "The assembler takes FCB with any byte"
abbrev pub is_data : List ℕ → Form → Bool
is_data name form = same_name name data_name && same_form form Byte

unfoldable pub coded_of : ℕ → List ℕ → Form → ℕ → ℕ → Result Line Unread
coded_of address name form v size =
    cond (is_data name form) (line_of (piece address 1 (low v) 0 0) size) (coded_as address (code_for name form) (decode_of (code_for name form)) v size)
