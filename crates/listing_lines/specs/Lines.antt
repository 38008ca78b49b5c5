-- A line of a listing, as it is published. Upper case, one LF at the end, no trailing blank; columns from 1:
--     0100  86 05     LDAA #$05
--     0102  B6 00 12  LDAA $0012
--     0105  20 FE     BRA  $0105
--     0107  87        FCB  $87
--     0108  01        NOP
-- "1 to 4 address; 5, 6 blank; 7 to 14 the bytes, two digits each with a blank between, padded to 8; 15, 16 blank; 17 to 20 mnemonic, padded
-- only if an operand follows; 21 blank, only if an operand follows; 22 on the operand."
use Rattle.std.specs.Prelude.{ℕ, zero, suc, List, [], ◌∷◌, ◌++◌, cond, eqb, get_or, take, Option, None, Some}
use Rattle.characters.specs.Characters.{ascii, hexadecimal_of}
use Rattle.bits.specs.Words.{paired, up}
use Rattle.registers.specs.Registers.{offset}
use Rattle.opcodes.specs.declared.Place.{Place}
use Rattle.opcodes.specs.declared.Place.TheVariants as place
use Rattle.opcodes.specs.declared.Instruction.{Instruction}
use Rattle.mnemonics.specs.Mnemonics.{mnemonic_of}
use Rattle.listing_lines.specs.declared.Form.{Form}
use Rattle.listing_lines.specs.declared.Form.TheVariants.{Bare, HashByte, HashWord, Byte, Word, Indexed}

-- n characters of a text from one on, 0 past its end
abbrev pub cells_from : List ℕ → ℕ → ℕ → List ℕ
cells_from text k zero = []
cells_from text k (suc n) = get_or text k 0 ∷ cells_from text (suc k) n

abbrev pub cells : ℕ → List ℕ → List ℕ
cells n text = cells_from text 0 n

-- "inherent and accumulator forms none", `#$12`, `#$1234`, direct `$12`, extended and relative `$1234`, indexed `$12,X`: the form by the place
abbrev pub form_of : Place → Form
form_of place.Inherent = Bare
form_of place.AccumulatorA = Bare
form_of place.AccumulatorB = Bare
form_of place.ImmediateByte = HashByte
form_of place.ImmediateWord = HashWord
form_of place.Direct = Byte
form_of place.Indexed = Indexed
form_of place.Extended = Word
form_of place.Relative = Word

-- column 22 on, empty where no operand follows
abbrev pub operand_text : Form → ℕ → List ℕ
operand_text Bare v = []
operand_text HashByte v = ascii "#$" ++ hexadecimal_of 2 v
operand_text HashWord v = ascii "#$" ++ hexadecimal_of 4 v
operand_text Byte v = ascii "$" ++ hexadecimal_of 2 v
operand_text Word v = ascii "$" ++ hexadecimal_of 4 v
operand_text Indexed v = ascii "$" ++ hexadecimal_of 2 v ++ ascii ",X"

-- column 17 on: a mnemonic's four characters, a blank and the operand; alone, the mnemonic is not padded
abbrev pub statement : List ℕ → List ℕ → List ℕ
statement name [] = cells 3 name ++ cond (eqb (get_or name 3 0) 32) [] (get_or name 3 0 ∷ [])
statement name (c ∷ operand) = cells 4 name ++ ascii " " ++ c ∷ operand

abbrev pub line_end : List ℕ
line_end = 10 ∷ []

-- the line of an address with eight characters in columns 7 to 14
unfoldable pub published_line : ℕ → List ℕ → List ℕ → Form → ℕ → List ℕ
published_line address column name form v =
    hexadecimal_of 4 address ++ ascii "  " ++ cells 8 column ++ ascii "  " ++ statement name (operand_text form v) ++ line_end

-- columns 7 to 14: two digits each with a blank between, padded to 8
abbrev pub spaced : List ℕ → List ℕ
spaced [] = []
spaced (b ∷ []) = hexadecimal_of 2 b
spaced (b ∷ c ∷ bytes) = hexadecimal_of 2 b ++ ascii " " ++ spaced (c ∷ bytes)

abbrev pub padded : ℕ → List ℕ → List ℕ
padded zero text = text
padded (suc n) [] = 32 ∷ padded n []
padded (suc n) (c ∷ text) = c ∷ padded n text

abbrev pub column_of : List ℕ → List ℕ
column_of bytes = padded 8 (spaced bytes)

-- "Targets go round: (address + 2 + offset) mod 65,536", the offset as the machine takes it
abbrev pub branch_target : ℕ → ℕ → ℕ
branch_target address second = up (up address 2) (offset second)

-- the operand that is written, of the bytes after the opcode
abbrev pub operand_of : ℕ → Place → ℕ → ℕ → ℕ
operand_of address place.Inherent second third = 0
operand_of address place.AccumulatorA second third = 0
operand_of address place.AccumulatorB second third = 0
operand_of address place.ImmediateByte second third = second
operand_of address place.ImmediateWord second third = paired second third
operand_of address place.Direct second third = second
operand_of address place.Indexed second third = second
operand_of address place.Extended second third = paired second third
operand_of address place.Relative second third = branch_target address second

-- "Data byte: FCB $hh"
abbrev pub data_name : List ℕ
data_name = ascii "FCB "

-- the bytes of what is listed: an instruction, or one data byte, for which `None` stands
abbrev pub bytes_of : Option Instruction → ℕ
bytes_of None = 1
bytes_of (Some i) = i.length

-- the line of what is listed at an address, of whose three bytes it has so many
unfoldable pub item_line : ℕ → Option Instruction → ℕ → ℕ → ℕ → List ℕ
item_line address None first second third = published_line address (column_of (first ∷ [])) data_name Byte first
item_line address (Some i) first second third =
    published_line address (column_of (take i.length (first ∷ second ∷ third ∷ []))) (mnemonic_of i.operation i.place) (form_of i.place)
    (operand_of address i.place second third)
