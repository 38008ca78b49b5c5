-- What the private functions of src are proved against: a line as 28 cells, of which it takes the first ones. Nobody needs to believe this file:
-- `line` and `item_line` promise the lines of Lines.antt.
use Rattle.std.specs.Prelude.{ℕ, List, [], ◌∷◌, ◌++◌, cond, eqb, get_or, Option, None, Some}
use Rattle.characters.specs.Characters.{ascii, hexadecimal_of}
use Rattle.opcodes.specs.declared.Instruction.{Instruction}
use Rattle.mnemonics.specs.Mnemonics.{mnemonic_of}
use Rattle.listing_lines.specs.Lines.{cells, form_of, line_end}
use Rattle.listing_lines.specs.declared.Form.{Form}
use Rattle.listing_lines.specs.declared.Form.TheVariants.{Bare, HashByte, HashWord, Byte, Word, Indexed}

-- columns 1 to 16
abbrev pub head_of : ℕ → List ℕ → List ℕ
head_of address column = hexadecimal_of 4 address ++ ascii "  " ++ cells 8 column ++ ascii "  "

-- columns 21 to 28, 0 where the line has ended
abbrev pub ending_of : Form → ℕ → List ℕ
ending_of Bare v = line_end ++ 0 ∷ 0 ∷ 0 ∷ 0 ∷ 0 ∷ 0 ∷ 0 ∷ []
ending_of HashByte v = ascii " #$" ++ hexadecimal_of 2 v ++ line_end ++ 0 ∷ 0 ∷ []
ending_of HashWord v = ascii " #$" ++ hexadecimal_of 4 v ++ line_end
ending_of Byte v = ascii " $" ++ hexadecimal_of 2 v ++ line_end ++ 0 ∷ 0 ∷ 0 ∷ []
ending_of Word v = ascii " $" ++ hexadecimal_of 4 v ++ line_end ++ 0 ∷ []
ending_of Indexed v = ascii " $" ++ hexadecimal_of 2 v ++ ascii ",X" ++ line_end ++ 0 ∷ []

-- column 20: the mnemonic's last letter, or the end of a line of three letters
abbrev pub bare_fourth : ℕ → ℕ
bare_fourth c = cond (eqb c 32) 10 c

abbrev pub fourth_of : ℕ → Form → ℕ
fourth_of c Bare = bare_fourth c
fourth_of c HashByte = c
fourth_of c HashWord = c
fourth_of c Byte = c
fourth_of c Word = c
fourth_of c Indexed = c

-- the line's characters, its end included
abbrev pub size_of : ℕ → Form → ℕ
size_of c Bare = cond (eqb c 32) 20 21
size_of c HashByte = 26
size_of c HashWord = 28
size_of c Byte = 25
size_of c Word = 27
size_of c Indexed = 27

-- .. of what is listed
abbrev pub item_size : Option Instruction → ℕ
item_size None = 25
item_size (Some i) = size_of (get_or (mnemonic_of i.operation i.place) 3 0) (form_of i.place)

-- all 28
abbrev pub cells_of : List ℕ → List ℕ → ℕ → List ℕ → List ℕ
cells_of head name fourth ending = cells 16 head ++ cells 3 name ++ (fourth ∷ cells 8 ending)
