-- A line of a listing read back, from the text w that begins with it. What its columns say is written anew: the line is of the published form exactly
-- where w begins with that, columns 7 to 14 being any characters but LF.
use Rattle.std.specs.Prelude.{ℕ, ◌+◌, ◌*◌, ◌-◌, ◌%◌, List, [], ◌∷◌, Bool, true, false, cond, not, ◌&&◌, ◌||◌, ltb, eqb, get_or, length, Result, Err}
use Rattle.bits.specs.Words.{paired}
use Rattle.listing_lines.specs.Lines.{cells_from, published_line}
use Rattle.listing_lines.specs.declared.Form.{Form}
use Rattle.listing_lines.specs.declared.Form.TheVariants.{Bare, HashByte, HashWord, Byte, Word, Indexed}
use Rattle.listing_codes.specs.Codes.{coded_of}
use Rattle.listing_codes.specs.declared.Line.{Line}
use Rattle.listing_codes.specs.declared.Unread.{Unread}
use Rattle.listing_codes.specs.declared.Unread.TheVariants.{Bad}

-- the character in a column, from 1; 0 past the text's end
abbrev pub at : List ℕ → ℕ → ℕ
at w k = get_or w (k - 1) 0

-- a digit's value; any other character has one too, as it is not written again
unfoldable pub digit_in : ℕ → ℕ
digit_in c = cond (ltb c 58) (c % 16) ((c + 9) % 16)

-- two and four digits from a column on
abbrev pub two_in : List ℕ → ℕ → ℕ
two_in w k = 16 * digit_in (at w k) + digit_in (at w (k + 1))

abbrev pub four_in : List ℕ → ℕ → ℕ
four_in w k = paired (two_in w k) (two_in w (k + 2))

-- columns 1 to 4, 7 to 14, and 17 to 20 with a blank for the end of a line of three letters
abbrev pub address_in : List ℕ → ℕ
address_in w = four_in w 1

abbrev pub column_in : List ℕ → List ℕ
column_in w = cells_from w 6 8

abbrev pub blank_for : ℕ → ℕ
blank_for c = cond (eqb c 10) 32 c

abbrev pub name_in : List ℕ → List ℕ
name_in w = at w 17 ∷ at w 18 ∷ at w 19 ∷ blank_for (at w 20) ∷ []

-- "The number of digits tells the place": the form, by where `#`, `,` and the end stand
unfoldable pub form_in : List ℕ → Form
form_in w =
    cond (eqb (at w 20) 10 || eqb (at w 21) 10) Bare
    (cond (eqb (at w 22) 35) (cond (eqb (at w 26) 10) HashByte HashWord)
    (cond (eqb (at w 25) 10) Byte (cond (eqb (at w 25) 44) Indexed Word)))

abbrev pub operand_in : Form → List ℕ → ℕ
operand_in Bare w = 0
operand_in HashByte w = two_in w 24
operand_in HashWord w = four_in w 24
operand_in Byte w = two_in w 23
operand_in Word w = four_in w 23
operand_in Indexed w = two_in w 23

-- the line that says the same
abbrev pub written_as : List ℕ → List ℕ
written_as w = published_line (address_in w) (column_in w) (name_in w) (form_in w) (operand_in (form_in w) w)

-- a text begins with another; characters are none of them LF
unfoldable pub begins : List ℕ → List ℕ → Bool
begins w [] = true
begins [] (c ∷ line) = false
begins (d ∷ w) (c ∷ line) = eqb d c && begins w line

abbrev pub no_end : List ℕ → Bool
no_end [] = true
no_end (c ∷ text) = not (eqb c 10) && no_end text

abbrev pub is_line : List ℕ → Bool
is_line w = begins w (written_as w) && no_end (column_in w)

-- the line's bytes and how many characters it has; 14 at its address; or 13
unfoldable pub line_in : List ℕ → Result Line Unread
line_in w =
    cond (is_line w) (coded_of (address_in w) (name_in w) (form_in w) (operand_in (form_in w) w) (length (written_as w)))
    (Err Bad)
