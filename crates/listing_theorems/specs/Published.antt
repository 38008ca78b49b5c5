-- What "of the published form" is, without the reader: a text begins with the line of an address, any eight characters but LF, a mnemonic, a form and an
-- operand. proofs/Shows.antt: the reader takes a text for exactly that.
use Rattle.std.specs.Prelude.{ℕ, ◌<◌, ◌≡◌, true, List, ◌++◌, length, Result}
use Rattle.listing_lines.specs.Lines.{published_line}
use Rattle.listing_lines.specs.declared.Form.{Form}
use Rattle.listing_lines.specs.declared.Form.TheVariants.{Bare, HashByte, HashWord, Byte, Word, Indexed}
use Rattle.listing_codes.specs.Codes.{coded_of}
use Rattle.listing_codes.specs.declared.Line.{Line}
use Rattle.listing_codes.specs.declared.Unread.{Unread}
use Rattle.listing_reading.specs.Reading.{no_end}

-- the operands that a form can write
abbrev pub Writes : Form → ℕ → Type 0
Writes Bare v = v ≡ 0
Writes HashByte v = v < 256
Writes HashWord v = v < 65536
Writes Byte v = v < 256
Writes Word v = v < 65536
Writes Indexed v = v < 256

-- a text begins with a line, which comes to r
pub record ShowsLine (w : List ℕ) (r : Result Line Unread) : Type 0 where
  pub address : ℕ
  pub column : List ℕ
  pub name : List ℕ
  pub form : Form
  pub operand : ℕ
  pub rest : List ℕ
  pub below : address < 65536
  pub eight : length column ≡ 8
  pub unbroken : no_end column ≡ true
  pub four : length name ≡ 4
  pub written : Writes form operand
  pub line : w ≡ published_line address column name form operand ++ rest
  pub comes : coded_of address name form operand (length (published_line address column name form operand)) ≡ r
