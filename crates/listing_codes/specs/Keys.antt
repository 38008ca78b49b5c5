-- What the search of src is proved with: how an opcode is written, as one number, and a table of the 256 numbers, made once a text. Nobody needs to
-- believe this file: `coded` promises the search of Codes.antt.
use Rattle.std.specs.Prelude.{ℕ, ◌+◌, ◌*◌, ◌<◌, List, ◌≡◌, get_or, length, Option, None, Some}
use Rattle.opcodes.specs.Opcodes.{decode_of}
use Rattle.opcodes.specs.declared.Instruction.{Instruction}
use Rattle.mnemonics.specs.Mnemonics.{mnemonic_of}
use Rattle.listing_lines.specs.Lines.{form_of}
use Rattle.listing_lines.specs.declared.Form.{Form}
use Rattle.listing_codes.specs.Codes.{form_number}

-- four characters: each is below 256, so that no two mnemonics and forms have one number
abbrev pub Named : List ℕ → Type 0
Named name = (get_or name 0 0 < 256) × (get_or name 1 0 < 256) × (get_or name 2 0 < 256) × (get_or name 3 0 < 256)

-- a mnemonic and a form
unfoldable pub key_of : List ℕ → Form → ℕ
key_of name form = (((get_or name 0 0 * 256 + get_or name 1 0) * 256 + get_or name 2 0) * 256 + get_or name 3 0) * 8 + form_number form

-- .. of an opcode; an undefined one has a number that no mnemonic and form have
abbrev pub decoded_key : Option Instruction → ℕ
decoded_key None = 1099511627776
decoded_key (Some i) = key_of (mnemonic_of i.operation i.place) (form_of i.place)

unfoldable pub key_at : ℕ → ℕ
key_at op = decoded_key (decode_of op)

-- a table of the keys of 0 to 255
abbrev pub Keys : List ℕ → Type 0
Keys keys = (length keys ≡ 256) × ((op : ℕ) → op < 256 → get_or keys op 0 ≡ key_at op)
