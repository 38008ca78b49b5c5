-- The listing of a range of an image, one line after the other, and what the call `list` answers and leaves for all inputs.
use Rattle.std.specs.Prelude.{ℕ, zero, suc, ◌+◌, ◌-◌, List, [], ◌++◌, Bool, cond, not, ◌||◌, ltb, eqb, get_or, length, Option, None, Some, Result, Ok, Err}
use Rattle.numbers.specs.Numbers.{over}
use Rattle.opcodes.specs.Opcodes.{decode_of}
use Rattle.opcodes.specs.declared.Instruction.{Instruction}
use Rattle.asking.specs.Asking.{Given, gives, replies}
use Rattle.listing_lines.specs.Lines.{bytes_of, item_line}
use Rattle.listing.specs.declared.ListRefusal.{ListRefusal}
use Rattle.listing.specs.declared.ListRefusal.TheVariants.{WrongImage, WrongRange, NoRoom}

-- "Image bytes are listed as they lie, $00 to $1F included"
abbrev pub image_byte : List ℕ → ℕ → ℕ
image_byte image address = get_or image address 0

-- "an undefined opcode, or one cut off by the range's end, is listed as a data byte"
abbrev pub fitting_in : ℕ → Option Instruction → Option Instruction
fitting_in room None = None
fitting_in room (Some i) = cond (ltb room i.length) None (Some i)

-- what is listed at an address of a range that ends with `last`, its line and its bytes
unfoldable pub shown_at : List ℕ → ℕ → ℕ → Option Instruction
shown_at image last address = fitting_in (last + 1 - address) (decode_of (image_byte image address))

unfoldable pub line_at : List ℕ → ℕ → ℕ → List ℕ
line_at image last address =
    item_line address (shown_at image last address) (image_byte image address) (image_byte image (address + 1)) (image_byte image (address + 2))

unfoldable pub listed_bytes : List ℕ → ℕ → ℕ → ℕ
listed_bytes image last address = bytes_of (shown_at image last address)

-- the lines from an address on, at most so many; "the next line starts" where the bytes of this one end
unfoldable pub listed_from : List ℕ → ℕ → ℕ → ℕ → List ℕ
listed_from image last zero address = []
listed_from image last (suc n) address =
    cond (ltb last address) [] (line_at image last address ++ listed_from image last n (address + listed_bytes image last address))

-- a line for each byte is enough
unfoldable pub listing_from : List ℕ → ℕ → ℕ → List ℕ
listing_from image last first = listed_from image last (last + 1 - first) first

-- "22 exactly when last is above $FFFF or below first"
abbrev pub is_bad_range : ℕ → ℕ → Bool
is_bad_range first last = ltb 65535 last || ltb last first

-- how many characters were written; or 1, 22, 23
abbrev pub told_listed : Result ℕ ListRefusal → Given ℕ
told_listed (Ok n) = gives n
told_listed (Err WrongImage) = replies 1
told_listed (Err WrongRange) = replies 22
told_listed (Err NoRoom) = replies 23

unfoldable pub list_answer : List ℕ → ℕ → ℕ → List ℕ → Given ℕ
list_answer image first last buffer =
    cond (not (eqb (length image) 65536)) (replies 1)
    (cond (is_bad_range first last) (replies 22)
    (cond (ltb (length buffer) (length (listing_from image last first))) (replies 23)
    (gives (length (listing_from image last first)))))

-- the listing at the buffer's front and the bytes after it unchanged; a refusal leaves the buffer as it was
abbrev pub listed_buffer : Given ℕ → List ℕ → List ℕ → List ℕ
listed_buffer (gives n) text buffer = over text buffer
listed_buffer (replies k) text buffer = buffer

unfoldable pub list_buffer : List ℕ → ℕ → ℕ → List ℕ → List ℕ
list_buffer image first last buffer = listed_buffer (list_answer image first last buffer) (listing_from image last first) buffer
