-- The listing of a range with a column of what has run, and what the call `list_marked` answers and leaves for all inputs. The column is two characters
-- before each line: `*` where an instruction began at the line's address by the map, `+` where none began there but one began at another byte of the
-- line (a jump into an operand), a blank where nothing of the line ran; then a blank.
use Rattle.std.specs.Prelude.{ℕ, zero, suc, ◌+◌, ◌-◌, ◌*◌, List, [], ◌∷◌, ◌++◌, cond, not, ◌&&◌, ◌||◌, ltb, eqb, length, Option, Result, Ok, Err}
use Rattle.opcodes.specs.declared.Instruction.{Instruction}
use Rattle.asking.specs.Asking.{Given, gives, replies}
use Rattle.execution_map.specs.Map.{has_run}
use Rattle.map_file.specs.MapFile.{file_bytes, is_map_file}
use Rattle.listing_lines.specs.Lines.{bytes_of, item_line}
use Rattle.listing.specs.Listing.{image_byte, shown_at, listed_bytes, is_bad_range, listed_buffer}
use Rattle.listing_marks.specs.declared.MarkRefusal.{MarkRefusal}
use Rattle.listing_marks.specs.declared.MarkRefusal.TheVariants.{WrongImage, WrongRange, WrongMap, NoRoom}

-- `*` is 42, `+` 43, a blank 32: of the map's bytes, a line's address and how many bytes it has, one to three
unfoldable pub mark_of : List ℕ → ℕ → ℕ → ℕ
mark_of map address bytes =
    cond (has_run map address) 42
    (cond ((ltb 1 bytes && has_run map (address + 1)) || (ltb 2 bytes && has_run map (address + 2))) 43 32)

-- a line behind its column
unfoldable pub marked_line : List ℕ → List ℕ → ℕ → Option Instruction → List ℕ
marked_line map image address shown =
    mark_of map address (bytes_of shown) ∷ 32
    ∷ item_line address shown (image_byte image address) (image_byte image (address + 1)) (image_byte image (address + 2))

-- the lines that `listing` lists, from an address on, at most so many
unfoldable pub marked_from : List ℕ → List ℕ → ℕ → ℕ → ℕ → List ℕ
marked_from map image last zero address = []
marked_from map image last (suc n) address =
    cond (ltb last address) []
    (marked_line map image address (shown_at image last address) ++ marked_from map image last n (address + listed_bytes image last address))

-- a line for each byte is enough
unfoldable pub marked_listing : List ℕ → List ℕ → ℕ → ℕ → List ℕ
marked_listing map image last first = marked_from map image last (last + 1 - first) first

-- how many characters were written; or 1, 22, 15, 23
abbrev pub told_marked : Result ℕ MarkRefusal → Given ℕ
told_marked (Ok n) = gives n
told_marked (Err WrongImage) = replies 1
told_marked (Err WrongRange) = replies 22
told_marked (Err WrongMap) = replies 15
told_marked (Err NoRoom) = replies 23

-- room for 30 characters a byte is always enough, and is asked
unfoldable pub marked_answer : List ℕ → ℕ → ℕ → List ℕ → List ℕ → Given ℕ
marked_answer image first last file buffer =
    cond (not (eqb (length image) 65536)) (replies 1)
    (cond (is_bad_range first last) (replies 22)
    (cond (not (is_map_file file)) (replies 15)
    (cond (ltb (length buffer) (30 * (last + 1 - first))) (replies 23)
    (gives (length (marked_listing (file_bytes file) image last first))))))

-- the listing at the buffer's front and the bytes after it unchanged; a refusal leaves the buffer as it was
unfoldable pub marked_buffer : List ℕ → ℕ → ℕ → List ℕ → List ℕ → List ℕ
marked_buffer image first last file buffer =
    listed_buffer (marked_answer image first last file buffer) (marked_listing (file_bytes file) image last first) buffer
