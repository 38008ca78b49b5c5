-- What the two C calls of listings leave, for all inputs: the number that each returns, and every byte of what it is lent to write.
use Rattle.std.specs.Prelude.{ℕ, cond, List, ◌++◌, ltb, length}
use Rattle.std.proofs.Math.Option.{some}
use Rattle.numbers.specs.Numbers.{little_endian, over}
use Rattle.asking.specs.Asking.{Given, gives, replies}
use Rattle.listing.specs.Listing.{list_answer, list_buffer}
use Rattle.assembling.specs.Assembling.{AssembleReply, wrote, nothing, refuses, assemble_answer, assemble_buffer}
use Rattle.board_results.specs.Returned.{Returned, returned, named_in}

-- list: 29 where the result has less than 8 bytes; then 1, 22 or 23, or 0, the listing, and its length in the result
abbrev pub on_list : List ℕ → List ℕ → Given ℕ → Returned
on_list buffer result (gives n) = returned 0 buffer (named_in (some n) result)
on_list buffer result (replies k) = returned k buffer result

unfoldable pub list_call : List ℕ → ℕ → ℕ → List ℕ → List ℕ → Returned
list_call image first last buffer result =
    cond (ltb (length result) 8) (returned 29 buffer result)
    (on_list (list_buffer image first last buffer) result (list_answer image first last buffer))

-- how many bytes there are, and the first line's address
abbrev pub span_in : ℕ → ℕ → List ℕ → List ℕ
span_in n first result = over (little_endian 8 n ++ little_endian 8 first) result

-- assemble: 29 where the result has less than 16 bytes; then 13 or 14 with the line in the result's first 8, or 23, or 0, the bytes, and in the result
-- how many and the first line's address, both 0 of an empty text
abbrev pub on_assemble : List ℕ → List ℕ → AssembleReply → Returned
on_assemble buffer result (wrote first n) = returned 0 buffer (span_in n first result)
on_assemble buffer result nothing = returned 0 buffer (span_in 0 0 result)
on_assemble buffer result (refuses t) = returned t.number buffer (named_in t.named result)

unfoldable pub assemble_call : List ℕ → List ℕ → List ℕ → Returned
assemble_call text buffer result =
    cond (ltb (length result) 16) (returned 29 buffer result)
    (on_assemble (assemble_buffer text buffer) result (assemble_answer text buffer))
