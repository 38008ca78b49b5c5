-- The bytes of a listing's text, line after line, and what the call `assemble` answers and leaves for all inputs.
use Rattle.std.specs.Prelude.{ℕ, zero, suc, ◌+◌, List, [], ◌∷◌, ◌++◌, Bool, true, cond, ltb, eqb, length, take, drop, Option, Some, None, Result, Ok, Err}
use Rattle.std.proofs.Math.Option.{none, some}
use Rattle.numbers.specs.Numbers.{over}
use Rattle.replies.specs.Replies.{Told, told}
use Rattle.listing_reading.specs.Reading.{address_in, line_in}
use Rattle.listing_codes.specs.declared.Piece.{Piece}
use Rattle.listing_codes.specs.declared.Line.{Line}
use Rattle.listing_codes.specs.declared.Unread.{Unread}
use Rattle.listing_codes.specs.declared.Unread.TheVariants.{Bad, Far}
use Rattle.assembling.specs.declared.Fault.{Fault}
use Rattle.assembling.specs.declared.Fault.TheVariants.{Malformed, TooFar}
use Rattle.assembling.specs.declared.Span.{Span}
use Rattle.assembling.specs.declared.AssembleRefusal.{AssembleRefusal}
use Rattle.assembling.specs.declared.AssembleRefusal.TheVariants as refusal

-- a line's bytes
abbrev pub piece_bytes : Piece → List ℕ
piece_bytes p = take p.length (p.first ∷ p.second ∷ p.third ∷ [])

-- "Not following on: the address is not the one before plus its length. The first line is free."
abbrev pub follows : Option ℕ → ℕ → Bool
follows None address = true
follows (Some next) address = eqb next address

abbrev pub due_next : Piece → Option ℕ
due_next p = Some (p.address + p.length)

-- a line is taken, or "13, a line not of the published form or not following on", or "14, a branch target beyond its offset"; "13 before 14"
abbrev pub line_step : Result Line Unread → Option ℕ → Result Line Fault
line_step (Err Bad) due = Err Malformed
line_step (Err (Far address)) due = cond (follows due address) (Err TooFar) (Err Malformed)
line_step (Ok l) due = cond (follows due l.piece.address) (Ok l) (Err Malformed)

-- a text's bytes; or what is wrong with its first bad line, and that line, counted from 1
pub data Outcome : Type 0 where
  bad : Fault → ℕ → Outcome
  good : List ℕ → Outcome

infixr 20 ◌then◌
abbrev pub ◌then◌ : List ℕ → Outcome → Outcome
bytes then (bad fault line) = bad fault line
bytes then (good rest) = good (bytes ++ rest)

abbrev pub on_step : Result Line Fault → ℕ → (Line → Outcome) → Outcome
on_step (Err fault) line rest = bad fault line
on_step (Ok l) line rest = piece_bytes l.piece then rest l

-- "the first bad line decides": the lines of a text, at most so many
unfoldable pub assembled_from : ℕ → List ℕ → Option ℕ → ℕ → Outcome
assembled_from zero text due line = good []
assembled_from (suc n) [] due line = good []
assembled_from (suc n) (c ∷ text) due line =
    on_step (line_step (line_in (c ∷ text)) due) line (λ l. assembled_from n (drop l.size (c ∷ text)) (due_next l.piece) (line + 1))

-- a line for each character is enough
unfoldable pub text_from : List ℕ → Option ℕ → ℕ → Outcome
text_from text due line = assembled_from (length text) text due line

unfoldable pub outcome_of : List ℕ → Outcome
outcome_of text = text_from text None 1

-- the first line's address and how many bytes were written; nothing of an empty text; or 13 and 14 with the line, 23
pub data AssembleReply : Type 0 where
  wrote : ℕ → ℕ → AssembleReply
  nothing : AssembleReply
  refuses : Told → AssembleReply

abbrev pub line_fault_number : Fault → ℕ
line_fault_number Malformed = 13
line_fault_number TooFar = 14

abbrev pub told_assembled : Result (Option Span) AssembleRefusal → AssembleReply
told_assembled (Ok (Some span)) = wrote span.first span.bytes
told_assembled (Ok None) = nothing
told_assembled (Err (refusal.Malformed line)) = refuses (told 13 (some line))
told_assembled (Err (refusal.TooFar line)) = refuses (told 14 (some line))
told_assembled (Err refusal.NoRoom) = refuses (told 23 none)

abbrev pub outcome_answer : Outcome → List ℕ → List ℕ → AssembleReply
outcome_answer (bad fault line) text buffer = refuses (told (line_fault_number fault) (some line))
outcome_answer (good bytes) text buffer =
    cond (ltb (length buffer) (length bytes)) (refuses (told 23 none)) (wrote (address_in text) (length bytes))

unfoldable pub assemble_answer : List ℕ → List ℕ → AssembleReply
assemble_answer text buffer = cond (eqb (length text) 0) nothing (outcome_answer (outcome_of text) text buffer)

-- the bytes at the buffer's front and those after them unchanged; a refusal leaves the buffer as it was
abbrev pub bytes_in : Outcome → List ℕ
bytes_in (bad fault line) = []
bytes_in (good bytes) = bytes

abbrev pub assembled_buffer : AssembleReply → List ℕ → List ℕ → List ℕ
assembled_buffer (wrote first n) bytes buffer = over bytes buffer
assembled_buffer nothing bytes buffer = buffer
assembled_buffer (refuses t) bytes buffer = buffer

unfoldable pub assemble_buffer : List ℕ → List ℕ → List ℕ
assemble_buffer text buffer = assembled_buffer (assemble_answer text buffer) (bytes_in (outcome_of text)) buffer
