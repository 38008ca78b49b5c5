-- What the call `rest` answers, and what it leaves in the buffer that it was lent, for all inputs.
use Rattle.std.specs.Prelude.{ℕ, cond, List, ◌++◌, ltb, length, drop, Result, Ok, Err}
use Rattle.std.proofs.Math.Option.{Option, none, some}
use Rattle.session.specs.Session.{check_of}
use Rattle.replies.specs.Replies.{Told, told, told_fault, told_check}
use Rattle.rest.specs.declared.RestRefusal.{RestRefusal}
use Rattle.rest.specs.declared.RestRefusal.TheVariants.{Bad, TooFew, NoRoom}
use Rattle.rest.specs.Rest.{has_fewer, rest_of}

-- the rest was written, and is so many bytes long; or a reply's number, with the record that 4 to 7 name
pub data RestReply : Type 0 where
  rest_wrote : ℕ → RestReply
  refuses : Told → RestReply

abbrev pub told_rest : Result ℕ RestRefusal → RestReply
told_rest (Ok n) = rest_wrote n
told_rest (Err (Bad f)) = refuses (told_fault f)
told_rest (Err TooFew) = refuses (told 30 none)
told_rest (Err NoRoom) = refuses (told 31 none)

-- the first refusal, and else the second, where there is one
abbrev pub first_of : Option Told → Option Told → Option Told
first_of (some t) u = some t
first_of none u = u

-- 4 to 7 as the check of the session says; then 30 where the session has fewer records than were used; then 31 where the buffer is
-- shorter than the rest
unfoldable pub rest_refusal : List ℕ → ℕ → ℕ → List ℕ → Option Told
rest_refusal session used cycles buffer =
    first_of (told_check (check_of session))
    (cond (has_fewer session used) (some (told 30 none))
    (cond (ltb (length buffer) (length (rest_of session used cycles))) (some (told 31 none))
    none))

-- the length of the rest, or the refusal
abbrev pub answer_by : Option Told → List ℕ → RestReply
answer_by (some t) rest = refuses t
answer_by none rest = rest_wrote (length rest)

unfoldable pub rest_answer : List ℕ → ℕ → ℕ → List ℕ → RestReply
rest_answer session used cycles buffer = answer_by (rest_refusal session used cycles buffer) (rest_of session used cycles)

-- the rest at the buffer's front and the bytes after it unchanged; a refusal leaves the buffer as it was
abbrev pub buffer_by : Option Told → List ℕ → List ℕ → List ℕ
buffer_by (some t) rest buffer = buffer
buffer_by none rest buffer = rest ++ drop (length rest) buffer

unfoldable pub rest_buffer : List ℕ → ℕ → ℕ → List ℕ → List ℕ
rest_buffer session used cycles buffer = buffer_by (rest_refusal session used cycles buffer) (rest_of session used cycles) buffer
