-- A session of three records, its rest, and what the call answers for it, computed by the definitions. Assumes nothing.
use Prim.Native.Nat.{ℕ}
use mathlib.Core.List.{List, [], ◌∷◌, ◌++◌}
use mathlib.Core.Option.{none, some}
use mathlib.Core.Path.{◌≡◌, refl}
use lib.ListN.{take, replicate}
use Rattle.turns.specs.Turn.{turns, loop_of}
use Rattle.session.specs.Session.{length_at, kind_at, time_at, payload_at, next_at, length_for, fits, cut_short}
use Rattle.session.specs.Session.{first_fault, fault_at, check_turn, check_from}
use Rattle.replies.specs.Replies.{told}
use Rattle.rest.specs.Rest.{place_of, has_fewer, shifted_at, rest_from, rest_of}
use Rattle.rest.specs.Answers.{rest_wrote, refuses, rest_refusal, rest_answer, rest_buffer}

-- NMI at 3, port 1 pins at 4, a received byte at 70,000
abbrev session : List ℕ
session =
    (6 ∷ 0 ∷ 4 ∷ 0 ∷ 3 ∷ 0 ∷ 0 ∷ 0 ∷ [])
    ++ (7 ∷ 0 ∷ 1 ∷ 0 ∷ 4 ∷ 0 ∷ 0 ∷ 0 ∷ 0xA5 ∷ [])
    ++ (8 ∷ 0 ∷ 5 ∷ 0 ∷ 0x70 ∷ 0x11 ∷ 1 ∷ 0 ∷ 0x41 ∷ 1 ∷ [])

-- one record used in 5 cycles: the second's time is below that and becomes 0, the third's becomes 69,995
abbrev after_one : List ℕ
after_one =
    (7 ∷ 0 ∷ 1 ∷ 0 ∷ 0 ∷ 0 ∷ 0 ∷ 0 ∷ 0xA5 ∷ [])
    ++ (8 ∷ 0 ∷ 5 ∷ 0 ∷ 0x6B ∷ 0x11 ∷ 1 ∷ 0 ∷ 0x41 ∷ 1 ∷ [])

one_used : rest_of session 1 5 ≡ after_one
unfolding rest_of rest_from place_of shifted_at next_at length_at time_at loop_of turns
one_used = refl

-- all three used: nothing is left
all_used : rest_of session 3 70000 ≡ []
unfolding rest_of rest_from place_of shifted_at next_at length_at time_at loop_of turns
all_used = refl

-- two records of it, one used: a buffer of 11 bytes, of which the last two stay; one of 8, which is too short; three used of two; and
-- a session cut short
abbrev two : List ℕ
two = take 17 session

abbrev ones : ℕ → List ℕ
ones n = replicate n 1

answers : rest_answer two 1 5 (ones 11) ∷ rest_answer two 1 5 (ones 8) ∷ rest_answer two 3 5 (ones 11)
    ∷ rest_answer (take 16 session) 1 5 (ones 11) ∷ []
    ≡ rest_wrote 9 ∷ refuses (told 31 none) ∷ refuses (told 30 none) ∷ refuses (told 4 (some 1)) ∷ []
unfolding rest_answer rest_refusal has_fewer rest_of rest_from place_of shifted_at length_at kind_at time_at payload_at next_at length_for fits cut_short
    first_fault fault_at check_turn check_from loop_of turns
answers = refl

buffers : rest_buffer two 1 5 (ones 11) ∷ rest_buffer two 1 5 (ones 8) ∷ []
    ≡ (7 ∷ 0 ∷ 1 ∷ 0 ∷ 0 ∷ 0 ∷ 0 ∷ 0 ∷ 0xA5 ∷ 1 ∷ 1 ∷ []) ∷ ones 8 ∷ []
unfolding rest_buffer rest_refusal has_fewer rest_of rest_from place_of shifted_at length_at kind_at time_at payload_at next_at length_for fits cut_short
    first_fault fault_at check_turn check_from loop_of turns
buffers = refl
