-- What each C call that runs nothing leaves, for all inputs: the number that it returns, and every byte of what it is lent to write.
-- Beside 01's replies: 26 a saved machine that is not 42 bytes (crates/saved); 29 a buffer for a record is too short; 30 and 31 as
-- crates/rest says. A call that returns 26 or above writes nothing.
use Rattle.std.specs.Prelude.{ℕ, cond, List, eqb, ltb, length}
use Rattle.std.proofs.Math.Option.{some}
use Rattle.numbers.specs.Numbers.{over}
use Rattle.opcodes.specs.declared.Instruction.{Instruction}
use Rattle.machine.specs.declared.Machine.{Machine}
use Rattle.asking.specs.Asking.{Given, gives, replies, opcode_answer}
use Rattle.power.specs.Power.{power_answer}
use Rattle.saved.specs.Layout.{saved_of}
use Rattle.rest.specs.Answers as rest
use Rattle.board_numbers.specs.Numbers.{instruction_bytes}
use Rattle.board_results.specs.Returned.{Returned, returned, named_in}

-- what power-on and the question about an opcode return, and the one buffer that each is lent to write
pub record Wrote : Type 0 where
  pub number : ℕ
  pub bytes : List ℕ

abbrev pub wrote : ℕ → List ℕ → Wrote
wrote number bytes = record { number = number; bytes = bytes }

-- power-on: 26 where the buffer for the saved machine is not 42 bytes; then 1 or 2, or 0 and the saved machine
abbrev pub on_power : List ℕ → Given Machine → Wrote
on_power machine (gives m) = wrote 0 (saved_of m)
on_power machine (replies k) = wrote k machine

unfoldable pub power_call : List ℕ → ℕ → List ℕ → Wrote
power_call image r machine = cond (eqb (length machine) 42) (on_power machine (power_answer image r)) (wrote 26 machine)

-- the question: 29 where the buffer has less than 6 bytes; then 8, or 0 and the instruction's six numbers
abbrev pub on_ask : List ℕ → Given Instruction → Wrote
on_ask answer (gives i) = wrote 0 (over (instruction_bytes i) answer)
on_ask answer (replies k) = wrote k answer

unfoldable pub ask_call : ℕ → List ℕ → Wrote
ask_call opcode answer = cond (ltb (length answer) 6) (wrote 29 answer) (on_ask answer (opcode_answer opcode))

-- the result's 8 bytes tell the rest's length, or the record that 4 to 7 name
abbrev pub on_rest : List ℕ → List ℕ → rest.RestReply → Returned
on_rest buffer result (rest.rest_wrote length) = returned 0 buffer (named_in (some length) result)
on_rest buffer result (rest.refuses t) = returned t.number buffer (named_in t.named result)

-- the rest of a session: 29 where the result has less than 8 bytes; then 4 to 7, 30 or 31, or 0 and the rest
unfoldable pub rest_call : List ℕ → ℕ → ℕ → List ℕ → List ℕ → Returned
rest_call session used cycles buffer result =
    cond (ltb (length result) 8) (returned 29 buffer result)
    (on_rest (rest.rest_buffer session used cycles buffer) result (rest.rest_answer session used cycles buffer))
