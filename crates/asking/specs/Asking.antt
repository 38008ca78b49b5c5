-- What the question about one opcode answers.
use Rattle.std.specs.Prelude.{ℕ, Option, None, Some}
use Rattle.opcodes.specs.declared.Instruction.{Instruction}
use Rattle.opcodes.specs.Opcodes.{decode_of}

-- an answer that is a value, or a reply's number
pub data Given (A : Type 0) : Type 0 where
  gives : A → Given A
  replies : ℕ → Given A

-- "Asking about one opcode gives operation, operand place, length and cycles, or reply 8"
abbrev pub told_decoded : Option Instruction → Given Instruction
told_decoded (Some i) = gives i
told_decoded None = replies 8

abbrev pub opcode_answer : ℕ → Given Instruction
opcode_answer opcode = told_decoded (decode_of opcode)
