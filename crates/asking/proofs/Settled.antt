-- The question gives 8 exactly where the opcode is undefined; any two results that a call's contract admits are equal; how long the filled
-- part is. Assumes nothing.
use Prim.Native.Nat.{ℕ, ◌≤◌}
use mathlib.Core.Path.{◌≡◌, refl, sym, ap, ◌∙◌}
use mathlib.Core.List.{List}
use mathlib.Core.Logic.{◌↔◌}
use lib.ListN.{length, take}
use lib.Seq.{take_all, length-take-le}
use Rattle.opcodes.specs.declared.Instruction.{Instruction}
use Rattle.std.specs.Prelude.{Option, None, Some}
use Rattle.opcodes.specs.Opcodes.{decode_of}
use Rattle.laws.proofs.Known.{known}
use Rattle.asking.specs.Asking.{Given, gives, replies, told_decoded, opcode_answer}

abbrev decoded_back : Given Instruction → Option Instruction
decoded_back (gives i) = Some i
decoded_back (replies k) = None

decoded_known : (a b : Option Instruction) → told_decoded a ≡ told_decoded b → a ≡ b
decoded_known = known told_decoded decoded_back back
  where
    back : (a : Option Instruction) → decoded_back (told_decoded a) ≡ a
    back (Some i) = refl
    back None = refl

-- 8: "the opcode .. is undefined"
pub ask_8 : (opcode : ℕ) → (opcode_answer opcode ≡ replies 8) ↔ (decode_of opcode ≡ None)
ask_8 opcode = (decoded_known (decode_of opcode) None, ap told_decoded)

-- else operation, operand place, length and cycles
pub ask_gives : (opcode : ℕ) (i : Instruction) → (opcode_answer opcode ≡ gives i) ↔ (decode_of opcode ≡ Some i)
ask_gives opcode i = (decoded_known (decode_of opcode) (Some i), ap told_decoded)

pub ask_settled : (opcode : ℕ) (d d' : Option Instruction) → told_decoded d ≡ opcode_answer opcode → told_decoded d' ≡ opcode_answer opcode → d ≡ d'
ask_settled opcode d d' e e' = decoded_known d d' (e ∙ sym e')

pub filled_settled : (output : List ℕ) (sent : ℕ) (f f' : List ℕ) → f ≡ take sent output → f' ≡ take sent output → f ≡ f'
filled_settled output sent f f' e e' = e ∙ sym e'

-- the filled part: as long as the sent count, and all of the output where that is larger
pub filled_long : (output : List ℕ) (sent : ℕ) → sent ≤ length output → length (take sent output) ≡ sent
filled_long output sent l = length-take-le sent output l

pub filled_all : (output : List ℕ) (sent : ℕ) → length output ≤ sent → take sent output ≡ output
filled_all output sent l = take_all sent output l
