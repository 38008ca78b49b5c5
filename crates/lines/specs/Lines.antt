-- The words that the programs' lines share.
use Rattle.std.specs.Prelude.{ℕ, List, ◌++◌}
use Prim.Native.String.{String}
use Rattle.std.proofs.Math.Option.{Option, none, some}
use Rattle.arithmetic.specs.Codes.{codes_byte}
use Rattle.registers.specs.declared.Registers.{Registers}
use Rattle.printing.specs.Printing.{ascii, decimal_of, hexadecimal_of}
use Rattle.replies.specs.Replies.{Told}
use Rattle.lines.specs.declared.Numbers.{Numbers}

-- a word, and a number in decimal; a word, and so many digits in hexadecimal
abbrev pub counted : String → ℕ → List ℕ
counted word n = ascii word ++ decimal_of n

abbrev pub coded : String → ℕ → ℕ → List ℕ
coded word digits n = ascii word ++ hexadecimal_of digits n

-- "cycles, instructions, interrupt entries, records used and bytes sent in decimal, then registers in hexadecimal"
unfoldable pub counts_text : Numbers → List ℕ
counts_text n =
    counted " cycles " n.cycles
    ++ counted " instr " n.instructions
    ++ counted " entries " n.entries
    ++ counted " used " n.used
    ++ counted " sent " n.sent

unfoldable pub registers_text : Registers → List ℕ
registers_text c =
    coded " pc " 4 c.pc
    ++ coded " a " 2 c.a
    ++ coded " b " 2 c.b
    ++ coded " x " 4 c.x
    ++ coded " sp " 4 c.sp
    ++ coded " cc " 2 (codes_byte c.codes)

-- "Replies 1 to 3 and 10 print `refused K`; 4 to 7 print `refused K record R`"; 02's 12 prints as 1 does
unfoldable pub refused_text : ℕ → Option ℕ → List ℕ
refused_text k none = counted "refused " k
refused_text k (some r) = counted "refused " k ++ counted " record " r

abbrev pub refusal : Told → List ℕ
refusal t = refused_text t.number t.named
