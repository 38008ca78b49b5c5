-- How long the shared texts can be. Assumes nothing.
use Prim.Native.Nat.{ℕ, ◌≤◌}
use native.Mathlib.Omega.{arith}
use mathlib.Core.List.{List}
use mathlib.Core.Option.{Option, none, some}
use Rattle.arithmetic.specs.Codes.{codes_byte}
use Rattle.registers.specs.declared.Registers.{Registers}
use Rattle.printing.specs.Printing.{ascii}
use Rattle.printing.proofs.Shown.{Short, ◌then◌, short, decimal_short, hexadecimal_short}
use Rattle.lines.specs.declared.Numbers.{Numbers}
use Rattle.lines.specs.Lines.{counts_text, registers_text, refused_text}

pub longer : {m n : ℕ} {text : List ℕ} → m ≤ n → Short m text → Short n text
longer l h = record { most = let k = h.most in omega (arith, l, k) }

pub counts_short : (n : Numbers) → Short 136 (counts_text n)
unfolding counts_text
counts_short n =
    (short (ascii " cycles ") then decimal_short n.cycles)
    then (short (ascii " instr ") then decimal_short n.instructions)
    then (short (ascii " entries ") then decimal_short n.entries)
    then (short (ascii " used ") then decimal_short n.used)
    then (short (ascii " sent ") then decimal_short n.sent)

pub registers_short : (c : Registers) → Short 39 (registers_text c)
unfolding registers_text
registers_short c =
    (short (ascii " pc ") then hexadecimal_short 4 c.pc)
    then (short (ascii " a ") then hexadecimal_short 2 c.a)
    then (short (ascii " b ") then hexadecimal_short 2 c.b)
    then (short (ascii " x ") then hexadecimal_short 4 c.x)
    then (short (ascii " sp ") then hexadecimal_short 4 c.sp)
    then (short (ascii " cc ") then hexadecimal_short 2 (codes_byte c.codes))

pub refused_short : (k : ℕ) (r : Option ℕ) → Short 200 (refused_text k r)
unfolding refused_text
refused_short k none = longer (omega arith) (short (ascii "refused ") then decimal_short k)
refused_short k (some r) =
    longer (omega arith) ((short (ascii "refused ") then decimal_short k) then (short (ascii " record ") then decimal_short r))
