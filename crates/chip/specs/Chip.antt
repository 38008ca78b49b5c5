-- How the functions tell what a tree comes to: the processor on its bus, with the memories.
use Rattle.std.specs.Prelude.{ℕ, List}
use Rattle.bits.specs.declared.Read.{Read}
use Rattle.bus.specs.Access.{Memories}
use Rattle.moments.specs.declared.Clocked.{Clocked}
use Rattle.moments.specs.Clocked.{moment_of}
use Rattle.registers.specs.declared.Registers.{Registers}
use Rattle.chip.specs.declared.Chip.{Chip}
use Rattle.chip.specs.declared.Core.{Core}
use Rattle.chip.specs.Act.{Act, Out, out, run, End, end, timed}
use Rattle.chip.specs.Instructions.{Spot, Pulled}

-- a tree of the core's registers, run from its moment on
abbrev pub run_on : {A : Type 0} → (Registers → Act A) → Core → Memories → Out A
run_on t p m = run (t p.registers) (moment_of p.bus) m

abbrev pub ran : Core → Memories → Out Registers
ran p m = out p.registers (moment_of p.bus) m

abbrev pub located : Read ℕ Core → Memories → Out Spot
located l m = out (record { at = l.value; registers = l.next.registers }) (moment_of l.next.bus) m

abbrev pub popped : Read ℕ Core → Memories → Out Pulled
popped p m = out (record { value = p.value; registers = p.next.registers }) (moment_of p.next.bus) m

-- the core with other registers, at the same moment
abbrev pub with_registers : Core → Registers → Core
with_registers p c = record { registers = c; bus = p.bus }

abbrev pub core_of : Registers → Clocked → Core
core_of c b = record { registers = c; bus = b }

-- n cycles of the chip, with the accesses in the cycles listed
abbrev pub timed_on : List ℕ → ℕ → (Registers → Act Registers) → Chip → Memories → End Registers
timed_on ks n t p m = timed ks n (t p.registers) p.bus m

abbrev pub left : Chip → Memories → End Registers
left p m = end p.registers p.bus m
