-- The machine: its ranges, cycles passing, reset and power-on.
use Rattle.std.specs.Prelude.{ℕ, ◌≤◌, Bool, true, false, cond, List, [], ◌≡◌, leb, eqb, length, Result, Ok, Err}
use Rattle.bits.specs.declared.Flag.{Flag}
use Rattle.tables.specs.Tables.{vector_of}
use Rattle.tables.specs.declared.Vector.TheVariants.{Reset}
use Rattle.ports.specs.declared.Ports.{Ports}
use Rattle.timer.specs.Timer.{reset_timer}
use Rattle.serial.specs.Serial.{reset_serial}
use Rattle.bus.specs.declared.Bus.{Bus}
use Rattle.bus.specs.Access.{Memories, memories}
use Rattle.bus.specs.Units.{passed, reset_bus, bus_ranges}
use Rattle.registers.specs.declared.Registers.{Registers}
use Rattle.chip.specs.Act.{Act, Act.done, End, timed, ◌>>=◌}
use Rattle.chip.specs.Instructions.{read2}
use Rattle.machine.specs.declared.Machine.{Machine}
use Rattle.machine.specs.declared.PowerRefusal.{PowerRefusal}
use Rattle.machine.specs.declared.PowerRefusal.TheVariants.{WrongImage, WrongStart}

abbrev pub on_chip : Machine → Registers → Bus → Machine
on_chip m c b = record { chip = record { registers = c; bus = b }; irq1 = m.irq1; nmi = m.nmi }

-- a flag is not armed unless set
abbrev pub Settled : Flag → Type 0
Settled f = f.armed ≡ true → f.set ≡ true

-- 01's machine ranges. Condition codes and $14 are bools here, so that their top and low bits hold by construction.
pub record Ranges (b : Bus) : Type 0 where
  pub pins2 : b.ports.port2.pins ≤ 31
  pub latch2 : b.ports.port2.latch ≤ 31
  pub direction2 : b.ports.port2.direction ≤ 31
  pub mode : b.ports.mode ≤ 7
  pub rate : b.serial.rate ≤ 15
  pub start : b.r ≤ 65536
  pub busy : b.serial.busy ≤ 40960
  pub tof : Settled b.timer.tof
  pub ocf : Settled b.timer.ocf
  pub icf : Settled b.timer.icf
  pub tdre : Settled b.serial.tdre
  pub orfe : Settled b.serial.orfe
  pub rdrf : Settled b.serial.rdrf

-- the test of them
abbrev pub ranges_of : Machine → Bool
ranges_of m = bus_ranges m.chip.bus

-- k cycles pass
abbrev pub passed_of : ℕ → Machine → Machine
passed_of k m = on_chip m m.chip.registers (passed k m.chip.bus)

-- "A, B, X, SP .. waiting .. all 0; condition codes $D0"
abbrev pub reset_registers : ℕ → Registers
reset_registers pc = record {
  a = 0;
  b = 0;
  x = 0;
  sp = 0;
  pc = pc;
  codes = record { h = false; i = true; n = false; z = false; v = false; c = false };
  waiting = false;
}

-- "PC from $FFFE"
unfoldable pub reset_act : Act Registers
reset_act = do
  w ← read2 (vector_of Reset)
  done (reset_registers w)

abbrev pub reset_to : Machine → End Registers → Machine
reset_to m o = record { chip = record { registers = o.value; bus = o.bus }; irq1 = m.irq1; nmi = false }

-- reset: "pending NMI .. 0"; pins, IRQ1's level, R and memory are kept, and no cycles pass
unfoldable pub reset_of : Memories → Machine → Machine
reset_of memory m = reset_to m (timed [] 0 reset_act (reset_bus m.chip.bus) memory)

-- what power-on resets: "port 1 pins $FF, port 2 pins $1A, IRQ1 high, bit 7 of $14 zero, and the R given"
abbrev pub cold_ports : Ports
cold_ports = record { port1 = record { direction = 0; latch = 0; pins = 0xFF }; port2 = record { direction = 0; latch = 0; pins = 0x1A }; mode = 0 }

abbrev pub cold : ℕ → Machine
cold r = record {
  chip = record {
    registers = reset_registers 0;
    bus = record { ports = cold_ports; timer = reset_timer; serial = reset_serial; rame = true; standby = false; r = r };
  };
  irq1 = true;
  nmi = false;
}

-- "Power-on takes an image and R and gives a machine, or reply 1 or 2": 1 is WrongImage, 2 WrongStart. It takes no area, and reads none.
unfoldable pub power_on_of : List ℕ → ℕ → Result Machine PowerRefusal
power_on_of image r =
    cond (eqb (length image) 65536)
    (cond (leb r 65536) (Ok (reset_of (memories image []) (cold r))) (Err WrongStart))
    (Err WrongImage)
