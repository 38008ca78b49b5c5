-- The saved machine, version 1: 42 bytes, words and R little-endian. A yes or no is 1 or 0.
--
--   0  version (2), 1        14  port 1 direction     28  output level, 0 or 1
--   2  A                     15  port 1 latch         29  rate register
--   3  B                     16  port 1 pins          30  TRCS
--   4  X (2)                 17  port 2 direction     31  received byte
--   6  SP (2)                18  port 2 latch         32  transmit byte
--   8  PC (2)                19  port 2 pins          33  arms of TCSR's flags, bits 5 to 7 as in TCSR
--  10  condition codes       20  mode                 34  arms of TRCS's flags, bits 5 to 7 as in TRCS
--  11  waiting, 0 or 1       21  TCSR                 35  $14
--  12  pending NMI, 0 or 1   22  counter (2)          36  busy (2)
--  13  IRQ1 level, 0 or 1    24  compare (2)          38  R (4)
--                            26  capture (2)
use Rattle.std.specs.Prelude.{ℕ, ◌+◌, ◌/◌, Bool, false, List, [], ◌∷◌, eqb, get_or}
use Rattle.numbers.specs.Numbers.{two, four}
use Rattle.bits.specs.Bits.{weight, bit, byte_of}
use Rattle.bits.specs.Words.{high, low}
use Rattle.bits.specs.declared.Flag.{Flag}
use Rattle.arithmetic.specs.Codes.{codes_byte, codes_of}
use Rattle.registers.specs.declared.Registers.{Registers}
use Rattle.ports.specs.declared.Port.{Port}
use Rattle.ports.specs.declared.Ports.{Ports}
use Rattle.timer.specs.declared.Timer.{Timer}
use Rattle.timer.specs.Timer.{tcsr_of}
use Rattle.serial.specs.declared.Serial.{Serial}
use Rattle.serial.specs.Serial.{trcs_of}
use Rattle.bus.specs.declared.Bus.{Bus}
use Rattle.bus.specs.Access.{ram_control_of}
use Rattle.machine.specs.declared.Machine.{Machine}

-- the arms of three flags, in the places of the flags' own bits, 5 to 7
abbrev pub arms_of : Flag → Flag → Flag → ℕ
arms_of f5 f6 f7 = byte_of false false false false false f5.armed f6.armed f7.armed

-- the machine as bytes
unfoldable pub saved_of : Machine → List ℕ
saved_of m =
    let c = m.chip.registers in
    let b = m.chip.bus in
    let p = b.ports in
    let t = b.timer in
    let s = b.serial in
    1 ∷ 0
    ∷ c.a ∷ c.b ∷ low c.x ∷ high c.x ∷ low c.sp ∷ high c.sp ∷ low c.pc ∷ high c.pc
    ∷ codes_byte c.codes ∷ weight c.waiting 1 ∷ weight m.nmi 1 ∷ weight m.irq1 1
    ∷ p.port1.direction ∷ p.port1.latch ∷ p.port1.pins
    ∷ p.port2.direction ∷ p.port2.latch ∷ p.port2.pins ∷ p.mode
    ∷ tcsr_of t ∷ low t.counter ∷ high t.counter ∷ low t.compare ∷ high t.compare
    ∷ low t.capture ∷ high t.capture ∷ weight t.level 1
    ∷ s.rate ∷ trcs_of s ∷ s.received ∷ s.transmit
    ∷ arms_of t.tof t.ocf t.icf ∷ arms_of s.tdre s.orfe s.rdrf ∷ ram_control_of b
    ∷ low s.busy ∷ high s.busy
    ∷ low b.r ∷ low (b.r / 256) ∷ low (b.r / 65536) ∷ b.r / 16777216
    ∷ []

-- byte k of some bytes, 0 past their end; the word, the four-byte number, and the yes or no that begin there
abbrev pub byte_in : List ℕ → ℕ → ℕ
byte_in l k = get_or l k 0

abbrev pub word_at : List ℕ → ℕ → ℕ
word_at l k = two l 0 k

abbrev pub long_at : List ℕ → ℕ → ℕ
long_at l k = four l 0 k

abbrev pub bool_at : List ℕ → ℕ → Bool
bool_at l k = eqb (byte_in l k) 1

-- the flag whose bit has weight w: in the register's byte whether it is set, in the arms' byte whether it is armed
abbrev pub flag_of : ℕ → ℕ → ℕ → Flag
flag_of register arms w = record { set = bit register w; armed = bit arms w }

-- the machine that bytes stand for, unit by unit
abbrev pub registers_in : List ℕ → Registers
registers_in l =
    record { a = byte_in l 2; b = byte_in l 3; x = word_at l 4; sp = word_at l 6; pc = word_at l 8; codes = codes_of (byte_in l 10); waiting = bool_at l 11 }

abbrev pub port_at : List ℕ → ℕ → Port
port_at l k = record { direction = byte_in l k; latch = byte_in l (k + 1); pins = byte_in l (k + 2) }

abbrev pub ports_in : List ℕ → Ports
ports_in l = record { port1 = port_at l 14; port2 = port_at l 17; mode = byte_in l 20 }

abbrev pub timer_in : List ℕ → Timer
timer_in l =
    let tcsr = byte_in l 21 in
    let arms = byte_in l 33 in
    record {
      olvl = bit tcsr 1;
      iedg = bit tcsr 2;
      etoi = bit tcsr 4;
      eoci = bit tcsr 8;
      eici = bit tcsr 16;
      tof = flag_of tcsr arms 32;
      ocf = flag_of tcsr arms 64;
      icf = flag_of tcsr arms 128;
      counter = word_at l 22;
      compare = word_at l 24;
      capture = word_at l 26;
      level = bool_at l 28;
    }

abbrev pub serial_in : List ℕ → Serial
serial_in l =
    let trcs = byte_in l 30 in
    let arms = byte_in l 34 in
    record {
      wu = bit trcs 1;
      te = bit trcs 2;
      tie = bit trcs 4;
      re = bit trcs 8;
      rie = bit trcs 16;
      tdre = flag_of trcs arms 32;
      orfe = flag_of trcs arms 64;
      rdrf = flag_of trcs arms 128;
      rate = byte_in l 29;
      received = byte_in l 31;
      transmit = byte_in l 32;
      busy = word_at l 36;
    }

abbrev pub bus_in : List ℕ → Bus
bus_in l =
    record { ports = ports_in l; timer = timer_in l; serial = serial_in l; rame = bit (byte_in l 35) 64; standby = bit (byte_in l 35) 128; r = long_at l 38 }

unfoldable pub machine_in : List ℕ → Machine
machine_in l = record { chip = record { registers = registers_in l; bus = bus_in l }; irq1 = bool_at l 13; nmi = bool_at l 12 }
