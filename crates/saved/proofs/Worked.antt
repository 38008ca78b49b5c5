-- A machine saved, byte by byte, and loaded again; both computed. Assumes nothing.
use Prim.Native.Nat.{ℕ}
use mathlib.Core.Path.{◌≡◌, refl}
use mathlib.Core.Bool.{true, false}
use mathlib.Core.List.{List, [], ◌∷◌}
use Rattle.arithmetic.specs.Codes.{codes_byte, codes_of}
use Rattle.ports.specs.Ports.{ports_ranges, reset_ports}
use Rattle.timer.specs.Timer.{ticks, timer_ranges, reset_timer}
use Rattle.serial.specs.Serial.{trcs_of, ticks_serial, serial_ranges, reset_serial}
use Rattle.bus.specs.Access.{memories, read_of}
use Rattle.bus.specs.Units.{passed, reset_bus, bus_ranges}
use Rattle.moments.specs.Moment.{to_next, read_at, ended}
use Rattle.chip.specs.Act.{timed, run, read, ◌>>=◌}
use Rattle.chip.specs.Instructions.{read2}
use Rattle.machine.specs.declared.Machine.{Machine}
use Rattle.machine.specs.Machine.{reset_act, reset_of, cold}
use Rattle.saved.specs.Layout.{saved_of, machine_in}
use Rattle.asking.specs.Asking.{gives}
use Rattle.saved.specs.Answers.{stands_of, ranges_in, load_of}

-- power-on of an image whose bytes are 0, all memory writable
abbrev pub powered : Machine
powered = reset_of (memories [] []) (cold 65536)

-- codes D0, IRQ1 high, port 1 pins FF, port 2 pins 1A with mode 2, compare FFFF, TRCS 20, $14 40, R 65,536; all else 0
abbrev pub powered_bytes : List ℕ
powered_bytes =
    1 ∷ 0
    ∷ 0 ∷ 0 ∷ 0 ∷ 0 ∷ 0 ∷ 0 ∷ 0 ∷ 0 ∷ 0xD0 ∷ 0 ∷ 0 ∷ 1
    ∷ 0 ∷ 0 ∷ 0xFF ∷ 0 ∷ 0 ∷ 0x1A ∷ 2
    ∷ 0 ∷ 0 ∷ 0 ∷ 0xFF ∷ 0xFF ∷ 0 ∷ 0 ∷ 0
    ∷ 0 ∷ 0x20 ∷ 0 ∷ 0 ∷ 0 ∷ 0 ∷ 0x40 ∷ 0 ∷ 0
    ∷ 0 ∷ 0 ∷ 1 ∷ 0
    ∷ []

pub powered_saved : saved_of powered ≡ powered_bytes
unfolding saved_of reset_of reset_act reset_bus reset_ports reset_timer reset_serial read_of passed ticks ticks_serial to_next read_at ended timed run read ◌>>=◌ read2 codes_byte trcs_of
powered_saved = refl

pub powered_loaded : load_of powered_bytes ≡ gives powered
unfolding load_of machine_in stands_of ranges_in bus_ranges ports_ranges timer_ranges serial_ranges reset_of reset_act reset_bus reset_ports reset_timer reset_serial
    read_of passed ticks ticks_serial to_next read_at ended timed run read ◌>>=◌ read2 codes_of
powered_loaded = refl

-- a machine whose fields are all told apart
abbrev pub sample : Machine
sample =
    record {
      chip = record {
        registers = record { a = 0x0A; b = 0x0B; x = 0x1234; sp = 0x5678; pc = 0x9ABC; codes = record { h = true; i = false; n = true; z = false; v = false; c = true }; waiting = true };
        bus = record {
          ports = record {
            port1 = record { direction = 0x11; latch = 0x12; pins = 0x13 };
            port2 = record { direction = 0x14; latch = 0x15; pins = 0x16 };
            mode = 7;
          };
          timer = record {
            olvl = true;
            iedg = false;
            etoi = false;
            eoci = true;
            eici = false;
            tof = record { set = true; armed = true };
            ocf = record { set = true; armed = false };
            icf = record { set = false; armed = false };
            counter = 0xFEDC;
            compare = 0xBA98;
            capture = 0x7654;
            level = true;
          };
          serial = record {
            wu = false;
            te = true;
            tie = false;
            re = true;
            rie = true;
            tdre = record { set = false; armed = false };
            orfe = record { set = true; armed = true };
            rdrf = record { set = true; armed = true };
            rate = 0x0F;
            received = 0x41;
            transmit = 0x42;
            busy = 0x9FFF;
          };
          rame = false;
          standby = true;
          r = 0xC321;
        };
      };
      irq1 = false;
      nmi = true;
    }

abbrev pub sample_bytes : List ℕ
sample_bytes =
    1 ∷ 0
    ∷ 0x0A ∷ 0x0B ∷ 0x34 ∷ 0x12 ∷ 0x78 ∷ 0x56 ∷ 0xBC ∷ 0x9A ∷ 0xE9 ∷ 1 ∷ 1 ∷ 0
    ∷ 0x11 ∷ 0x12 ∷ 0x13 ∷ 0x14 ∷ 0x15 ∷ 0x16 ∷ 7
    ∷ 0x69 ∷ 0xDC ∷ 0xFE ∷ 0x98 ∷ 0xBA ∷ 0x54 ∷ 0x76 ∷ 1
    ∷ 0x0F ∷ 0xDA ∷ 0x41 ∷ 0x42 ∷ 0x20 ∷ 0xC0 ∷ 0x80 ∷ 0xFF ∷ 0x9F
    ∷ 0x21 ∷ 0xC3 ∷ 0 ∷ 0
    ∷ []

pub sample_saved : saved_of sample ≡ sample_bytes
unfolding saved_of codes_byte trcs_of
sample_saved = refl

pub sample_loaded : load_of sample_bytes ≡ gives sample
unfolding load_of machine_in stands_of ranges_in bus_ranges ports_ranges timer_ranges serial_ranges codes_of
sample_loaded = refl
