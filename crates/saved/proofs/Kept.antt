-- Save, then load: the machine. Assumes nothing.
use Prim.Native.Nat.{◌/◌, ◌%◌}
use native.Mathlib.Omega.{arith}
use mathlib.Core.Path.{◌≡◌, refl, sym, ap, ◌∙◌}
use mathlib.Core.Bool.{Bool, true, false, ◌&&◌}
use lib.Dec.{leb, eqb}
use borrow.Author.Tests.{le-leb, eq-eqb}
use Rattle.bits.specs.Bits.{weight, bit}
use Rattle.bits.specs.declared.Flag.{Flag}
use Rattle.arithmetic.specs.Codes.{codes_byte}
use Rattle.arithmetic.proofs.CodesByte.{codes_kept, codes_above, codes_below}
use Rattle.registers.specs.declared.Registers.{Registers}
use Rattle.timer.specs.declared.Timer.{Timer}
use Rattle.serial.specs.declared.Serial.{Serial}
use Rattle.serial.specs.Serial.{trcs_of}
use Rattle.bus.specs.declared.Bus.{Bus}
use Rattle.bus.specs.Access.{ram_control_of}
use Rattle.machine.specs.declared.Machine.{Machine}
use Rattle.machine.specs.Machine.{ranges_of}
use Rattle.saved.specs.Layout.{arms_of, saved_of, registers_in, ports_in, timer_in, serial_in, bus_in, machine_in}
use Rattle.asking.specs.Asking.{gives, replies}
use Rattle.saved.specs.Answers.{stands_of, ranges_in, load_of}
use Rattle.bits.proofs.Bytes.{bool_kept, bool_most, bits_kept}
use Rattle.saved.proofs.Bytes.{word_kept, long_kept, arms_none, control_none}
use Rattle.saved.proofs.Answers.{wrong_machine, ready}

module _ (m : Machine) where
  abbrev c : Registers
  c = m.chip.registers

  abbrev b : Bus
  b = m.chip.bus

  abbrev t : Timer
  t = b.timer

  abbrev s : Serial
  s = b.serial

  registers_kept : registers_in (saved_of m) ≡ c
  unfolding saved_of
  registers_kept =
      λ i. record {
        a = c.a;
        b = c.b;
        x = word_kept c.x i;
        sp = word_kept c.sp i;
        pc = word_kept c.pc i;
        codes = codes_kept c.codes i;
        waiting = bool_kept c.waiting i;
      }

  ports_kept : ports_in (saved_of m) ≡ b.ports
  unfolding saved_of
  ports_kept = refl

  timer_kept : timer_in (saved_of m) ≡ t
  unfolding saved_of
  timer_kept =
      let r = bits_kept t.olvl t.iedg t.etoi t.eoci t.eici t.tof.set t.ocf.set t.icf.set in
      let a = bits_kept false false false false false t.tof.armed t.ocf.armed t.icf.armed in
      λ i. record {
        olvl = r.0 i;
        iedg = r.1 i;
        etoi = r.2 i;
        eoci = r.3 i;
        eici = r.4 i;
        tof = record { set = r.5 i; armed = a.5 i };
        ocf = record { set = r.6 i; armed = a.6 i };
        icf = record { set = r.7 i; armed = a.7 i };
        counter = word_kept t.counter i;
        compare = word_kept t.compare i;
        capture = word_kept t.capture i;
        level = bool_kept t.level i;
      }

  serial_kept : serial_in (saved_of m) ≡ s
  unfolding saved_of trcs_of
  serial_kept =
      let r = bits_kept s.wu s.te s.tie s.re s.rie s.tdre.set s.orfe.set s.rdrf.set in
      let a = bits_kept false false false false false s.tdre.armed s.orfe.armed s.rdrf.armed in
      λ i. record {
        wu = r.0 i;
        te = r.1 i;
        tie = r.2 i;
        re = r.3 i;
        rie = r.4 i;
        tdre = record { set = r.5 i; armed = a.5 i };
        orfe = record { set = r.6 i; armed = a.6 i };
        rdrf = record { set = r.7 i; armed = a.7 i };
        rate = s.rate;
        received = s.received;
        transmit = s.transmit;
        busy = word_kept s.busy i;
      }

  bus_kept : bus_in (saved_of m) ≡ b
  unfolding saved_of
  bus_kept =
      let r = bits_kept false false false false false false b.rame b.standby in
      λ i. record { ports = ports_kept i; timer = timer_kept i; serial = serial_kept i; rame = r.6 i; standby = r.7 i; r = long_kept b.r i }

  -- the saved bytes stand for the machine
  pub machine_kept : machine_in (saved_of m) ≡ m
  unfolding saved_of machine_in
  machine_kept =
      λ i. record { chip = record { registers = registers_kept i; bus = bus_kept i }; irq1 = bool_kept m.irq1 i; nmi = bool_kept m.nmi i }

  stands_kept : stands_of (saved_of m) ≡ true
  unfolding saved_of stands_of
  stands_kept =
      let arms : (f5 f6 f7 : Flag) → eqb (arms_of f5 f6 f7 % 32) 0 ≡ true = λ f5 f6 f7. eq-eqb _ 0 (arms_none f5.armed f6.armed f7.armed) in
      let one : (y : Bool) → leb (weight y 1) 1 ≡ true = λ y. le-leb (weight y 1) 1 (bool_most y) in
      λ i. one c.waiting i && one m.nmi i && one m.irq1 i && one t.level i && arms t.tof t.ocf t.icf i && arms s.tdre s.orfe s.rdrf i

  ranges_kept : ranges_in (saved_of m) m ≡ ranges_of m
  unfolding saved_of ranges_in
  ranges_kept =
      let l = codes_above c.codes in
      let h = codes_below c.codes in
      let top : bit (codes_byte c.codes) 128 ≡ true = eq-eqb (codes_byte c.codes / 128 % 2) 1 (omega (arith, l, h)) in
      let next : bit (codes_byte c.codes) 64 ≡ true = eq-eqb (codes_byte c.codes / 64 % 2) 1 (omega (arith, l, h)) in
      let none : eqb (ram_control_of b % 64) 0 ≡ true = eq-eqb (ram_control_of b % 64) 0 (control_none b.rame b.standby) in
      λ i. top i && next i && none i && ranges_of m

  -- a machine in its ranges is loaded again
  pub save_then_load : ranges_of m ≡ true → load_of (saved_of m) ≡ gives m
  unfolding saved_of
  save_then_load e = ready (saved_of m) m refl refl stands_kept (sym machine_kept) (ranges_kept ∙ e)

  -- any other is refused with 2
  pub saved_refused : ranges_of m ≡ false → load_of (saved_of m) ≡ replies 2
  unfolding saved_of
  saved_refused e = wrong_machine (saved_of m) m refl refl stands_kept (sym machine_kept) (ranges_kept ∙ e)

-- machines with the same bytes are one
pub saved_once : (m m' : Machine) → saved_of m ≡ saved_of m' → m ≡ m'
saved_once m m' e = sym (machine_kept m) ∙ ap machine_in e ∙ machine_kept m'
