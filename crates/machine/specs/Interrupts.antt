-- Step 4 of a boundary: which causes hold, the first in 01's order, and the others that hold behind it.
use Rattle.std.specs.Prelude.{ℕ, Bool, false, not, cond, ◌&&◌, List, [], ◌∷◌, eqb, Option, None, Some}
use Rattle.bits.specs.Bits.{byte_of}
use Rattle.tables.specs.declared.Vector.{Vector}
use Rattle.tables.specs.declared.Vector.TheVariants as vectors
use Rattle.serial.specs.Serial.{serial_request}
use Rattle.machine.specs.declared.Machine.{Machine}
use Rattle.machine.specs.declared.Cause.{Cause}
use Rattle.machine.specs.declared.Cause.TheVariants.{Nmi, Irq1, Icf, Ocf, Tof, Serial}

-- "a pending NMI; else with I clear the first of IRQ1 low, ICF with EICI, OCF with EOCI, TOF with ETOI, serial (RIE with RDRF or
-- ORFE, or TIE with TDRE)"
abbrev pub holds : Cause → Machine → Bool
holds Nmi m = m.nmi
holds Irq1 m = not m.chip.registers.codes.i && not m.irq1
holds Icf m = not m.chip.registers.codes.i && (m.chip.bus.timer.icf.set && m.chip.bus.timer.eici)
holds Ocf m = not m.chip.registers.codes.i && (m.chip.bus.timer.ocf.set && m.chip.bus.timer.eoci)
holds Tof m = not m.chip.registers.codes.i && (m.chip.bus.timer.tof.set && m.chip.bus.timer.etoi)
holds Serial m = not m.chip.registers.codes.i && serial_request m.chip.bus.serial

abbrev pub causes : List Cause
causes = Nmi ∷ Irq1 ∷ Icf ∷ Ocf ∷ Tof ∷ Serial ∷ []

-- the first of some causes that holds
abbrev pub first_cause : List Cause → Machine → Option Cause
first_cause [] m = None
first_cause (k ∷ ks) m = cond (holds k m) (Some k) (first_cause ks m)

unfoldable pub pending_of : Machine → Option Cause
pending_of m = first_cause causes m

abbrev pub vector_for : Cause → Vector
vector_for Nmi = vectors.Nmi
vector_for Irq1 = vectors.Irq1
vector_for Icf = vectors.Icf
vector_for Ocf = vectors.Ocf
vector_for Tof = vectors.Tof
vector_for Serial = vectors.Serial

-- "a pending NMI (then no longer pending)"
abbrev pub nmi_after : Cause → Bool → Bool
nmi_after Nmi nmi = false
nmi_after Irq1 nmi = nmi
nmi_after Icf nmi = nmi
nmi_after Ocf nmi = nmi
nmi_after Tof nmi = nmi
nmi_after Serial nmi = nmi

-- 02's wake log names a cause by its number: 0 NMI, 1 IRQ1, 2 ICF, 3 OCF, 4 TOF, 5 serial
abbrev pub cause_number : Cause → ℕ
cause_number Nmi = 0
cause_number Irq1 = 1
cause_number Icf = 2
cause_number Ocf = 3
cause_number Tof = 4
cause_number Serial = 5

-- "those listed behind it are all the others that held"
abbrev pub holds_behind : Cause → Cause → Machine → Bool
holds_behind cause other m = holds other m && not (eqb (cause_number cause) (cause_number other))

-- .. as a mask, bit k for cause k
abbrev pub behind_of : Cause → Machine → ℕ
behind_of cause m =
    byte_of (holds_behind cause Nmi m) (holds_behind cause Irq1 m) (holds_behind cause Icf m)
    (holds_behind cause Ocf m) (holds_behind cause Tof m) (holds_behind cause Serial m) false false
