-- How the functions tell a moment. The units may lag behind the cycle that the instruction has come to, as long as nobody looks.
use Rattle.std.specs.Prelude.{ℕ, ◌+◌, ◌-◌}
use Rattle.bits.specs.declared.Read.{Read}
use Rattle.bus.specs.Units.{passed}
use Rattle.timing.specs.Digits.{listed}
use Rattle.moments.specs.declared.Clocked.{Clocked}
use Rattle.moments.specs.Moment.{Moment, moment}

-- the cycles by which the units lag
abbrev pub lag : Clocked → ℕ
lag c = c.cycle - c.shown

abbrev pub moment_of : Clocked → Moment
moment_of c = moment (passed (lag c) c.bus) (c.shown + lag c) (listed c.ahead)

abbrev pub read_on : Read ℕ Clocked → Read ℕ Moment
read_on s = record { value = s.value; next = moment_of s.next }
