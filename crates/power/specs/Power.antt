-- What power-on answers.
use Rattle.std.specs.Prelude.{ℕ, List, Result, Ok, Err}
use Rattle.machine.specs.declared.Machine.{Machine}
use Rattle.machine.specs.declared.PowerRefusal.{PowerRefusal}
use Rattle.machine.specs.declared.PowerRefusal.TheVariants.{WrongImage, WrongStart}
use Rattle.machine.specs.Machine.{power_on_of}
use Rattle.asking.specs.Asking.{Given, gives, replies}

-- "Power-on .. gives a machine, or reply 1 or 2"
abbrev pub told_power : Result Machine PowerRefusal → Given Machine
told_power (Ok m) = gives m
told_power (Err WrongImage) = replies 1
told_power (Err WrongStart) = replies 2

abbrev pub power_answer : List ℕ → ℕ → Given Machine
power_answer image r = told_power (power_on_of image r)
