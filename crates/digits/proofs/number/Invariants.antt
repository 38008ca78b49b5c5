-- What is read so far. Assumes nothing.
use Rattle.std.proofs.Common.{◌≡◌, drop}
use Rattle.std.specs.Prelude.{Some}
use Rattle.digits.specs.Digits.{value_from, value_of}
use Rattle.digits.proofs.number.Given as goal

abbrev pub invariant-loop-c : goal.invariant-loop-c
invariant-loop-c l = value_of l.base l.text ≡ value_from l.base (Some l.v) (drop l.c-index l.text)
