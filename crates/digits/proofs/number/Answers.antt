-- `digits::number` meets its contract: each turn reads one digit more. Assumes nothing.
use Rattle.std.proofs.Common.{arith}
use Rattle.std.proofs.lemmas.List.{drop_all}
use Rattle.digits.specs.Digits.{value_of, value_from}
use Rattle.digits.proofs.Laws.{from_none, from_step}
use Rattle.digits.proofs.number.Goals as goal

pub returns-then-is_empty : goal.returns-then-is_empty
unfolding value_of
returns-then-is_empty c = grind arith

pub loop-c-init : goal.loop-c-init
unfolding value_of
loop-c-init c = grind arith

pub returns-in_err-v : goal.returns-in_err-v
returns-in_err-v c = grind (arith, from_none, from_step, c.loop-c.invariant, c.from_residual.ensures, c.in_err-v.ensures)

pub loop-c-preserved : goal.loop-c-preserved
loop-c-preserved c = grind (arith, from_step, c.loop-c.invariant, c.in_ok-v.ensures)

pub returns : goal.returns
unfolding value_from
returns c = grind (arith, drop_all, c.loop-c.invariant)
