use Rattle.plain.specs.Plainly.{Plainly}
use mathlib.Core.Path.{refl, sym, ◌∙◌}
use Rattle.plain.proofs.Hopping.{hopped}
use Rattle.plain.proofs.step.Goals as goal

pub returns : goal.returns
unfolding Plainly
returns c = hopped _ _ _ _ _ _ _ _ c.if-c-floor.false c.peek.ensures (sym c.decode.ensures ∙ c.in_ok-i.was) refl c.in_ok-registers.ensures

pub returns-in_err-registers : goal.returns-in_err-registers
unfolding Plainly
returns-in_err-registers c = rw c.from_residual-in_err-registers.ensures c.in_err-registers.ensures
