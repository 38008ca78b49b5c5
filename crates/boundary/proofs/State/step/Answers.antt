use Rattle.std.proofs.Common.{sym, ◌∙◌, arith}
use Rattle.boundary.proofs.Cases.{step_fits}
use Rattle.boundary.proofs.State.step.Goals as goal

pub moved-requires : goal.moved-requires
moved-requires c = let runs = sym c.look.ensures ∙ c.in-Some.is in
    let ready = c.requires in
    step_fits _ _ _ _ _ runs c.step-e.ensures ready (omega arith) (omega arith)
