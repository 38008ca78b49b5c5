-- `end` refuses, or runs to the end. Assumes nothing.
use native.Mathlib.Omega.{arith}
use mathlib.Core.Path.{sym, ap, ◌∙◌}
use Rattle.boundary.specs.World.{lending, terms_of}
use Rattle.cabinet.specs.Answers.{told_admission}
use Rattle.cabinet.proofs.Ends.{start_fine, admitted_within, refusal_ends, run_ends}
use Rattle.cabinet.proofs.end.Goals as goal

pub run-outcome-requires : goal.run-outcome-requires
run-outcome-requires c = let a = c.args in
    let l = lending a.image.now a.area.now a.output.now a.log.now in
    let e = c.admit.ensures l in
    let h = admitted_within (terms_of a.terms) a.m l (sym e ∙ ap told_admission c.in_default.is) in
    (start_fine a.m c.start-start.ensures, omega (arith, h))

pub returns-in-Err : goal.returns-in-Err
returns-in-Err c = let a = c.args in
    let l = lending a.image.now a.area.now a.output.now a.log.now in
    refusal_ends (terms_of a.terms) a.m l
    (c.admit.ensures l) c.start-start.ensures c.in-Err.is

pub returns : goal.returns
returns c = let a = c.args in
    let l = lending a.image.now a.area.now a.output.now a.log.now in
    run_ends (terms_of a.terms) a.m l
    (c.admit.ensures l) c.start-start.ensures
    c.stopped.result c.run-outcome.result.stop c.in_default.is c.run-outcome.ensures c.stopped.ensures
