-- `execution_map::first_unrun` meets its contract: the full search is what is left of it at each turn, and its first is found there. Assumes nothing.
use Prim.Native.Nat.{◌+◌}
use native.Mathlib.Omega.{arith}
use mathlib.Core.Path.{sym, ◌∙◌}
use borrow.Author.Tests.{eq-eqb, ne_eqb}
use Rattle.execution_map.specs.Map.{unrun_answer}
use Rattle.execution_map.proofs.Search.{from_more, from_here, from_end}
use Rattle.execution_map.proofs.first_unrun.Goals as goal

pub returns-then-map-ne8192 : goal.returns-then-map-ne8192
unfolding unrun_answer
returns-then-map-ne8192 c = rw (ne_eqb _ _ c.if-map-ne8192.true)

pub returns-then-not-has_run : goal.returns-then-not-has_run
unfolding unrun_answer
returns-then-not-has_run c =
    let here = from_here _ _ _ c.loop-at-test.true (sym c.has_run.ensures ∙ c.if-not-has_run.true) in
    rw (eq-eqb _ _ c.if-map-ne8192.false, c.loop-at.invariant, here)

pub loop-at-preserved : goal.loop-at-preserved
loop-at-preserved c =
    c.loop-at.invariant
    ∙ from_more _ _ _ c.loop-at-test.true (sym c.has_run.ensures ∙ c.if-not-has_run.false)

pub returns-else-map-ne8192 : goal.returns-else-map-ne8192
unfolding unrun_answer
returns-else-map-ne8192 c =
    let end = from_end c.args.map.now _ _ c.loop-at-test.false in
    rw (eq-eqb _ _ c.if-map-ne8192.false, c.loop-at.invariant, end)

pub returns-else-not-has_run : goal.returns-else-not-has_run
unfolding unrun_answer
returns-else-not-has_run c =
    let more = from_more _ _ _ c.loop-at-test.true (sym c.has_run.ensures ∙ c.if-not-has_run.false) in
    let end = from_end c.args.map.now (c.loop-at.at + 1) c.args.last (omega arith) in
    rw (eq-eqb _ _ c.if-map-ne8192.false, c.loop-at.invariant, more, end)
