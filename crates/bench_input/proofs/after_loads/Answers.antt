-- `bench_input::after_loads` meets its contract: each turn passes one load record. Assumes nothing.
use native.Mathlib.Omega.{arith}
use mathlib.Core.Path.{sym, ap, ◌∙◌}
use Rattle.bench_input.specs.Input.{after_loads}
use Rattle.bench_input.proofs.Laws.{load_within, place_more, place_done}
use Rattle.bench_input.proofs.after_loads.Goals as goal

pub next_at-at-requires : goal.next_at-at-requires
next_at-at-requires c = (load_within _ _ (sym c.is_load.ensures ∙ c.loop-at-test.true)).0

pub loop-at-smaller : goal.loop-at-smaller
loop-at-smaller c = let w = load_within _ _ (sym c.is_load.ensures ∙ c.loop-at-test.true) in omega (arith, w, c.next_at-at.ensures)

pub loop-at-preserved : goal.loop-at-preserved
loop-at-preserved c = let e = sym c.is_load.ensures ∙ c.loop-at-test.true in
    let n = c.next_at-at.ensures in
    let w = load_within _ _ e in (
      omega (arith, w, n),
      c.loop-at.invariant.1 ∙ place_more _ _ e ∙ ap (after_loads c.args.input.now) (sym n),
    )

pub returns : goal.returns
returns c = (sym (c.loop-at.invariant.1 ∙ place_done _ _ (sym c.is_load.ensures ∙ c.loop-at-test.false)), c.loop-at.invariant.0)
