-- `bench_input::load` meets its contract: the input is bad where it is too long or no run record follows its loads. Assumes nothing.
use mathlib.Core.Path.{◌≡◌, sym, ◌∙◌}
use mathlib.Core.Bool.{true}
use Rattle.bench_input.specs.Input.{is_run}
use Rattle.bench_input.proofs.Laws.{run_within, long_bad, runless_bad, run_good, loaded_bad, loaded_run}
use Rattle.bench_input.proofs.load.Goals as goal
use Rattle.bench_input.proofs.load.Goals.{After-four_at-2}

-- a run record stands after the loads
runs : (c : After-four_at-2)
    → is_run c.args.input.now
    c.after_loads-at.result ≡ true
runs c = sym c.is_run.ensures ∙ c.if-not-is_run.false

pub returns-then-input-gt16384 : goal.returns-then-input-gt16384
returns-then-input-gt16384 c = loaded_bad _ _ (long_bad _ c.if-input-gt16384.true)

pub returns-then-not-is_run : goal.returns-then-not-is_run
returns-then-not-is_run c = loaded_bad _ _ (runless_bad _ (rw (← c.after_loads-at.ensures.0) (sym c.is_run.ensures ∙ c.if-not-is_run.true)))

pub next_at-requires : goal.next_at-requires
next_at-requires c = (run_within _ _ (runs (goal.at.next_at-requires c).After-four_at-2)).0

pub returns : goal.returns
returns c = let a = c.args in
    let e = c.after_loads-at.ensures.0 in
    let g = loaded_run a.input.now a.image.now (run_good _ c.if-input-gt16384.false (rw (← e) (runs (goal.at.returns c).After-four_at-2))) in (
      rw (g.0, ← e, c.four_at.ensures, c.four_at-2.ensures, c.next_at.ensures),
      c.store_loads.ensures ∙ sym g.1,
    )
