-- `bench_input::store_loads` meets its contract: each turn stores one load record more. Assumes nothing.
use native.Mathlib.Omega.{arith}
use mathlib.Core.Path.{◌≡◌, sym, ◌∙◌}
use mathlib.Core.Bool.{true}
use Rattle.bench_input.specs.Input.{is_load}
use Rattle.bench_input.proofs.Laws.{load_within, load_bytes, loads_more, loads_done}
use Rattle.bench_input.proofs.store_loads.Goals as goal
use Rattle.bench_input.proofs.store_loads.Goals.{After-next_at-next}

loads : (c : After-next_at-next) → is_load c.args.input.now c.loop-next.at ≡ true
loads c = sym c.is_load.ensures ∙ c.loop-next-test.true

pub next_at-next-requires : goal.next_at-next-requires
next_at-next-requires c = (load_within _ _ (sym c.is_load.ensures ∙ c.loop-next-test.true)).0

pub slice_bounds-store-count : goal.slice_bounds-store-count
slice_bounds-store-count c = let w = load_bytes _ _ (loads (goal.at.slice_bounds-store-count c).After-next_at-next) in omega (arith, w.0, c.next_at-next.ensures)

pub slice_bounds-store-start : goal.slice_bounds-store-start
slice_bounds-store-start c = let w = load_bytes _ _ (loads (goal.at.slice_bounds-store-start c).After-next_at-next) in omega (arith, w.0, c.next_at-next.ensures)

pub slice_bounds-store-end : goal.slice_bounds-store-end
slice_bounds-store-end c = let w = load_within _ _ (loads (goal.at.slice_bounds-store-end c).After-next_at-next) in omega (arith, w, c.next_at-next.ensures)

pub store-requires : goal.store-requires
store-requires c = rw c.next_at-next.ensures (load_bytes _ _ (loads (goal.at.store-requires c).After-next_at-next)).1

pub loop-next-smaller : goal.loop-next-smaller
loop-next-smaller c = let w = load_within _ _ (loads (goal.at.loop-next-smaller c).After-next_at-next) in omega (arith, w, c.next_at-next.ensures)

pub loop-next-preserved : goal.loop-next-preserved
loop-next-preserved c = let l = c.loop-next in
    let n = c.next_at-next.ensures in
    let e = loads (goal.at.loop-next-preserved c).After-next_at-next in
    let w = load_within _ _ e in (
      omega (arith, w, n),
      c.store.auto.image ∙ l.invariant.1,
      l.invariant.2 ∙ loads_more _ _ _ e ∙ rw (c.store.ensures, c.two_at.ensures, n),
    )

pub returns : goal.returns
returns c = sym (c.loop-next.invariant.2 ∙ loads_done _ _ _ (sym c.is_load.ensures ∙ c.loop-next-test.false))
