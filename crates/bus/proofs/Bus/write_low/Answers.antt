use mathlib.Core.Bool.{◌&&◌}
use native.Mathlib.Omega.{arith}
use Rattle.bus.proofs.Area.{outside_no_area}
use Rattle.bus.proofs.Stores.{image_store}
use Rattle.bus.proofs.Bus.write_low.Goals as goal

pub returns-clause-fact_2 : goal.returns-clause-fact_2
returns-clause-fact_2 c = let a = c.args in
    let low = a.low.below in
    λ area. image_store a.self a.low.at a.v a.image.now _ area (c.is_memory.result && c.is_writable.result)
    c.store.ensures
    (rw (
      c.is_memory.ensures,
      c.is_writable.ensures,
      c.register_at-which.ensures,
    ))
    (outside_no_area a.self.rame a.low.at (λ h. omega arith))
