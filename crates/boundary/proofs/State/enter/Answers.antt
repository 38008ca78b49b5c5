use Rattle.std.proofs.Common.{arith}
use Rattle.bus.specs.Access.{memories}
use Rattle.boundary.specs.World.{with_memories}
use Rattle.boundary.proofs.Cases.{entry_law, entry_fits}
use Rattle.boundary.proofs.State.enter.Goals as goal

pub moved-requires : goal.moved-requires
moved-requires c = entry_fits _ _ _ _ _ c.enter-e.ensures c.requires (omega arith)
    (omega arith)

pub returns : goal.returns
returns c = let a = c.args in
    λ l. entry_law a.self (with_memories l (memories a.image.now a.area.now)) a.cause c.moved.ensures c.enter-e.ensures
