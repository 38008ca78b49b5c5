-- `State::accept` is step 4 where there is room: the row, and the entry. Assumes nothing.
use Rattle.std.proofs.Common.{ℕ, List, sym, ap, ◌∙◌}
use Rattle.turns.specs.Turn.{more}
use Rattle.boundary.specs.World.{lending, World, world_of}
use Rattle.boundary.specs.Boundary.{entered_world}
use Rattle.boundary.proofs.Cases.{accept_goes}
use Rattle.boundary.proofs.State.accept.Goals as goal

pub returns : goal.returns
returns c = let a = c.args in
    λ o.
    ap (λ (w : World). more w) (c.enter.ensures (lending a.image.now a.area.now o c.log_entry.new.log))
    ∙ ap (λ (log : List ℕ). more (entered_world a.cause (world_of a.self (lending a.image.now a.area.now o log)))) c.log_entry.ensures
    ∙ sym (accept_goes a.self (lending a.image.now a.area.now o a.log.now) a.watch a.cause c.requires.1)
