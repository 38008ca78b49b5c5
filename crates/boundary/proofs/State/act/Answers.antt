-- `State::act` is steps 4 to 6: 11, or the rest. Assumes nothing.
use Rattle.std.proofs.Common.{sym}
use Rattle.boundary.proofs.State.act.Goals as goal

pub returns-then-lacks_row : goal.returns-then-lacks_row
returns-then-lacks_row c = let a = c.args in
    λ o. sym (c.lacks_row.ensures.0 c.if-lacks_row.true a.since a.image.now a.area.now o)
