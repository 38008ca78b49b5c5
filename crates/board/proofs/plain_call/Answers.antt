-- `board::plain_call` meets its contract: the call with nothing watched and no log. Assumes nothing.
use Rattle.boundary.specs.World.{lent}
use Rattle.board.specs.Board.{buffers}
use Rattle.board.proofs.Calls.{plain_left}
use Rattle.board.proofs.plain_call.Goals as goal

pub returns : goal.returns
returns c =
    let a = c.args in
    let b = buffers a.machine.now (lent a.image.now a.area.now a.output.now) a.res.now in
    let run = c.run_call in
    plain_left a.leaping a.session.now a.n b c.nothing.ensures run.auto.log run.ensures
