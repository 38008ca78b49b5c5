-- `board::watch_call` meets its contract: 36, or the call that watches what the bits ask for. Assumes nothing.
use Rattle.boundary.specs.World.{lending}
use Rattle.board.specs.Board.{buffers}
use Rattle.board.proofs.Calls.{watch_unknown, watch_known}
use Rattle.board.proofs.watch_call.Goals as goal

pub returns-then-unknown_bits : goal.returns-then-unknown_bits
returns-then-unknown_bits c = let a = c.args in
    let b = buffers a.machine.now (lending a.image.now a.area.now a.output.now a.log.now) a.res.now in
    watch_unknown a.leaping a.session.now a.n b a.bits a.since c.unknown_bits.ensures c.if-unknown_bits.true

pub returns : goal.returns
returns c = let a = c.args in
    let b = buffers a.machine.now (lending a.image.now a.area.now a.output.now a.log.now) a.res.now in
    watch_known a.leaping a.session.now a.n b a.bits a.since c.unknown_bits.ensures c.if-unknown_bits.false
    c.asks_log.ensures c.run_call.ensures
