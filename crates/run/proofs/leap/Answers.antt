use Rattle.run.proofs.Waiting.{waits, leapt}
use Rattle.boundary.specs.World.{terms_of}
use Rattle.run.proofs.leap.Goals as goal

pub returns : goal.returns
returns c = let a = c.args in
    let f = c.requires.0 in
    let within = waits a.s c.idles.ensures c.if-not-s-idles.false in
    let room = c.room-k in
    leapt (terms_of a.terms) a.s room.result within room.ensures f c.pass.ensures c.moved.ensures
