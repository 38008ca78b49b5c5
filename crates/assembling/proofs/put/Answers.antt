-- `assembling::put` meets its contract: the line's bytes go to the front of what was lent. Assumes nothing.
use native.Mathlib.Omega.{arith}
use lib.ListN.{length}
use lib.Seq.{take_all}
use Rattle.laws.proofs.Lent.{back_front}
use Rattle.assembling.specs.Assembling.{piece_bytes}
use Rattle.assembling.proofs.Laws.{piece_length}
use Rattle.assembling.proofs.put.Goals as goal

pub returns : goal.returns
returns c =
    let u = piece_bytes c.args.p in
    let n = piece_length c.args.p c.requires.0 in
    back_front c.args.buffer.now u c.args.at {q = c.copy.new.to} (omega (arith, n, c.requires.1)) (rw (take_all (length u) u (omega arith)) c.copy.ensures)
