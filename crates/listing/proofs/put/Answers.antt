-- `listing::put` meets its contract: a copy into what follows a place. Assumes nothing.
use lib.Seq.{take_all}
use lib.ListN.{length}
use native.Mathlib.Omega.{arith}
use Rattle.laws.proofs.Lent.{back_front}
use Rattle.listing.proofs.put.Goals as goal

pub returns : goal.returns
returns c =
    let u = c.args.line.now in
    back_front c.args.buffer.now u c.args.at {q = c.copy.new.to} c.requires (rw (take_all (length u) u (omega arith)) c.copy.ensures)
