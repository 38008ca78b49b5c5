-- `rest::copy_record` meets its contract: three parts, one after another. Assumes nothing.
use native.Mathlib.Omega.{arith}
use Rattle.rest.proofs.Laws.{record_stored}
use Rattle.rest.proofs.copy_record.Goals as goal

pub returns : goal.returns
returns c = let a = c.args in
    let p = c.requires in
    let left = c.time_left-left in
    record_stored a.session.now a.cycles.0 a.at a.to _ _ left.result a.buffer.now p.0 p.1 p.2
    c.next_at-next.ensures c.time_at.ensures left.ensures (omega arith)
    c.copy.ensures
    c.put.ensures
    c.copy-2.ensures
