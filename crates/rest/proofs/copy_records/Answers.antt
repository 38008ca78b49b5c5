-- `rest::copy_records` meets its contract: each turn copies one record more. Assumes nothing.
use native.Mathlib.Omega.{arith}
use Rattle.session.proofs.Laws.{next_after}
use Rattle.rest.proofs.Places.{whole_at}
use Rattle.rest.proofs.Laws.{copying_goes, copying_ends}
use Rattle.rest.proofs.copy_records.Goals as goal

pub copy_record-requires : goal.copy_record-requires
copy_record-requires c =
    let l = c.loop-at in
    let w = whole_at _ l.at c.loop-at-test.true l.invariant.ahead in
    let x = w.long in
    let y = w.within in
    let m = l.invariant.beyond in
    let n = l.invariant.long in
    let r = c.requires.1 in
    (w.long, w.within, omega arith)

pub loop-at-smaller : goal.loop-at-smaller
loop-at-smaller c =
    let l = c.loop-at in
    let n = next_after c.args.session.now l.at in
    let e = c.next_at-at.ensures in
    let t = c.loop-at-test.true in
    omega arith

pub loop-at-preserved : goal.loop-at-preserved
loop-at-preserved c =
    let l = c.loop-at in
    copying_goes _ _ _ _ c.requires.1 l.at l.buffer c.loop-at-test.true
    l.invariant c.copy_record.ensures c.next_at-at.ensures

pub returns : goal.returns
returns c = copying_ends _ _ _ _ c.loop-at.at c.loop-at.buffer c.loop-at-test.false c.loop-at.invariant
