-- `assembling::write` meets its contract: each turn writes one line's bytes more. Assumes nothing.
use native.Mathlib.Omega.{arith}
use Rattle.assembling.proofs.Laws.{forward, writing_starts, never_stops, put_fits, writing_goes, writing_ends}
use Rattle.assembling.proofs.write.Goals as goal

pub loop-at-init : goal.loop-at-init
loop-at-init c = writing_starts c.args.text.now c.args.buffer.now c.requires.1 c.requires.2

pub returns-in_default : goal.returns-in_default
returns-in_default c =
    let l = c.loop-at in
    absurd (never_stops _ _ l.at l.due l.to l.buffer l.invariant c.loop-at-test.true c.next_line.ensures c.in_default.is)

pub put-requires : goal.put-requires
put-requires c =
    let l = c.loop-at in
    put_fits _ _ l.at l.due l.to l.buffer l.invariant c.loop-at-test.true c.next_line.ensures _ c.in-Ok.is

pub loop-at-smaller : goal.loop-at-smaller
loop-at-smaller c =
    let l = c.loop-at in
    let s = c.next_line.ensures in
    let t = c.loop-at-test.true in
    let text = c.args.text.now in
    let g = writing_goes text c.args.buffer.now l.at l.due l.to l.buffer l.invariant t s _ c.in-Ok.is c.put.auto.buffer c.put.ensures in
    omega (arith, g.inside, forward text l.at l.due 0 t s _ c.in-Ok.is)

pub loop-at-preserved : goal.loop-at-preserved
loop-at-preserved c =
    let l = c.loop-at in
    rw c.end_of.ensures (writing_goes _ _ l.at l.due l.to l.buffer l.invariant c.loop-at-test.true c.next_line.ensures _ c.in-Ok.is
    c.put.auto.buffer c.put.ensures)

pub returns : goal.returns
returns c = let l = c.loop-at in writing_ends _ _ l.at l.due l.to l.buffer l.invariant c.loop-at-test.false
