-- `assembling::check` meets its contract: each turn checks one line more. Assumes nothing.
use native.Mathlib.Omega.{arith}
use Rattle.assembling.proofs.Laws.{forward, checking_starts, checking_stops, checking_goes, checking_ends}
use Rattle.assembling.proofs.check.Goals as goal

pub loop-at-init : goal.loop-at-init
loop-at-init c = checking_starts c.args.text.now

pub returns-in-Err : goal.returns-in-Err
returns-in-Err c =
    let l = c.loop-at in
    rw c.refusal.ensures (checking_stops _ l.at l.due l.line l.n l.invariant c.loop-at-test.true c.next_line.ensures c.in-Err.is)

pub loop-at-smaller : goal.loop-at-smaller
loop-at-smaller c =
    let l = c.loop-at in
    let s = c.next_line.ensures in
    let t = c.loop-at-test.true in
    let g = checking_goes c.args.text.now l.at l.due l.line l.n l.invariant t s _ c.in-Ok.is in
    omega (arith, g.inside, forward c.args.text.now l.at l.due l.line t s _ c.in-Ok.is)

pub loop-at-preserved : goal.loop-at-preserved
loop-at-preserved c =
    let l = c.loop-at in
    rw c.end_of.ensures (checking_goes _ l.at l.due l.line l.n l.invariant c.loop-at-test.true c.next_line.ensures _ c.in-Ok.is)

pub returns : goal.returns
returns c = let l = c.loop-at in checking_ends _ l.at l.due l.line l.n l.invariant c.loop-at-test.false
