use Rattle.run.proofs.Rooms.{first_same, first_or}
use native.Mathlib.Omega.{arith}
use Rattle.timer.proofs.Closed.{ticks_ocf, ticks_tof}
use Rattle.run.proofs.timer_room.Goals as goal

pub returns : goal.returns
returns c = let t = c.args.t in
    let compare = c.until_compare.ensures in
    let overflow = c.until_overflow.ensures in
    first_same (λ j. rw (ticks_ocf j t (omega arith) (omega arith), ticks_tof j t (omega arith) (omega arith), ← compare, ← overflow))
    (first_or c.flag_room-k.ensures c.flag_room.ensures)
