-- `State::log_entry` meets its contract: the row where it is asked for. Assumes nothing.
use Rattle.std.proofs.Common.{[]}
use Rattle.boundary.specs.World.{lending}
use Rattle.boundary.proofs.Cases.{logs, logs_not}
use Rattle.boundary.proofs.State.log_entry.Goals as goal

pub returns-then-watch : goal.returns-then-watch
returns-then-watch c = let a = c.args in
    logs a.self (lending [] [] [] a.log.now) a.watch a.cause c.if-watch.true c.row.ensures c.write_row.ensures

pub returns-else-watch : goal.returns-else-watch
returns-else-watch c = let a = c.args in
    logs_not a.self (lending [] [] [] a.log.now) a.watch a.cause c.if-watch.false
