-- `wake_log::write_row` meets its contract: a row over the front of what is left of the log. Assumes nothing.
use Rattle.wake_log.proofs.Laws.{row_part}
use Rattle.wake_log.proofs.write_row.Goals as goal

pub returns : goal.returns
returns c = row_part c.args.row c.args.rows c.args.log.now c.put_row.ensures
