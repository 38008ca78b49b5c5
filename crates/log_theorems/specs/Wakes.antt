-- What woke the cabinet: "for each interrupt entry the cycle, the cause, and which lower causes were waiting behind it", told boundary by
-- boundary from the machine alone; rows as the log's bytes; and a run with the log asked for, or another log lent.
use Rattle.std.specs.Prelude.{ℕ, ◌*◌, Bool, cond, List, [], ◌∷◌, ◌++◌, take, drop, Option, None, Some}
use Rattle.turns.specs.Recorded.{rows_of}
use Rattle.numbers.specs.Numbers.{over}
use Rattle.machine.specs.declared.Cause.{Cause}
use Rattle.machine.specs.Interrupts.{pending_of}
use Rattle.wake_log.specs.declared.Row.{Row}
use Rattle.wake_log.specs.Log.{row_bytes}
use Rattle.boundary.specs.declared.State.{State}
use Rattle.boundary.specs.declared.Watch.{Watch}
use Rattle.boundary.specs.World.{with_log, Terms, watching, World, world_of, Ended, ended_of}
use Rattle.boundary.specs.Boundary.{row_of, boundary_of, cycles_left}
use Rattle.boundary_theorems.specs.Trace.{ready_state, if_going}

-- the row of a boundary that goes on, by its state at step 4: of its entry, or none
abbrev pub row_by : Watch → Option Cause → State → List Row
row_by watch (Some cause) s = row_of watch cause s ∷ []
row_by watch None s = []

abbrev pub wake_of : Watch → State → List Row
wake_of watch s = row_by watch (pending_of s.machine) s

unfoldable pub wakes_at : Terms → World → List Row
wakes_at t w = if_going (boundary_of t w) (wake_of t.watch (ready_state t.session w))

-- The rows of a run, one for each of its entries, whether the log is asked for or not.
unfoldable pub wakes_of : Terms → World → List Row
wakes_of t w = rows_of (boundary_of t) (cycles_left t) (wakes_at t) w

-- rows as bytes, and a log with rows after so many: "bytes after the rows are unchanged"
abbrev pub rows_bytes : List Row → List ℕ
rows_bytes [] = []
rows_bytes (row ∷ rows) = row_bytes row ++ rows_bytes rows

abbrev pub with_rows : ℕ → List Row → List ℕ → List ℕ
with_rows k rows log = take (8 * k) log ++ over (rows_bytes rows) (drop (8 * k) log)

-- .. where the log is asked for
abbrev pub logged_rows : Bool → ℕ → List Row → List ℕ → List ℕ
logged_rows asked k rows log = cond asked (with_rows k rows log) log

-- the same run, with the log asked for or not
abbrev pub logging : Bool → Terms → Terms
logging asked t = watching t.session t.limit (record { log = asked; since = t.watch.since })

-- a world, and an end, with another log
abbrev pub relogged : List ℕ → World → World
relogged log w = world_of w.state (with_log w.lent log)

abbrev pub ended_with : List ℕ → Ended → Ended
ended_with log e = ended_of e.stop (relogged log e.world)
