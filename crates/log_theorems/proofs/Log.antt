-- The wake log of a run: its rows are the entries, one after the other from the front; the bytes after them, and a log that is not asked for, are
-- unchanged. Assumes nothing.
use Prim.Native.Nat.{ℕ, ◌*◌, ◌≤◌}
use native.Mathlib.Omega.{arith}
use mathlib.Core.Path.{◌≡◌, ap, ◌∙◌}
use mathlib.Core.Bool.{true, false, false≢true}
use mathlib.Core.List.{List, []}
use lib.ListN.{length, take, drop}
use lib.Seq.{take_at, drop_at}
use Rattle.laws.proofs.Conds.{picks, passes}
use Rattle.numbers.specs.Numbers.{over}
use Rattle.machine.specs.declared.Machine.{Machine}
use Rattle.wake_log.specs.declared.Row.{Row}
use Rattle.boundary.specs.World.{Lent, Terms, World}
use Rattle.boundary.specs.Start.{start_world, ran_of}
use Rattle.log_theorems.specs.Wakes.{wakes_of, rows_bytes, logged_rows}
use Rattle.log_theorems.proofs.Bytes.{rows_long, rows_keep_length}
use Rattle.log_theorems.proofs.Boundaries.{Written}
use Rattle.log_theorems.proofs.Beside.{follows}

-- The log of a run, whether it is asked for or not.
module _ (t : Terms) (m : Machine) (l : Lent) where
  abbrev rows : List Row
  rows = wakes_of t (start_world m l)

  abbrev end : World
  end = (ran_of t m l).world

  own : Written t.watch.log 0 l.log rows end
  own = (follows t t.watch.log false (start_world m l) [] (λ a. absurd (false≢true a)) (λ _. omega arith)).written

  -- a row for each entry, and for nothing else
  pub rows_entries : length (wakes_of t (start_world m l)) ≡ (ran_of t m l).world.state.entries.0
  rows_entries = let e = own.entries in omega (arith, e)

  -- the rows, and then the bytes that were there; or all bytes that were there
  pub log_left : (ran_of t m l).world.lent.log ≡ logged_rows t.watch.log 0 (wakes_of t (start_world m l)) l.log
  log_left = own.same

  pub log_untouched : t.watch.log ≡ false → (ran_of t m l).world.lent.log ≡ l.log
  log_untouched a = log_left ∙ passes _ _ a

  module _ (a : t.watch.log ≡ true) where
    same : end.lent.log ≡ over (rows_bytes rows) l.log
    same = log_left ∙ picks _ _ a

    pub log_room : 8 * (ran_of t m l).world.state.entries.0 ≤ length l.log
    log_room = let z = own.room a in let e = own.entries in omega (arith, z, e)

    pub log_length : length (ran_of t m l).world.lent.log ≡ length l.log
    log_length = ap length same ∙ rows_keep_length 0 rows l.log (omega arith) (own.room a)

    long : length (rows_bytes rows) ≡ 8 * end.state.entries.0
    long = let z = rows_long rows in let e = rows_entries in omega (arith, z, e)

    pub log_filled : take (8 * (ran_of t m l).world.state.entries.0) (ran_of t m l).world.lent.log ≡ rows_bytes (wakes_of t (start_world m l))
    log_filled = ap (take (8 * end.state.entries.0)) same ∙ take_at (rows_bytes rows) _ _ long

    pub log_rest : let k = 8 * (ran_of t m l).world.state.entries.0 in drop k (ran_of t m l).world.lent.log ≡ drop k l.log
    log_rest = ap (drop (8 * end.state.entries.0)) same ∙ drop_at (rows_bytes rows) _ _ long ∙ ap (λ (k : ℕ). drop k l.log) long
