-- `night_arguments::read_call` meets its contract: each turn looks at an option and its value. Assumes nothing.
use Prim.Native.Nat.{◌-◌, ◌≤◌}
use mathlib.Core.Path.{◌≡◌}
use lib.ListN.{length, drop}
use Rattle.night_arguments.specs.Options.{call_from, call_of}
use Rattle.night_arguments.proofs.read_call.Given as goal

abbrev pub invariant-loop-i : goal.invariant-loop-i
invariant-loop-i l = (length l.kinds ≤ 32) × (l.i ≤ length l.kinds) × (length l.values ≡ length l.initial.values)
    × (call_of l.kinds l.initial.values ≡ call_from (length l.kinds) l.i l.values (drop l.i l.kinds))

abbrev pub decreases-loop-i : goal.decreases-loop-i
decreases-loop-i l = length l.kinds - l.i
