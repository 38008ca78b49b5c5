-- What the counts keep among themselves, so that none of them can pass its type, and whether step 4 has room for a row. For the code's own promises.
use Rattle.std.specs.Prelude.{◌≡◌, ℕ, ◌+◌, ◌^◌, ◌<◌, ◌≤◌, Bool, false, List, Some}
use Rattle.counts.specs.declared.Cycles.{Cycles}
use Rattle.turns.specs.Turn.{done}
use Rattle.machine.specs.declared.Cause.{Cause}
use Rattle.machine.specs.Interrupts.{pending_of}
use Rattle.boundary.specs.declared.Stop.TheVariants.{LogFull}
use Rattle.boundary.specs.World.{lending, world_of, ended_of}
use Rattle.boundary.specs.Boundary.{lacks_row, act_of}
use Rattle.boundary.specs.declared.State.{State}
use Rattle.boundary.specs.declared.Grown.{Grown}

pub record Fine (s : State) : Type 0 where
  pub instructions : s.instructions.0 ≤ s.cycles.0
  pub entries : s.entries.0 ≤ s.cycles.0
  pub leaps : s.leaps.0 ≤ s.cycles.0
  pub used : s.used.0 ≤ s.place

-- what a boundary's functions ask: the counts are fine and below the limit's greatest value
abbrev pub Ready : State → Type 0
Ready s = Fine s × (s.cycles.0 < 1000000000)

-- there is room for so much more in each count
abbrev pub Fits : State → Grown → Type 0
Fits s by =
    (s.cycles.0 + by.cycles.0 < 2 ^ 32)
    × (s.instructions.0 + by.instructions.0 < 2 ^ 32)
    × (s.entries.0 + by.entries.0 < 2 ^ 32)
    × (s.leaps.0 + by.leaps.0 < 2 ^ 32)

-- where the log is asked for or not: the run stops with 11 here
abbrev pub Refuses : Bool → State → List ℕ → Type 0
Refuses logs s log =
    (since : Cycles) (image area output : List ℕ)
    → let w = world_of s (lending image area output log) in act_of (record { log = logs; since = since }) w ≡ done (ended_of LogFull w)

-- .. there is room for the row of any interrupt that is to be accepted
abbrev pub Accepts : Bool → State → List ℕ → Type 0
Accepts logs s log =
    (cause : Cause) → pending_of s.machine ≡ Some cause → lacks_row (record { log = logs; since = record { 0 = 0 } }) s log ≡ false
