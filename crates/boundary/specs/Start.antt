-- Where a run starts: a machine, the session from its front, all counts 0, and no waiting cycle before.
use Rattle.std.specs.Prelude.{false}
use Rattle.machine.specs.declared.Machine.{Machine}
use Rattle.boundary.specs.declared.State.{State}
use Rattle.boundary.specs.World.{Lent, Terms, World, world_of, Ended}
use Rattle.boundary.specs.Boundary.{run_of}

abbrev pub start_of : Machine → State
start_of m =
    record {
      machine = m;
      place = 0;
      used = record { 0 = 0 };
      cycles = record { 0 = 0 };
      instructions = record { 0 = 0 };
      entries = record { 0 = 0 };
      sent = record { 0 = 0 };
      leaps = record { 0 = 0 };
      inside = false;
    }

abbrev pub start_world : Machine → Lent → World
start_world m l = world_of (start_of m) l

-- the run of a machine on its terms, with what was lent
abbrev pub ran_of : Terms → Machine → Lent → Ended
ran_of t m l = run_of t (start_world m l)
