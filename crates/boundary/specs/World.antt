-- What a run goes through, what it is asked, and how it ends.
use Rattle.std.specs.Prelude.{ℕ, ◌+◌, ◌*◌, ◌%◌, ◌^◌, Bool, false, cond, List, []}
use Rattle.bus.specs.Access.{Memories, memories}
use Rattle.machine.specs.declared.Machine.{Machine}
use Rattle.boundary.specs.declared.State.{State}
use Rattle.boundary.specs.declared.Grown.{Grown}
use Rattle.boundary.specs.declared.Stop.{Stop}
use Rattle.boundary.specs.declared.Stop.TheVariants.{Limit, Undefined, Full, LogFull}
use Rattle.boundary.specs.declared.Watch.{Watch}
use Rattle.boundary.specs.declared.Asked.{Asked}

-- what a call lends: the image, 02's "second lent area", the output, and 02's "second lent buffer", the wake log
pub record Lent : Type 0 where
  pub image : List ℕ
  pub area : List ℕ
  pub output : List ℕ
  pub log : List ℕ

abbrev pub lending : List ℕ → List ℕ → List ℕ → List ℕ → Lent
lending image area output log = record { image = image; area = area; output = output; log = log }

-- what a run without a log is lent
abbrev pub lent : List ℕ → List ℕ → List ℕ → Lent
lent image area output = lending image area output []

-- the memories among it that accesses see, and others in their place
abbrev pub memories_in : Lent → Memories
memories_in l = memories l.image l.area

abbrev pub with_memories : Lent → Memories → Lent
with_memories l memory = lending memory.image memory.area l.output l.log

abbrev pub with_output : Lent → List ℕ → Lent
with_output l output = lending l.image l.area output l.log

abbrev pub with_log : Lent → List ℕ → Lent
with_log l log = lending l.image l.area l.output log

-- what a run is asked: its session, its limit N, and what is watched
pub record Terms : Type 0 where
  pub session : List ℕ
  pub limit : ℕ
  pub watch : Watch

abbrev pub watching : List ℕ → ℕ → Watch → Terms
watching session limit watch = record { session = session; limit = limit; watch = watch }

-- what the code is asked, in these words
abbrev pub terms_of : Asked → Terms
terms_of t = watching t.session.now t.limit t.watch

-- the ordinary run: nothing is watched
abbrev pub unwatched : Watch
unwatched = record { log = false; since = record { 0 = 0 } }

abbrev pub terms : List ℕ → ℕ → Terms
terms session limit = watching session limit unwatched

-- what a run watches that goes on after so many cycles of another
abbrev pub later : Watch → ℕ → Watch
later watch cycles = record { log = watch.log; since = record { 0 = (watch.since.0 + cycles) % 2 ^ 32 } }

-- how many bytes of the log so many entries fill
abbrev pub logged_bytes : Watch → ℕ → ℕ
logged_bytes watch entries = cond watch.log (8 * entries) 0

-- what a run goes through: the machine with the counts, and what was lent
pub record World : Type 0 where
  pub state : State
  pub lent : Lent

abbrev pub world_of : State → Lent → World
world_of s l = record { state = s; lent = l }

pub record Ended : Type 0 where
  pub stop : Stop
  pub world : World

abbrev pub ended_of : Stop → World → Ended
ended_of k w = record { stop = k; world = w }

-- the number of each stop, by 01 and 02
abbrev pub stop_number : Stop → ℕ
stop_number Limit = 0
stop_number Undefined = 8
stop_number Full = 9
stop_number LogFull = 11

-- how far the counts of cycles, instructions, entries and leaps have grown
abbrev pub grown : ℕ → ℕ → ℕ → ℕ → Grown
grown cycles instructions entries leaps =
    record {
      cycles = record { 0 = cycles };
      instructions = record { 0 = instructions };
      entries = record { 0 = entries };
      leaps = record { 0 = leaps };
    }

-- .. by an interrupt entry, by a waiting cycle that may open a leap, by instructions
abbrev pub by_entry : ℕ → Grown
by_entry cycles = grown cycles 0 1 0

abbrev pub by_waiting : ℕ → Grown
by_waiting leaps = grown 1 0 0 leaps

abbrev pub by_instructions : ℕ → ℕ → Grown
by_instructions cycles instructions = grown cycles instructions 0 0

-- the machine is m, and the counts have grown
abbrev pub grown_to : State → Machine → Grown → Bool → State
grown_to s m by inside =
    record {
      machine = m;
      place = s.place;
      used = s.used;
      cycles = record { 0 = s.cycles.0 + by.cycles.0 };
      instructions = record { 0 = s.instructions.0 + by.instructions.0 };
      entries = record { 0 = s.entries.0 + by.entries.0 };
      sent = s.sent;
      leaps = record { 0 = s.leaps.0 + by.leaps.0 };
      inside = inside;
    }
