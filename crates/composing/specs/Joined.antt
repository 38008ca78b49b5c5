-- Two runs as one: what the second run gets after the first, and what the two answer together.
use Rattle.std.specs.Prelude.{ℕ, ◌+◌, ◌-◌, Bool, ◌||◌, List, ◌++◌, eqb, take, drop}
use Rattle.replies.specs.Replies.{Told}
use Rattle.boundary.specs.declared.Watch.{Watch}
use Rattle.boundary.specs.World.{Lent, lending, with_log, Terms, watching, later, logged_bytes}
use Rattle.cabinet.specs.Answers.{Answer}
use Rattle.rest.specs.Rest.{rest_of}

-- a run can be gone on with after 0, and after 02's 11: "a run with a fresh log goes on as if uncut"
abbrev pub resumes : Told → Bool
resumes t = eqb t.number 0 || eqb t.number 11

-- after a run that used so many records in so many cycles: the rest of the session, what is left of N, and rows that count on
abbrev pub terms_after : ℕ → ℕ → Terms → Terms
terms_after used cycles t = watching (rest_of t.session used cycles) (t.limit - cycles) (later t.watch cycles)

-- after so many bytes were sent and so many interrupts entered: both memories, and the room that is left in output and log
abbrev pub lent_after : Watch → ℕ → ℕ → Lent → Lent
lent_after watch sent entries l = lending l.image l.area (drop sent l.output) (drop (logged_bytes watch entries) l.log)

-- what the one run is lent that stands for two: so many entries' rows of the log, and then the second's log
abbrev pub lent_over : Watch → ℕ → List ℕ → Lent → Lent
lent_over watch entries log l = with_log l (take (logged_bytes watch entries) l.log ++ log)

-- the second's reply, machine and memories, the counts of both added up, and the first's filled parts before the second's output and log
abbrev pub joined : Watch → Answer → Answer → Answer
joined watch a b =
    record {
      reply = b.reply;
      machine = b.machine;
      cycles = a.cycles + b.cycles;
      instructions = a.instructions + b.instructions;
      entries = a.entries + b.entries;
      used = a.used + b.used;
      sent = a.sent + b.sent;
      lent = lending b.lent.image b.lent.area
          (take a.sent a.lent.output ++ b.lent.output)
          (take (logged_bytes watch a.entries) a.lent.log ++ b.lent.log);
    }
