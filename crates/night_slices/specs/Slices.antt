-- A night: a long run as slices, one after another, each with the rest of the session that the one before left.
use Rattle.std.specs.Prelude.{ℕ, ◌+◌, ◌-◌, ◌%◌, ◌^◌, min, Bool, cond, ◌&&◌, List, ◌++◌, length, take, drop, ◌==◌, nat_lt, Result, Ok, Err}
use Rattle.std.proofs.Math.Option.{none}
use Rattle.turns.specs.Turn.{Turn, more, done, loop_of}
use Rattle.replies.specs.Replies.{Told, told, told_reply, stops}
use Rattle.machine.specs.declared.Machine.{Machine}
use Rattle.boundary.specs.declared.Watch.{Watch}
use Rattle.boundary.specs.World.{Lent, with_output, with_log, Terms, watching, later, logged_bytes}
use Rattle.cabinet.specs.declared.Ran.{Ran}
use Rattle.cabinet.specs.declared.Leapt.{Leapt}
use Rattle.cabinet.specs.Answers.{Answer, answer_of, leaps_of}
use Rattle.rest.specs.Rest.{rest_of}
use Rattle.rest.specs.Answers.{RestReply, rest_wrote, refuses, rest_answer}
use Rattle.lines.specs.declared.Numbers.{Numbers}
use Rattle.printing.specs.Printing.{ascii}
use Rattle.night_lines.specs.NightLines.{end_text}
use Rattle.replies.specs.declared.Reply.{Reply}
use Rattle.night_slices.specs.declared.KeepRefusal.{KeepRefusal}
use Rattle.night_slices.specs.declared.KeepRefusal.TheVariants.{TooFew, NoRoom}
use Rattle.night_slices.specs.declared.Kept.{Kept}
use Rattle.night_slices.specs.declared.Night.{Night}

-- "in slices of at most 1,000,000,000 cycles"
abbrev pub slice_cycles : ℕ → ℕ
slice_cycles left = min left 1000000000

-- a night as it stands after a slice, or at its start: the last slice's reply, the machine, what is lent, the rest of the session, the
-- cycles that are left, what is watched, the sums of the slices' counts, and how many bytes of the log are filled
pub record Standing : Type 0 where
  pub told : Told
  pub machine : Machine
  pub lent : Lent
  pub session : List ℕ
  pub left : ℕ
  pub watch : Watch
  pub slices : ℕ
  pub cycles : ℕ
  pub instructions : ℕ
  pub entries : ℕ
  pub used : ℕ
  pub sent : ℕ
  pub logged : ℕ
  pub leaps : ℕ

-- a sum of counts goes round at 2^64
abbrev pub round_sum : ℕ → ℕ → ℕ
round_sum a b = (a + b) % 2 ^ 64

-- "keeps the rest of the session": after a run that stopped, the rest of what it had; where crate rest refuses, given a buffer as long as the
-- session, its reply and the session as it was; after a refused run the session as it was
pub record Keeping : Type 0 where
  pub told : Told
  pub session : List ℕ

abbrev pub keeping : Told → List ℕ → Keeping
keeping t session = record { told = t; session = session }

abbrev pub on_keep : Told → List ℕ → List ℕ → RestReply → Keeping
on_keep t session left (rest_wrote n) = keeping t left
on_keep t session left (refuses u) = keeping u session

unfoldable pub keeping_of : Told → List ℕ → ℕ → ℕ → Keeping
keeping_of t session used cycles =
    cond (stops t.number) (on_keep t session (rest_of session used cycles) (rest_answer session used cycles session)) (keeping t session)

-- what a slice's answer and its leaps make of a night
abbrev pub after_of : Standing → Answer → ℕ → Standing
after_of s a leaps =
    let k = keeping_of a.reply s.session a.used a.cycles in
    record {
      told = k.told;
      machine = a.machine;
      lent = with_log (with_output a.lent (take s.sent s.lent.output ++ a.lent.output)) (take s.logged s.lent.log ++ a.lent.log);
      session = k.session;
      left = s.left - a.cycles;
      watch = later s.watch a.cycles;
      slices = round_sum s.slices 1;
      cycles = round_sum s.cycles a.cycles;
      instructions = round_sum s.instructions a.instructions;
      entries = round_sum s.entries a.entries;
      used = round_sum s.used a.used;
      sent = s.sent + a.sent;
      logged = s.logged + logged_bytes s.watch a.entries;
      leaps = round_sum s.leaps leaps;
    }

-- one slice: the run of what is left, on the parts of the output and of the log that are not filled; "the cycles of the slices before are
-- added to its rows"
unfoldable pub slice_of : Standing → Standing
slice_of s =
    let asked = watching s.session (slice_cycles s.left) s.watch in
    let given = with_log (with_output s.lent (drop s.sent s.lent.output)) (drop s.logged s.lent.log) in
    after_of s (answer_of asked s.machine given) (leaps_of asked s.machine given)

-- slices go on while the limit of each is reached and cycles are left
abbrev pub goes_on : Standing → Bool
goes_on s = s.told.number == 0 && nat_lt 0 s.left

abbrev pub slice_turn : Standing → Turn Standing Standing
slice_turn s = cond (goes_on (slice_of s)) (more (slice_of s)) (done (slice_of s))

unfoldable pub slices_of : Standing → Standing
slices_of s = loop_of slice_turn (λ (t : Standing). t) (λ (t : Standing). t.left) s

-- a night at its start
abbrev pub night_at : Told → Terms → Machine → Lent → Standing
night_at t asked m given =
    record {
      told = t;
      machine = m;
      lent = given;
      session = asked.session;
      left = asked.limit;
      watch = asked.watch;
      slices = 0;
      cycles = 0;
      instructions = 0;
      entries = 0;
      used = 0;
      sent = 0;
      logged = 0;
      leaps = 0;
    }

-- the night: 31, with nothing changed, where there is less room for the rest than the session is long; else slices
unfoldable pub night_of : Terms → Machine → Lent → ℕ → Standing
night_of asked m given room =
    cond (nat_lt room (length asked.session))
    (night_at (told 31 none) asked m given)
    (slices_of (night_at (told 0 none) asked m given))

-- the night's line
unfoldable pub night_text : Standing → List ℕ
night_text s =
    end_text s.told s.slices
    (record { cycles = s.cycles; instructions = s.instructions; entries = s.entries; used = s.used; sent = s.sent })
    s.leaps s.machine.chip.registers
    ++ ascii "\n"

-- the code's results, in these words: the session is the first so many bytes of its buffer
abbrev pub SliceEnd : Type 0
SliceEnd = Result Reply KeepRefusal

abbrev pub keep_number : KeepRefusal → ℕ
keep_number TooFew = 30
keep_number NoRoom = 31

abbrev pub told_slice_end : SliceEnd → Told
told_slice_end (Ok r) = told_reply r
told_slice_end (Err k) = told (keep_number k) none

abbrev pub kept : Kept → List ℕ → Keeping
kept k session = keeping (told_slice_end k.ended) (take k.length session)

abbrev pub standing : Night → Lent → List ℕ → Standing
standing n given session =
    record {
      told = told_slice_end n.ended;
      machine = n.machine;
      lent = given;
      session = take n.length session;
      left = n.left;
      watch = n.watch;
      slices = n.slices.0;
      cycles = n.cycles.0;
      instructions = n.instructions.0;
      entries = n.entries.0;
      used = n.used.0;
      sent = n.sent;
      logged = n.logged;
      leaps = n.leaps.0;
    }

-- a slice's numbers, for its line
abbrev pub ran_numbers : Ran → Numbers
ran_numbers r = record { cycles = r.counts.cycles.0; instructions = r.counts.instructions.0; entries = r.counts.entries.0; used = r.counts.used.0; sent = r.counts.sent.0 }

-- the night at its start, and after a slice, as the code has them
abbrev pub beginning : SliceEnd → Machine → ℕ → ℕ → Watch → Night
beginning e m size n watch =
    record {
      ended = e;
      machine = m;
      length = size;
      left = n;
      watch = watch;
      sent = 0;
      logged = 0;
      slices = record { 0 = 0 };
      cycles = record { 0 = 0 };
      instructions = record { 0 = 0 };
      entries = record { 0 = 0 };
      used = record { 0 = 0 };
      leaps = record { 0 = 0 };
    }

abbrev pub next_of : Night → Leapt → Kept → Night
next_of n l k =
    let r = l.ran in
    record {
      ended = k.ended;
      machine = r.machine;
      length = k.length;
      left = n.left - r.counts.cycles.0;
      watch = later n.watch r.counts.cycles.0;
      sent = n.sent + r.counts.sent.0;
      logged = n.logged + logged_bytes n.watch r.counts.entries.0;
      slices = record { 0 = round_sum n.slices.0 1 };
      cycles = record { 0 = round_sum n.cycles.0 r.counts.cycles.0 };
      instructions = record { 0 = round_sum n.instructions.0 r.counts.instructions.0 };
      entries = record { 0 = round_sum n.entries.0 r.counts.entries.0 };
      used = record { 0 = round_sum n.used.0 r.counts.used.0 };
      leaps = record { 0 = round_sum n.leaps.0 l.leaps.0 };
    }
