-- What the two runs answer, for all inputs.
use Rattle.std.specs.Prelude.{ℕ, cond, not, eqb, ltb, length, Result, Ok, Err, ⊤}
use Rattle.std.proofs.Math.Option.{Option, none, some}
use Rattle.session.specs.Session.{check_of}
use Rattle.replies.specs.declared.Reply.{Reply}
use Rattle.replies.specs.Replies.{Told, told, told_reply, told_check}
use Rattle.machine.specs.declared.Machine.{Machine}
use Rattle.machine.specs.Machine.{ranges_of}
use Rattle.boundary.specs.declared.Stop.{Stop}
use Rattle.boundary.specs.World.{Lent, Terms, World, Ended, world_of, stop_number}
use Rattle.boundary.specs.Start.{start_world, ran_of}
use Rattle.cabinet.specs.declared.Ran.{Ran}
use Rattle.cabinet.specs.declared.Ending.{Ending}

-- "1, 2, 3 are tested in that order, then the session from the front", and 12 "straight after 1": the reply that refuses a run, where one does
unfoldable pub refusal_of : Terms → Machine → Lent → Option Told
refusal_of t m l =
    cond (not (eqb (length l.image) 65536)) (some (told 1 none))
    (cond (not (eqb (length l.area) 128)) (some (told 12 none))
    (cond (not (ranges_of m)) (some (told 2 none))
    (cond (ltb 1000000000 t.limit) (some (told 3 none))
    (told_check (check_of t.session)))))

-- what a run stops with: 0, 8, 9 or 11
abbrev pub told_stop : Stop → Told
told_stop s = told (stop_number s) none

-- how a run ends: its reply, and the machine with the counts and what was lent, as it leaves them
pub record End : Type 0 where
  pub reply : Told
  pub world : World

abbrev pub end_at : Told → World → End
end_at r w = record { reply = r; world = w }

-- "Replies 1 to 7 have all counts zero", with "image, output, machine unchanged", and 12 leaves "what 1 leaves": the start; else where the run stops
abbrev pub on_refusal : Option Told → World → Ended → End
on_refusal (some r) start e = end_at r start
on_refusal none start e = end_at (told_stop e.stop) e.world

unfoldable pub end_of : Terms → Machine → Lent → End
end_of t m l = on_refusal (refusal_of t m l) (start_world m l) (ran_of t m l)

-- what both runs answer: "the reply, the machine, all counts and every byte of image and output", and of 02's area and log
pub record Answer : Type 0 where
  pub reply : Told
  pub machine : Machine
  pub cycles : ℕ
  pub instructions : ℕ
  pub entries : ℕ
  pub used : ℕ
  pub sent : ℕ
  pub lent : Lent

abbrev pub answer_at : End → Answer
answer_at e =
    let s = e.world.state in
    record {
      reply = e.reply;
      machine = s.machine;
      cycles = s.cycles.0;
      instructions = s.instructions.0;
      entries = s.entries.0;
      used = s.used.0;
      sent = s.sent.0;
      lent = e.world.lent;
    }

abbrev pub answer_of : Terms → Machine → Lent → Answer
answer_of t m l = answer_at (end_of t m l)

-- "The leaping run reports how many there were"
abbrev pub leaps_of : Terms → Machine → Lent → ℕ
leaps_of t m l = (end_of t m l).world.state.leaps.0

-- the code's results, in these words
abbrev pub answered : Ran → Lent → Answer
answered r l =
    record {
      reply = told_reply r.reply;
      machine = r.machine;
      cycles = r.counts.cycles.0;
      instructions = r.counts.instructions.0;
      entries = r.counts.entries.0;
      used = r.counts.used.0;
      sent = r.counts.sent.0;
      lent = l;
    }

abbrev pub report_of : Ending → Ran
report_of e =
    let s = e.state in
    record {
      reply = e.reply;
      machine = s.machine;
      counts = record { cycles = s.cycles; instructions = s.instructions; entries = s.entries; used = s.used; sent = s.sent };
    }

abbrev pub ended_with : Ending → Lent → End
ended_with e l = end_at (told_reply e.reply) (world_of e.state l)

-- a refusal, where there is one
abbrev pub told_admission : Result ⊤ Reply → Option Told
told_admission (Ok x) = none
told_admission (Err r) = some (told_reply r)
