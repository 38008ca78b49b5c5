-- "Any two results it admits are proved equal", for each public call, every byte of what was lent included; and the two runs agree.
-- Assumes nothing.
use mathlib.Core.Path.{◌≡◌, sym, ap, ◌∙◌}
use Rattle.replies.proofs.Known.{reply_known}
use Rattle.machine.specs.declared.Machine.{Machine}
use Rattle.boundary.specs.World.{Lent, Terms}
use Rattle.cabinet.specs.declared.Ran.{Ran}
use Rattle.cabinet.specs.declared.Leapt.{Leapt}
use Rattle.cabinet.specs.Answers.{Answer, answered, answer_of, leaps_of}

-- what a run answers fixes its report, and what it leaves of the image, the area, the output and the log
same_answer : (r r' : Ran) (l l' : Lent) → answered r l ≡ answered r' l' → (r ≡ r') × (l ≡ l')
same_answer r r' l l' e =
    let p = reply_known r.reply r'.reply (ap (λ (a : Answer). a.reply) e) in (
      λ k. record {
        reply = p k;
        machine = (e k).machine;
        counts = record {
          cycles = record { 0 = (e k).cycles };
          instructions = record { 0 = (e k).instructions };
          entries = record { 0 = (e k).entries };
          used = record { 0 = (e k).used };
          sent = record { 0 = (e k).sent };
        };
      },
      ap (λ (a : Answer). a.lent) e,
    )

module _ (asked : Terms) (m : Machine) (given : Lent) where
  -- the promises of the two runs: a report, and what they leave of what was lent
  abbrev pub Single : Ran → Lent → Type 0
  Single r l = answered r l ≡ answer_of asked m given

  abbrev pub Leaping : Leapt → Lent → Type 0
  Leaping r l = (answered r.ran l ≡ answer_of asked m given) × (r.leaps.0 ≡ leaps_of asked m given)

  pub single_settled : (r r' : Ran) (l l' : Lent) → Single r l → Single r' l' → (r ≡ r') × (l ≡ l')
  single_settled r r' l l' p q = same_answer r r' l l' (p ∙ sym q)

  pub leaping_settled : (r r' : Leapt) (l l' : Lent) → Leaping r l → Leaping r' l' → (r ≡ r') × (l ≡ l')
  leaping_settled r r' l l' p q =
      let s = same_answer r.ran r'.ran l l' (p.0 ∙ sym q.0) in
      let n = p.1 ∙ sym q.1 in
      (λ k. record { ran = s.0 k; leaps = record { 0 = n k } }, s.1)

  -- Given the same image, area, machine, session, N, output and log, the two runs end alike: in reply, machine, image, area, output, log and all
  -- counts that both report. "Both forms give the same log": every byte.
  pub runs_agree : (r : Ran) (r' : Leapt) (l l' : Lent) → Single r l → Leaping r' l' → (r ≡ r'.ran) × (l ≡ l')
  runs_agree r r' l l' p q = single_settled r r'.ran l l' p q.0
