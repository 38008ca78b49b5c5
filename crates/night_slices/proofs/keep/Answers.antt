-- `night_slices::keep` meets its contract: the session, or its rest where crate rest wrote one. Assumes nothing.
use Rattle.std.proofs.Common.{◌≡◌, true, take, sym, ap, ◌∙◌, arith, length-take-le}
use Rattle.replies.specs.Replies.{told_reply, stops}
use Rattle.rest.specs.Answers.{rest_wrote, told_rest, rest_answer}
use Rattle.std.specs.Prelude.{Ok, Err}
use Rattle.rest.specs.Rest.{rest_of}
use Rattle.night_slices.specs.Slices.{keeping, on_keep}
use Rattle.night_slices.proofs.Keeping.{written_stands, keeps_refused, keeps_had, written_size, written_within, written_room}
use Rattle.night_slices.proofs.keep.Goals as goal

pub returns-then-not-is_stop : goal.returns-then-not-is_stop
returns-then-not-is_stop c =
    let a = c.args in (
      keeps_refused (take a.size a.session.now) a.used.0 a.cycles.0 (told_reply a.reply) (sym c.is_stop.ensures ∙ c.if-not-is_stop.true),
      omega arith,
    )

pub slice_bounds-copy-end : goal.slice_bounds-copy-end
slice_bounds-copy-end c =
    let a = c.args in
    let p = c.requires in
    let e : rest_wrote c.in-Ok.n ≡ rest_answer (take a.size a.session.now) a.used.0 a.cycles.0 a.spare.now = sym (ap told_rest c.in-Ok.is) ∙ c.rest-rested.ensures.0 in
    written_within a.size a.session.now a.spare.now p.0 p.1 a.used.0 a.cycles.0 e c.rest-rested.new.buffer c.rest-rested.auto.buffer

pub slice_bounds-copy-end-in-Ok : goal.slice_bounds-copy-end-in-Ok
slice_bounds-copy-end-in-Ok c =
    let a = c.args in
    let p = c.requires in
    let e : rest_wrote c.in-Ok.n ≡ rest_answer (take a.size a.session.now) a.used.0 a.cycles.0 a.spare.now = sym (ap told_rest c.in-Ok.is) ∙ c.rest-rested.ensures.0 in
    sym (length-take-le _ c.rest-rested.new.buffer
    (written_within a.size a.session.now a.spare.now p.0 p.1 a.used.0 a.cycles.0 e c.rest-rested.new.buffer c.rest-rested.auto.buffer))

pub copy-requires : goal.copy-requires
copy-requires c =
    let a = c.args in
    let p = c.requires in
    let e : rest_wrote c.in-Ok.n ≡ rest_answer (take a.size a.session.now) a.used.0 a.cycles.0 a.spare.now = sym (ap told_rest c.in-Ok.is) ∙ c.rest-rested.ensures.0 in
    written_room a.size a.session.now a.spare.now p.0 p.1 a.used.0 a.cycles.0 e c.rest-rested.new.buffer

pub returns-in-Ok : goal.returns-in-Ok
returns-in-Ok c =
    let a = c.args in
    let p = c.requires in
    let had = take a.size a.session.now in
    let stopped : stops (told_reply a.reply).number ≡ true = sym c.is_stop.ensures ∙ c.if-not-is_stop.false in
    let e : rest_wrote c.in-Ok.n ≡ rest_answer (take a.size a.session.now) a.used.0 a.cycles.0 a.spare.now = sym (ap told_rest c.in-Ok.is) ∙ c.rest-rested.ensures.0 in (
      ap (keeping (told_reply a.reply)) (written_stands had a.used.0 a.cycles.0 a.spare.now e a.session.now c.rest-rested.ensures.1 c.copy.ensures)
          ∙ keeps_had a.size a.session.now a.spare.now p.0 p.1 a.used.0 a.cycles.0 (told_reply a.reply) stopped (Ok _) e,
      written_size a.size a.session.now a.spare.now p.0 p.1 a.used.0 a.cycles.0 e,
    )

pub returns-in-Err : goal.returns-in-Err
returns-in-Err c =
    let a = c.args in
    let p = c.requires in
    let had = take a.size a.session.now in
    let t = told_reply a.reply in
    let stopped : stops t.number ≡ true = sym c.is_stop.ensures ∙ c.if-not-is_stop.false in (
      ap (on_keep t had (rest_of had a.used.0 a.cycles.0)) c.end_of.ensures
          ∙ keeps_had a.size a.session.now a.spare.now p.0 p.1 a.used.0 a.cycles.0 t stopped (Err c.in-Err.refusal) (sym (ap told_rest c.in-Err.is) ∙ c.rest-rested.ensures.0),
      omega arith,
    )
