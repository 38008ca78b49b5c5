-- `night_slices::slice` meets its contract: the run, the rest and the sums. Assumes nothing.
use Rattle.std.proofs.Common.{◌+◌, ◌≤◌, length, arith}
use Rattle.laws.proofs.Lists.{take_rest}
use Rattle.boundary.specs.World.{logged_bytes}
use Rattle.night_slices.proofs.Sliced.{put_end, sent_fits, logged_fits, sliced, fitting, next_size, next_sent, next_logged}
use Rattle.night_slices.proofs.slice.Goals as goal

pub after-requires : goal.after-requires
after-requires g c =
    let a = c.args in
    let l = c.watch_leaping-leapt in
    let h = c.requires in
    let sent : a.night.sent + l.result.ran.counts.sent.0 ≤ length a.output.now =
    sent_fits a.night l.result a.image.now a.area.now a.session.now a.output.now a.log.now l.ensures.0 c.slice_of.ensures
    (take_rest a.night.sent a.output.now) (take_rest a.night.logged a.log.now) h.2 in
    let logged : a.night.logged + logged_bytes a.night.watch l.result.ran.counts.entries.0 ≤ length a.log.now =
    logged_fits a.night l.result a.image.now a.area.now a.session.now a.output.now a.log.now l.ensures.0 c.slice_of.ensures
    (take_rest a.night.sent a.output.now) (take_rest a.night.logged a.log.now) h.3 in
    (fitting _ _ sent (omega arith), fitting _ _ logged (omega arith))

pub returns : goal.returns
returns g c =
    let a = c.args in
    let l = c.watch_leaping-leapt in
    let h = c.requires in
    let sent : a.night.sent + l.result.ran.counts.sent.0 ≤ length a.output.now =
    sent_fits a.night l.result a.image.now a.area.now a.session.now a.output.now a.log.now l.ensures.0 c.slice_of.ensures
    (take_rest a.night.sent a.output.now) (take_rest a.night.logged a.log.now) h.2 in
    let logged : a.night.logged + logged_bytes a.night.watch l.result.ran.counts.entries.0 ≤ length a.log.now =
    logged_fits a.night l.result a.image.now a.area.now a.session.now a.output.now a.log.now l.ensures.0 c.slice_of.ensures
    (take_rest a.night.sent a.output.now) (take_rest a.night.logged a.log.now) h.3 in
    let k = c.keep-kept in (
      sliced a.night l.result a.image.now a.area.now a.session.now a.output.now a.log.now l.ensures.0 c.slice_of.ensures
          (take_rest a.night.sent a.output.now) (take_rest a.night.logged a.log.now) l.ensures.1
          k.result k.new.session k.ensures.0 c.after.ensures
          (put_end a.night.sent a.output.now l.new.output)
          (put_end a.night.logged a.log.now l.new.log),
      next_size a.night l.result k.result c.after.ensures k.ensures.1,
      next_sent a.night l.result k.result c.after.ensures sent,
      next_logged a.night l.result k.result c.after.ensures logged,
    )
