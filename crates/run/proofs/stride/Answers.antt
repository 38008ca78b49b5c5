-- `run::stride` meets its contract: each turn is a plain instruction more. Assumes nothing.
use Rattle.std.proofs.Common.{◌<◌, refl, ap, subst, ◌∙◌, arith, Option}
use Rattle.plain.specs.declared.Hop.{Hop}
use Rattle.plain.specs.Plainly.{Hopped, Hops}
use Rattle.boundary.specs.World.{terms_of, world_of}
use Rattle.boundary.specs.Boundary.{run_of}
use Rattle.boundary.specs.declared.State.{State}
use Rattle.run.specs.Leaps.{with_image}
use Rattle.run.proofs.Striding.{strode_none, strides, below_room}
use Rattle.run.proofs.stride.Goals as goal

pub loop-cycles-init : goal.loop-cycles-init
loop-cycles-init c =
    let a = c.args in
    (λ l. ap (λ (x : State). run_of (terms_of a.terms) (world_of x (with_image l a.image.now))) (strode_none a.s), omega arith, omega arith, refl)

pub loop-cycles-preserved : goal.loop-cycles-preserved
loop-cycles-preserved c =
    let a = c.args in
    let l = c.loop-cycles in
    let room = c.room-room in
    let floor = c.floor_of-floor in
    let h = c.step in
    let k = c.in-Some.hop.cycles in
    let next = c.in-Some.hop.registers in
    let start = a.s.machine.chip.bus.r in
    let m : Hopped floor.result start l.c l.image k.0 next h.new.image =
    subst (λ (x : Option Hop). Hops floor.result start l.c l.image x h.new.image) c.in-Some.is h.ensures in
    let u = l.invariant.1 in
    let on = c.if-room-cycles.false in
    let v : l.cycles < room.result = below_room room.result l.cycles _ _ on in
    let w = m.takes in
    let x = m.most in
    let told = c.idles.ensures in (
      strides (terms_of a.terms) a.s room.result l.c next l.cycles l.instructions k.0 floor.result
          a.image.now l.image h.new.image room.ensures told on floor.ensures m l.invariant.0,
      omega arith,
      omega arith,
      h.auto.image ∙ l.invariant.3,
    )
