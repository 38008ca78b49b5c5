-- `run::run` meets its contract: each turn is a boundary, and what the run does until the next. Assumes nothing.
use Rattle.std.proofs.Common.{◌≡◌, sym, ◌∙◌, ap, arith, Option, None, Some}
use Rattle.turns.specs.Turn.{Turn, more, done}
use Rattle.boundary.specs.World.{Lent, World, Ended, lending, world_of, ended_of}
use Rattle.boundary.specs.Boundary.{stop_turn, turned}
use Rattle.boundary.specs.declared.Stop.{Stop}
use Rattle.boundary.specs.declared.Turned.{Turned}
use Rattle.boundary.proofs.Runs.{run_more, run_done, run_fine, run_falls}
use Rattle.run.proofs.run.Goals as goal

-- a boundary that goes on, and one that stops the run, as the code tells them
module _ {r : Turned} {l : Lent} {x : Turn World Ended} (e : turned r l ≡ x) where
  went : r.stop ≡ None → x ≡ more (world_of r.state l)
  went s = sym e ∙ ap (λ (p : Option Stop). stop_turn p (world_of r.state l)) s

  stopped : {k : Stop} → r.stop ≡ Some k → x ≡ done (ended_of k (world_of r.state l))
  stopped s = sym e ∙ ap (λ (p : Option Stop). stop_turn p (world_of r.state l)) s

pub pace-s-requires : goal.pace-s-requires
pace-s-requires c = (run_fine _ _ _ c.loop-stop.invariant.0 (went c.boundary-t.ensures c.in_default.is), c.requires.1)

pub loop-stop-smaller : goal.loop-stop-smaller
loop-stop-smaller c =
    let f = run_falls _ _ _ (went c.boundary-t.ensures c.in_default.is) in
    let g = c.pace-s.ensures.1 in
    omega arith

pub loop-stop-preserved : goal.loop-stop-preserved
loop-stop-preserved c =
    let b = c.boundary-t in
    let v = c.loop-stop.invariant in
    let p = c.pace-s in
    let e = p.ensures in (
      e.0,
      v.1 ∙ run_more _ _ (went b.ensures c.in_default.is) ∙ e.2 (lending b.new.image b.new.area b.new.output b.new.log),
      p.auto.image ∙ b.auto.image ∙ v.2,
      b.auto.area ∙ v.3,
      b.auto.output ∙ v.4,
      b.auto.log ∙ v.5,
    )

pub returns-in-Some : goal.returns-in-Some
returns-in-Some c = sym (c.loop-stop.invariant.1 ∙ run_done _ _ (stopped c.boundary-t.ensures c.in-Some.is))
