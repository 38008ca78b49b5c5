-- The ordinary run is the watched one with nothing watched, whatever cycles it goes on from. Assumes nothing.
use Rattle.std.specs.Prelude.{Option, None, Some}
use mathlib.Core.Path.{◌≡◌, refl, ap}
use mathlib.Core.Bool.{false, cond}
use lib.Dec.{leb}
use lib.ListN.{length}
use Rattle.turns.specs.Turn.{Turn, done, loop_of}
use Rattle.machine.specs.declared.Cause.{Cause}
use Rattle.machine.specs.Interrupts.{pending_of}
use Rattle.boundary.specs.declared.Stop.TheVariants.{Limit, Full}
use Rattle.boundary.specs.World.{Terms, unwatched, terms, World, Ended, ended_of}
use Rattle.boundary.specs.Boundary.{fed_world, sends_of, sent_world, logged_of, on_pending, act_of, send_of, boundary_of, cycles_left, run_of}
use Rattle.log_theorems.specs.Wakes.{logging}

module _ (t : Terms) where
  act_ordinary : (w : World) → act_of (logging false t).watch w ≡ act_of unwatched w
  unfolding act_of logged_of
  act_ordinary w = by (pending_of w.state.machine)
    where
      by : (p : Option Cause) → on_pending (logging false t).watch p w ≡ on_pending unwatched p w
      by (Some cause) = refl
      by None = refl

  boundary_ordinary : (w : World) → boundary_of (logging false t) w ≡ boundary_of (terms t.session t.limit) w
  unfolding boundary_of send_of
  boundary_ordinary w =
      let r = fed_world t.session w in
      λ i. cond (leb t.limit w.state.cycles.0)
      (done (ended_of Limit w))
      (cond (sends_of r.state)
      (cond (leb (length r.lent.output) r.state.sent.0) (done (ended_of Full r)) (act_ordinary (sent_world r) i))
      (act_ordinary r i))

  pub ordinary_run : (w : World) → run_of (logging false t) w ≡ run_of (terms t.session t.limit) w
  unfolding run_of
  ordinary_run w = ap (λ (turn : World → Turn World Ended). loop_of turn (λ (x : World). ended_of Limit x) (cycles_left t) w) (λ i v. boundary_ordinary v i)
