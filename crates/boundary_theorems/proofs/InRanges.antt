-- The machine that a run returns is in its ranges, where it was at the start and the session is sound. Assumes nothing.
use Prim.Native.Nat.{ℕ}
use mathlib.Core.List.{List}
use mathlib.Core.Path.{◌≡◌}
use mathlib.Core.Bool.{true}
use Rattle.session.specs.Session.{event_at, check_of}
use Rattle.std.specs.Prelude.{Ok}
use Rattle.session.proofs.Laws.{due_there}
use Rattle.bus.proofs.Ranges as bus
use Rattle.machine.specs.declared.Machine.{Machine}
use Rattle.machine.specs.Machine.{ranges_of}
use Rattle.machine.proofs.Ranges.{applied_ranges, passed_ranges, entered_ranges, step_ranges}
use Rattle.boundary.specs.World.{Lent, memories_in, Terms, World}
use Rattle.boundary.specs.Boundary.{record_taken, sent_state, entered_world, waited_state}
use Rattle.boundary.specs.Start.{start_world, ran_of}
use Rattle.boundary.proofs.Keeps.{Keeps, run_holds}
use Rattle.boundary.proofs.Kept.{Ahead, step_ahead, ahead, start_ahead}

abbrev Good : List ℕ → World → Type 0
Good session w = Ahead session w.state × (ranges_of w.state.machine ≡ true)

good : (t : Terms) → Keeps t (Good t.session)
unfolding record_taken sent_state entered_world waited_state
good t =
    let a = ahead t in
    record {
      applied = λ w d h.
          let there = (due_there t.session _ _ d).0 in
          let event = (step_ahead t.session w.state there h.0).event in (
            a.applied w d h.0,
            applied_ranges (event_at t.session w.state.place) (memories_in w.lent) w.state.machine event h.1,
          );
      sent = λ w l h. (a.sent w l h.0, bus.sent_ranges w.state.machine.chip.bus h.1);
      entered = λ w cause e f l h. (a.entered w cause e f l h.0, entered_ranges cause (memories_in w.lent) w.state.machine h.1);
      waited = λ w f l h. (a.waited w f l h.0, passed_ranges 1 w.state.machine h.1);
      stepped = λ w i f e l h. (a.stepped w i f e l h.0, step_ranges i (memories_in w.lent) w.state.machine h.1);
    }

pub run_ranges : (t : Terms) (m : Machine) (l : Lent) → check_of t.session ≡ Ok tt → ranges_of m ≡ true
    → ranges_of (ran_of t m l).world.state.machine ≡ true
run_ranges t m l s r = (run_holds t (Good t.session) (good t) (start_world m l) (start_ahead t.session m s, r)).1
