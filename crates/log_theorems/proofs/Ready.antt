-- The state at step 4 of a boundary: no record is due there any more and no byte is to be sent, so that a boundary from there is its
-- steps 4 to 6 alone. Assumes nothing.
use Rattle.std.specs.Prelude.{Some}
use Prim.Native.Nat.{ℕ, ◌<◌}
use native.Mathlib.Omega.{arith}
use mathlib.Core.Path.{◌≡◌, refl, ap, ◌∙◌}
use mathlib.Core.Bool.{Bool, true, false, not, ◌&&◌}
use mathlib.Core.List.{List}
use Rattle.laws.proofs.Conds.{passes, cases}
use Rattle.serial.specs.Serial.{wants_to_send, sent_of}
use Rattle.machine.specs.declared.Cause.{Cause}
use Rattle.machine.specs.Interrupts.{pending_of}
use Rattle.boundary.specs.declared.State.{State}
use Rattle.boundary.specs.World.{memories_in, Terms, World, world_of}
use Rattle.boundary.specs.Boundary.{due, fed_world, sends_of, sent_state, on_pending, act_of, send_of, boundary_of}
use Rattle.boundary.proofs.Feeding.{records_done, records_end}
use Rattle.boundary.proofs.Cases.{records_cycles, below_limit, send_rests, act_accepts}
use Rattle.boundary_theorems.specs.Trace.{ready_state}

-- the limit is not reached, no record is due and no byte is to be sent
pub record Ready (session : List ℕ) (limit : ℕ) (s : State) : Type 0 where
  pub below : s.cycles.0 < limit
  pub rested : due session s ≡ false
  pub silent : sends_of s ≡ false

-- steps 2 and 3 keep the count
pub ready_cycles : (session : List ℕ) (w : World) → (ready_state session w).cycles.0 ≡ w.state.cycles.0
unfolding sent_state
ready_cycles session w =
    let c = records_cycles session (memories_in w.lent) w.state in
    cases (λ (s : State). s.cycles.0 ≡ w.state.cycles.0) (sends_of (fed_world session w).state) (λ _. c) (λ _. c)

-- a byte that was sent is not to be sent again: TDRE is set
pub sent_silent : (s : State) → sends_of (sent_state s) ≡ false
unfolding sent_state wants_to_send sent_of
sent_silent s = by s.machine.chip.bus.serial.te _
  where
    by : (te idle : Bool) → (te && not true && idle) ≡ false
    by true idle = refl
    by false idle = refl

module _ (t : Terms) (w : World) where
  -- after step 2, and where a byte was sent after it
  pub fed_ready : w.state.cycles.0 < t.limit → sends_of (fed_world t.session w).state ≡ false → Ready t.session t.limit (fed_world t.session w).state
  fed_ready l s =
      let c = records_cycles t.session (memories_in w.lent) w.state in
      let d = (records_end t.session (memories_in w.lent) (λ (x : State). Unit {0}) (λ x d u. tt) w.state tt).1 in
      record { below = omega arith; rested = d; silent = s }

  pub sent_ready : w.state.cycles.0 < t.limit → Ready t.session t.limit (sent_state (fed_world t.session w).state)
  unfolding sent_state
  sent_ready l =
      let s = (fed_world t.session w).state in
      let c = records_cycles t.session (memories_in w.lent) w.state in
      let d = (records_end t.session (memories_in w.lent) (λ (x : State). Unit {0}) (λ x d u. tt) w.state tt).1 in
      record { below = omega arith; rested = d; silent = sent_silent s }

  module _ (r : Ready t.session t.limit w.state) where
    fed_again : fed_world t.session w ≡ w
    fed_again = ap (λ (s : State). world_of s w.lent) (records_done t.session (memories_in w.lent) w.state r.rested)

    -- steps 4 to 6 alone
    pub ready_again : ready_state t.session w ≡ w.state
    ready_again =
        let silent = ap (λ (v : World). sends_of v.state) fed_again ∙ r.silent in
        passes _ _ silent ∙ ap (λ (v : World). v.state) fed_again

    pub boundary_again : boundary_of t w ≡ act_of t.watch w
    boundary_again =
        below_limit w.state w.lent t r.below
        ∙ ap (send_of t.watch) fed_again
        ∙ send_rests w.state w.lent t.watch r.silent

    -- and step 4 alone where an interrupt is to be accepted
    pub entry_again : (cause : Cause) → pending_of w.state.machine ≡ Some cause → boundary_of t w ≡ on_pending t.watch (Some cause) w
    entry_again cause e = boundary_again ∙ act_accepts w.state w.lent t.watch e
