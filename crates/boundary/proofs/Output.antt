-- The output that a run was lent: "the caller gets back the filled part of the output it lent; bytes after it are unchanged".
-- The bytes sent are never more than its room, its length is kept, and what was sent stays as it was sent. Assumes nothing.
use Rattle.std.proofs.Common.{◌≡◌, ℕ, ◌+◌, ◌<◌, ◌≤◌, List, ◌++◌, length, take, drop, set, sym, refl, ap, ◌∙◌, arith, length-set, take-append-drop, length-take-le, drop-drop, drop-set-lt}
use lib.Seq.{take-set-le}
use Rattle.machine.specs.declared.Machine.{Machine}
use Rattle.boundary.specs.World.{Lent, Terms, World}
use Rattle.boundary.specs.Boundary.{record_taken, sent_state, entered_world, waited_state, run_of}
use Rattle.boundary.specs.Start.{start_world, ran_of}
use Rattle.boundary.proofs.Keeps.{Keeps, run_holds}

-- An output that was `before` with k bytes sent is now `after` with n: there was room, the length is kept, the bytes sent before
-- are as they were, and so are those after the n.
pub record Filled (before after : List ℕ) (k n : ℕ) : Type 0 where
  pub more : k ≤ n
  pub room : n ≤ length after
  pub long : length after ≡ length before
  pub kept : take k after ≡ take k before
  pub rest : drop n after ≡ drop n before

filled_byte : (before after : List ℕ) (k n v : ℕ) → Filled before after k n → n < length after → Filled before (set after n v) k (n + 1)
filled_byte before after k n v h p =
    let m = h.more in
    record {
      more = omega arith;
      room = rw length-set (omega arith);
      long = length-set after n v ∙ h.long;
      kept = take-set-le k after n v m ∙ h.kept;
      rest = drop-set-lt (n + 1) after n v (omega arith) ∙ sym (drop-drop 1 n after) ∙ ap (drop 1) h.rest ∙ drop-drop 1 n before;
    }

filled : (before : List ℕ) (k : ℕ) (t : Terms) → Keeps t (λ w. Filled before w.lent.output k w.state.sent.0)
unfolding record_taken sent_state entered_world waited_state
filled before k t =
    record {
      applied = λ w d h. h;
      sent = λ w l h. filled_byte before w.lent.output k w.state.sent.0 _ h l;
      entered = λ w cause e f l h. h;
      waited = λ w f l h. h;
      stepped = λ w i f e l h. h;
    }

-- from any world on: no more is sent than there is room for, and no byte changes but those that are sent
pub run_filled : (t : Terms) (w : World) → w.state.sent.0 ≤ length w.lent.output
    → let v = (run_of t w).world in Filled w.lent.output v.lent.output w.state.sent.0 v.state.sent.0
run_filled t w h =
    run_holds t (λ v. Filled w.lent.output v.lent.output w.state.sent.0 v.state.sent.0)
    (filled w.lent.output w.state.sent.0 t) w
    (record { more = omega arith; room = h; long = refl; kept = refl; rest = refl })

-- from a start: the sent count is the filled part's length, and the output is the filled part and then the bytes that were there
pub filled_part : (t : Terms) (m : Machine) (l : Lent)
    → let w = (ran_of t m l).world in
    (w.state.sent.0 ≤ length l.output)
    × (length w.lent.output ≡ length l.output)
    × (length (take w.state.sent.0 w.lent.output) ≡ w.state.sent.0)
    × (w.lent.output ≡ take w.state.sent.0 w.lent.output ++ drop w.state.sent.0 l.output)
filled_part t m l =
    let w = (ran_of t m l).world in
    let o = w.lent.output in
    let k = w.state.sent.0 in
    let f = run_filled t (start_world m l) (omega arith) in
    let r = f.room in
    let s = f.long in
    (omega arith, s, length-take-le k o r, sym (take-append-drop k o) ∙ ap (λ d. take k o ++ d) f.rest)
