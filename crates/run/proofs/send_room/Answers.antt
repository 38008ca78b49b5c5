use Rattle.run.proofs.Rooms.{first_never, first_same}
use Rattle.run.proofs.Waiting.{sends_later, free}
use mathlib.Core.Path.{sym, ap, ◌∙◌}
use mathlib.Core.Bool.{Bool, ◌&&◌}
use lib.Dec.{eqb, leb}
use Prim.Native.Nat.{ℕ, ◌-◌}
use Rattle.run.proofs.send_room.Goals as goal

pub returns-then-s : goal.returns-then-s
returns-then-s c = let s = c.args.s in
    first_same (λ j. sends_later j s ∙ ap (λ (t : Bool). t && eqb (s.busy - j) 0) c.if-s.true ∙ free s.busy j ∙ ap (λ (b : ℕ). leb b j) (sym c.from.ensures)) c.least.ensures

pub returns-else-s : goal.returns-else-s
returns-else-s c = let s = c.args.s in first_never _ _ (λ j. sends_later j s ∙ ap (λ (t : Bool). t && eqb (s.busy - j) 0) c.if-s.false)
