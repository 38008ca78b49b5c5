-- Interrupt entry in its two ways: out of a wait nothing is stacked, else all registers are. Assumes nothing.
use Prim.Native.Nat.{ℕ}
use mathlib.Core.Bool.{true, false, cond}
use mathlib.Core.Path.{◌≡◌, refl, subst⁻¹}
use Rattle.bus.specs.Access.{Memories}
use Rattle.moments.specs.Moment.{Moment}
use Rattle.registers.specs.declared.Registers.{Registers}
use Rattle.chip.specs.Act.{Act.done, Out, run, ◌>>=◌}
use Rattle.chip.specs.Instructions.{stack_all, vectored, enter}
use Rattle.chip.proofs.ActLaws.{after, ends}

pub enter_waiting : (vector : ℕ) (c : Registers) (b : Moment) (m : Memories) {z : Out Registers}
    → c.waiting ≡ true → run (vectored vector c) b m ≡ z → run (enter vector c) b m ≡ z
unfolding enter
enter_waiting vector c b m {z} e p =
    subst⁻¹ (λ w. run (cond w (done c) (stack_all c) >>= (λ d. vectored vector d)) b m ≡ z) e (after _ _ _ _ (ends c b m refl) p)

pub enter_stacking : (vector : ℕ) (c : Registers) (b : Moment) (m : Memories) {o z : Out Registers}
    → c.waiting ≡ false → run (stack_all c) b m ≡ o → run (vectored vector o.value) o.units o.memory ≡ z → run (enter vector c) b m ≡ z
unfolding enter
enter_stacking vector c b m {z} e p q =
    subst⁻¹ (λ w. run (cond w (done c) (stack_all c) >>= (λ d. vectored vector d)) b m ≡ z) e (after _ _ _ _ p q)
