-- `night_arguments::joined` meets its contract: no room, or the two one after the other. Assumes nothing.
use Prim.Native.Nat.{ℕ, ◌-◌}
use native.Mathlib.Omega.{arith}
use mathlib.Core.List.{List, ◌++◌}
use mathlib.Core.Path.{refl, sym, ap, ◌∙◌}
use lib.ListN.{length, take, drop}
use lib.Seq.{take-length}
use Rattle.night_arguments.proofs.Laws.{no_room, both_stand, counted}
use Rattle.night_arguments.proofs.joined.Goals as goal

pub returns-then-buffer-name : goal.returns-then-buffer-name
returns-then-buffer-name c =
    let a = c.args in
    let h = c.if-buffer-name.true in
    record { prefix_len = (omega arith, refl); buffer_after = no_room a.name.now a.ending.now (length a.buffer.now) (omega arith) }

pub returns-then-buffer-name-2 : goal.returns-then-buffer-name-2
returns-then-buffer-name-2 c =
    let a = c.args in
    let g = c.if-buffer-name.false in
    let h = c.if-buffer-name-2.true in
    record { prefix_len = (omega arith, refl); buffer_after = no_room a.name.now a.ending.now (length a.buffer.now) (omega arith) }

pub returns : goal.returns
returns c =
    let a = c.args in
    let g = c.if-buffer-name.false in
    let h = c.if-buffer-name-2.false in
    let told = counted a.name.now a.ending.now (length a.buffer.now) _ (omega (arith, g, h))
    (both_stand a.name.now a.ending.now _ _ _
    (c.copy.ensures ∙ ap (λ (x : List ℕ). x ++ drop (length a.name.now) a.buffer.now) (sym (take-length a.name.now)))
    (c.copy-2.ensures
    ∙ ap (λ (x : List ℕ). x ++ drop (length a.ending.now) (take (length c.copy.new.to - length a.name.now) (drop (length a.name.now) c.copy.new.to))) (sym (take-length a.ending.now)))) in
    record { prefix_len = told.0; buffer_after = told.1 }
