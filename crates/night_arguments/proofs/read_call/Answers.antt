-- `night_arguments::read_call` meets its contract: each turn looks at an option and its value. Assumes nothing.
use Prim.Native.Nat.{ℕ, ◌+◌}
use native.Mathlib.Omega.{arith}
use mathlib.Core.List.{List}
use mathlib.Core.Path.{refl, sym, ap, ◌∙◌}
use lib.ListN.{length, drop, length-set}
use Rattle.laws.proofs.Conds.{picks, passes}
use Rattle.night_arguments.specs.Options.{told, call_from}
use Rattle.night_arguments.proofs.Calls.{call_names, call_ended, call_no, call_on, call_end, too_many, call_start}
use Rattle.night_arguments.proofs.read_call.Goals as goal

pub returns-then-kinds-gt32 : goal.returns-then-kinds-gt32
returns-then-kinds-gt32 c = too_many c.args.kinds.now c.args.values.now c.if-kinds-gt32.true

pub loop-i-init : goal.loop-i-init
loop-i-init c = (c.if-kinds-gt32.false, omega arith, refl, call_start c.args.kinds.now c.args.values.now c.if-kinds-gt32.false)

pub returns-then-kind-eq0 : goal.returns-then-kind-eq0
returns-then-kind-eq0 c =
    let l = c.loop-i in
    let k = c.args.kinds.now in
    rw c.names_from.ensures.value (l.invariant.3 ∙ call_names k l.values (length k) l.i c.loop-i-test.true c.if-kind-eq0.true)

pub returns-then-kind-eq1 : goal.returns-then-kind-eq1
returns-then-kind-eq1 c =
    let l = c.loop-i in
    let k = c.args.kinds.now in
    rw c.names_from-then-kind-eq1.ensures.value (l.invariant.3 ∙ call_ended k l.values (length k) l.i c.loop-i-test.true c.if-kind-eq0.false c.if-kind-eq1.true)

pub returns-then-not-give : goal.returns-then-not-give
returns-then-not-give c =
    let l = c.loop-i in
    let k = c.args.kinds.now in
    let e = sym c.give.ensures.value ∙ c.if-not-give.true in
    l.invariant.3 ∙ call_no k l.values (length k) l.i c.loop-i-test.true c.if-kind-eq0.false c.if-kind-eq1.false e
    ∙ ap (told 0) (sym (c.give.ensures.values_after ∙ passes _ _ e))

pub loop-i-preserved : goal.loop-i-preserved
loop-i-preserved c =
    let l = c.loop-i in
    let k = c.args.kinds.now in
    let e = sym c.give.ensures.value ∙ c.if-not-give.false in (
      l.invariant.0,
      omega arith,
      ap length (c.give.ensures.values_after ∙ picks _ _ e) ∙ length-set _ _ _ ∙ l.invariant.2,
      l.invariant.3 ∙ call_on k l.values (length k) l.i c.loop-i-test.true c.if-kind-eq0.false c.if-kind-eq1.false e
          ∙ ap (λ (v : List ℕ). call_from (length k) (l.i + 2) v (drop (l.i + 2) k)) (sym (c.give.ensures.values_after ∙ picks _ _ e)),
    )

pub returns : goal.returns
returns c = c.loop-i.invariant.3 ∙ call_end c.args.kinds.now c.loop-i.values _ c.loop-i.i c.loop-i-test.false
