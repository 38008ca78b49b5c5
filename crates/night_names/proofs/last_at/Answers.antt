-- `night_names::last_at` meets its contract: each turn looks at one byte more. Assumes nothing.
use Prim.Native.Nat.{ℕ, ◌+◌}
use native.Mathlib.Omega.{arith}
use mathlib.Core.Path.{◌≡◌, sym, ap, ◌∙◌}
use lib.ListN.{drop, get_or}
use lib.Seq.{length-take-le}
use Rattle.laws.proofs.Conds.{picks, passes}
use Rattle.night_names.specs.Names.{begins_at, last_from}
use Rattle.night_names.proofs.Laws.{last_start, last_next, last_end, begins_within}
use Rattle.night_names.proofs.last_at.Goals as goal
use Rattle.night_names.proofs.last_at.Goals.{then-is_slash, else-is_slash}

pub loop-i-init : goal.loop-i-init
loop-i-init c = record { within = omega arith; same = last_start c.args.name.now }

pub loop-i-preserved : goal.loop-i-preserved
loop-i-preserved c =
    let l = c.loop-i in
    let t = c.args.name.now in
    let e : c.if-is_slash.at ≡ begins_at (get_or t l.i 0) (l.i + 1) l.at = elim c.if-is_slash.branch [
      | then-is_slash w ↦ w.at-is ∙ sym (picks _ _ (sym c.is_slash.ensures ∙ w.if-is_slash.true))
      | else-is_slash w ↦ w.at-is ∙ sym (passes _ _ (sym c.is_slash.ensures ∙ w.if-is_slash.false))
    ] in
    record {
      within = rw e (begins_within (get_or t l.i 0) (l.i + 1) l.at (let g = l.invariant.within in omega arith));
      same = l.invariant.same ∙ last_next t l.i l.at c.loop-i-test.true ∙ ap (λ (k : ℕ). last_from (l.i + 1) k (drop (l.i + 1) t)) (sym e);
    }

pub returns : goal.returns
returns c =
    let l = c.loop-i in
    let g = l.invariant.within in
    record {
      prefix_len = (omega arith, sym (length-take-le _ _ (omega arith)));
      value = sym (l.invariant.same ∙ last_end c.args.name.now l.i l.at c.loop-i-test.false);
    }
