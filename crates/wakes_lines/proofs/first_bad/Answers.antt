-- `wakes_lines::first_bad` meets its contract: all rows before the one found are good. Assumes nothing.
use Prim.Native.Nat.{ℕ, ◌≤◌, ◌<◌}
use native.Mathlib.Omega.{arith}
use mathlib.Core.Bool.{true, false}
use mathlib.Core.List.{List}
use mathlib.Core.Path.{◌≡◌}
use borrow.Author.Tests.{tests}
use Rattle.std.proofs.Common.{rules, Option, Some, None, MatchOption}
use Rattle.std.proofs.lemmas.Iterator.{first_from_Range}
use Rattle.wake_log.specs.Log.{is_row}
use Rattle.wakes_lines.specs.WakesLines.{FirstBad}
use Rattle.wakes_lines.proofs.first_bad.Goals as goal

told : (log : List ℕ) (rows : ℕ) (r : Option ℕ)
    → MatchOption r ((k : ℕ) → 0 ≤ k → k < rows → is_row log k ≡ true)
    (λ i. (0 ≤ i) × (i < rows) × (is_row log i ≡ false) × ((k : ℕ) → 0 ≤ k → k < i → is_row log k ≡ true)) → FirstBad log rows r
told log rows None h = λ k l. h k (omega arith) l
told log rows (Some r) h = (h.1, (λ k l. h.3 k (omega arith) l), h.2)

pub returns : goal.returns
returns c =
    let log = c.args.log.now in
    told log c.args.rows c.find.result
    (first_from_Range (record { start = 0; end = c.args.rows }) _ _ _ (λ k. is_row log k ≡ false) (λ k. is_row log k ≡ true) c.find.ensures.ran
    (λ x q k. search (rules, tests)) (λ x q k. search (rules, tests)))
