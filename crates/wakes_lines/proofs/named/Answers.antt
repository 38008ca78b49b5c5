-- `wakes_lines::named` meets its contract: each arm is an entry of the list; past its end there is no name. Assumes nothing.
use Prim.Native.Nat.{ℕ, ◌≤◌}
use native.Mathlib.Omega.{arith}
use mathlib.Core.List.{[]}
use mathlib.Core.Path.{◌≡◌, sym, ap, ◌∙◌}
use lib.ListN.{get_or-eq_default}
use Rattle.printing.specs.Printing.{puts_of}
use Rattle.printing.specs.declared.Line.{Line}
use Rattle.wakes_lines.specs.WakesLines.{cause_names, cause_name}
use Rattle.wakes_lines.proofs.Laws.{puts_none}
use Rattle.wakes_lines.proofs.named.Goals as goal

no_name : (line : Line) (k : ℕ) → 6 ≤ k → line ≡ puts_of line (cause_name k)
no_name line k h = puts_none line ∙ ap (puts_of line) (sym (get_or-eq_default cause_names [] h))

pub returns-in_default : goal.returns-in_default
returns-in_default c = no_name _ c.args.cause (omega arith)
