-- `assembling::assemble` meets its contract: one law for each way out. Assumes nothing.
use native.Mathlib.Omega.{arith}
use mathlib.Core.Path.{sym, ◌∙◌}
use Rattle.assembling.proofs.Laws.{answer_empty, answer_bad, answer_full, answer_wrote}
use Rattle.assembling.proofs.assemble.Goals as goal

pub returns-then-is_empty : goal.returns-then-is_empty
returns-then-is_empty c = let a = c.args in answer_empty a.text.now a.buffer.now (grind arith)

pub returns-in_err-bytes : goal.returns-in_err-bytes
returns-in_err-bytes c = let a = c.args in
    answer_bad a.text.now a.buffer.now (grind arith) (grind (arith, c.from_residual.ensures)) (sym c.in_err-bytes.was ∙ c.check.ensures)

pub returns-then-buffer-bytes : goal.returns-then-buffer-bytes
returns-then-buffer-bytes c = let a = c.args in
    answer_full a.text.now a.buffer.now (grind arith) (sym c.in_ok-bytes.was ∙ c.check.ensures) c.if-buffer-bytes.true

pub returns : goal.returns
returns c = let a = c.args in
    rw c.address_in-first.ensures
    (answer_wrote a.text.now a.buffer.now (grind arith) (sym c.in_ok-bytes.was ∙ c.check.ensures) c.if-buffer-bytes.false c.write.ensures)
