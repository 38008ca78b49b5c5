-- `Line::decimal` meets its contract: the kit's fewest digits are the definition's. Assumes nothing.
use native.Mathlib.Omega.{arith}
use mathlib.Core.Path.{ap, ◌∙◌}
use Rattle.printing.specs.Printing.{puts_of}
use Rattle.printing.proofs.Laws.{decimal_digits}
use Rattle.printing.proofs.Line.decimal.Goals as goal

pub returns : goal.returns
returns c = let told = c.decimal-k.ensures in
    c.text.ensures
    ∙ ap (λ t. puts_of c.args.self t) (told.digits ∙ decimal_digits _ _ (omega arith) told.len)
