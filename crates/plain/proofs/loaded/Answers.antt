use Rattle.operations.specs.Operations.{loaded_of}
use Rattle.plain.proofs.loaded.Goals as goal

pub returns-in-Dyadic : goal.returns-in-Dyadic
unfolding loaded_of
returns-in-Dyadic c = rw (c.in-Dyadic.is, c.result.ensures, c.dyadic.ensures, c.of.ensures)

pub returns-in-Tst : goal.returns-in-Tst
unfolding loaded_of
returns-in-Tst c = rw (c.in-Tst.is, c.with_codes.ensures, c.tested.ensures)

pub returns-in-Pul : goal.returns-in-Pul
unfolding loaded_of
returns-in-Pul c = rw (c.in-Pul.is, c.with.ensures, c.with_sp.ensures, c.plus.ensures)
