use Rattle.operations.specs.Operations.{quiet_of}
use Rattle.plain.proofs.quiet.Goals as goal

pub returns-in-Internal : goal.returns-in-Internal
unfolding quiet_of
returns-in-Internal c = rw (c.in-Internal.is, c.internal.ensures)

pub returns-in-Monadic : goal.returns-in-Monadic
unfolding quiet_of
returns-in-Monadic c = rw (c.in-Monadic.is, c.result.ensures, c.monadic.ensures, c.of.ensures)

pub returns-in-Tst : goal.returns-in-Tst
unfolding quiet_of
returns-in-Tst c = rw (c.in-Tst.is, c.with_codes.ensures, c.tested.ensures, c.of-in-Tst.ensures)

pub returns-in-Branch : goal.returns-in-Branch
unfolding quiet_of
returns-in-Branch c = rw (c.in-Branch.is, c.branch-test.ensures)

pub returns-in-Jmp : goal.returns-in-Jmp
unfolding quiet_of
returns-in-Jmp c = rw (c.in-Jmp.is, c.with_pc.ensures)
