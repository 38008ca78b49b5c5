use Rattle.plain.proofs.Hopping.{executes}
use Rattle.plain.proofs.execute.Goals as goal

pub returns : goal.returns
returns c = executes _ _ _ _ _ _ _ c.requires.0
    (rw (c.with_pc.ensures, c.plus.ensures) at (c.locate-f.ensures c.args.start))
    c.operate.ensures
