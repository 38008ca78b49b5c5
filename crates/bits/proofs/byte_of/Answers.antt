use Rattle.bits.proofs.Bytes.{byte_summed}
use Rattle.bits.proofs.byte_of.Goals as goal

pub returns : goal.returns
returns c = let a = c.args in byte_summed a.b0 a.b1 a.b2 a.b3 a.b4 a.b5 a.b6 a.b7
