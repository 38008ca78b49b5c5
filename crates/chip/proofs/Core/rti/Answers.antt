use Rattle.chip.proofs.ActLaws.{after, ends}
use Rattle.chip.specs.Instructions.{rti}
use Rattle.chip.proofs.Core.rti.Goals as goal

pub returns : goal.returns
unfolding rti
returns c = after _ _ _ _ c.pull-k.ensures
    (after _ _ _ _ c.pull-b.ensures
    (after _ _ _ _ c.pull-a.ensures
    (after _ _ _ _ c.pull_word-x.ensures (after _ _ _ _ c.pull_word-pc.ensures (ends _ _ _ (rw c.from.ensures))))))
