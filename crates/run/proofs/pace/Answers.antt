use Rattle.run.proofs.pace.Goals as goal

pub returns-then-leaping : goal.returns-then-leaping
returns-then-leaping c = let l = c.leap.ensures in (l.0, l.1, λ k. l.3 _)
