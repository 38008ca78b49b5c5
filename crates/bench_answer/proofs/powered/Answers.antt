-- `powered` meets its contract: power-on's answer decides. Assumes nothing.
use mathlib.Core.Path.{◌≡◌, refl, ap, ◌∙◌}
use Rattle.boundary.specs.World.{Lent, lent}
use Rattle.cabinet.specs.declared.Ran.{Ran}
use Rattle.cabinet.specs.Answers.{answered}
use Rattle.printing.specs.Printing.{empty_line, puts_of}
use Rattle.bench_answer.specs.Answer.{nothing, stop_text, text_of, powered_text}
use Rattle.bench_answer.proofs.powered.Goals as goal

-- the text tells nothing of what was lent
text-alone : (r : Ran) (l : Lent) → text_of (answered r nothing) ≡ text_of (answered r l)
unfolding text_of stop_text
text-alone r l = refl

pub returns-in-Err : goal.returns-in-Err
unfolding powered_text
returns-in-Err c = rw (← c.power_on.ensures, c.in-Err.is, c.power_number.ensures) c.refused.ensures

pub returns-in-Ok : goal.returns-in-Ok
unfolding powered_text
returns-in-Ok c = rw (← c.power_on.ensures, c.in-Ok.is)
    (c.report.ensures
    ∙ ap (λ t. puts_of empty_line t)
    (text-alone c.run_leaping-leapt.result.ran (lent c.run_leaping-leapt.new.image c.run_leaping-leapt.new.area c.run_leaping-leapt.new.output)
    ∙ ap text_of c.run_leaping-leapt.ensures.0))
