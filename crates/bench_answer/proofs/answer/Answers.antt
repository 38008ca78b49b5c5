-- `bench_answer::answer` meets its contract: what was loaded decides. Assumes nothing.
use Prim.Native.Nat.{ℕ, ◌-◌}
use native.Mathlib.Nat.{le_of_eq}
use mathlib.Core.List.{List}
use mathlib.Core.Path.{◌≡◌, sym, ap, ◌∙◌}
use lib.ListN.{length, take, drop, replicate, length-drop}
use lib.Seq.{take_all}
use Rattle.bench_input.specs.declared.Run.{Run}
use Rattle.std.specs.Prelude.{Some, None}
use Rattle.bench_input.specs.Input.{input_of, image_of}
use Rattle.bench_input.proofs.Laws.{session_within}
use Rattle.power.specs.Power.{power_answer}
use Rattle.printing.specs.Printing.{empty_line, puts_of}
use Rattle.printing.proofs.Laws.{puts_then}
use Rattle.bench_answer.specs.Answer.{powered_text, unloaded, told_input, input_text, line_of, bad_line}
use Rattle.bench_answer.proofs.answer.Goals as goal

rest : (s : List ℕ) (k : ℕ) → take (length s - k) (drop k s) ≡ drop k s
rest s k = take_all (length s - k) (drop k s) (le_of_eq (length-drop k s))

bad-text : (input : List ℕ) → input_of input ≡ None → bad_line ≡ line_of input
unfolding input_text
bad-text input e = rw e

run-text : (input image : List ℕ) {q : Run} → input_of input ≡ Some q → image ≡ image_of input unloaded
    → powered_text image (take (length input - q.session) (drop q.session input)) q.n (power_answer image q.r) ≡ input_text input (told_input (input_of input))
unfolding input_text
run-text input image {q} e i = rw (e, rest input q.session, i)

blank : (image : List ℕ) → image ≡ replicate 65536 0 → image ≡ unloaded
unfolding unloaded
blank image e = e

pub slice_bounds-powered-count : goal.slice_bounds-powered-count
slice_bounds-powered-count c = session_within _ (sym c.load.ensures.0 ∙ c.in-Some.is)

pub slice_bounds-powered-start : goal.slice_bounds-powered-start
slice_bounds-powered-start c = session_within _ (sym c.load.ensures.0 ∙ c.in-Some.is)

pub returns-in-None : goal.returns-in-None
returns-in-None c = c.bad_line.ensures
    ∙ ap (λ t. puts_of empty_line t) (bad-text c.args.input.now (sym c.load.ensures.0 ∙ c.in-None.is))

pub returns-in-Some : goal.returns-in-Some
returns-in-Some c = let input = c.args.input.now in
    puts_then _ _ _
    (c.powered.ensures
    ∙ ap (λ t. puts_of empty_line t)
    (run-text input c.load.new.image (sym c.load.ensures.0 ∙ c.in-Some.is)
    (c.load.ensures.1 ∙ ap (λ l. image_of input l) (blank _ c.zeros-image.ensures.value))))
    c.text.ensures
