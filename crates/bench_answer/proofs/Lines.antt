-- The bench program's line: it has at most 201 bytes, so that it is shown whole, and it is `refused 10` exactly where the input is
-- bad. Assumes nothing.
use Rattle.std.specs.Prelude.{Result, Ok, Err, Some, None}
use Rattle.std.specs.Prelude as maybe
use Prim.Native.Nat.{ℕ, ◌≤◌}
use native.Mathlib.Omega.{arith}
use mathlib.Core.Path.{◌≡◌, refl, sym, ap, ◌∙◌}
use mathlib.Core.Logic.{◌↔◌}
use mathlib.Core.Bool.{Bool, true, false, cond}
use mathlib.Core.List.{List, [], ◌++◌}
use mathlib.Core.Option.{Option, none, some}
use lib.ListN.{length, get_or, replicate, length-replicate}
use Rattle.asking.specs.Asking.{Given, gives, replies}
use Rattle.power.specs.Power.{told_power}
use Rattle.replies.specs.Replies.{stops}
use Rattle.machine.specs.declared.Machine.{Machine}
use Rattle.machine.specs.declared.PowerRefusal.{PowerRefusal}
use Rattle.machine.specs.declared.PowerRefusal.TheVariants.{WrongImage, WrongStart}
use Rattle.machine.specs.Machine.{power_on_of}
use Rattle.boundary.specs.World.{lent, terms}
use Rattle.cabinet.specs.Answers.{Answer, answer_of}
use Rattle.cabinet.proofs.Ends.{refusal_most}
use Rattle.bench_input.specs.declared.Run.{Run}
use Rattle.bench_input.specs.Input.{is_good, input_of}
use Rattle.bench_input.proofs.Laws.{loaded_bad, loaded_run}
use Rattle.printing.specs.declared.Line.{Line}
use Rattle.printing.specs.Printing.{ascii, empty_line, puts_of, shown, decimal_from, decimal_of}
use Rattle.printing.proofs.Shown.{shown_whole, Short, ◌then◌, short, decimal_short, one_digit}
use Rattle.lines.specs.Lines.{refused_text, refusal}
use Rattle.lines.proofs.Short.{counts_short, registers_short, refused_short}
use Rattle.bench_answer.specs.Answer.{stop_text, text_of, powered_text, told_input, input_text, line_of}

-- how long each text can be
stop_short : (a : Answer) → Short 200 (stop_text a)
unfolding stop_text
stop_short a =
    (short (ascii "stop ") then decimal_short a.reply.number) then counts_short _ then registers_short a.machine.chip.registers

text_short : (a : Answer) → Short 200 (text_of a)
unfolding text_of
text_short a = by (stops a.reply.number)
  where
    by : (b : Bool) → Short 200 (cond b (stop_text a) (refusal a.reply))
    by true = stop_short a
    by false = refused_short a.reply.number a.reply.named

power_short : (image session : List ℕ) (n : ℕ) (p : Given Machine) → Short 200 (powered_text image session n p)
unfolding powered_text
power_short image session n (replies k) = refused_short k none
power_short image session n (gives m) = text_short (answer_of (terms session n) m (lent image (replicate 128 0) (replicate 256 0)))

input_short : (input : List ℕ) (g : Given Run) → Short 200 (input_text input g)
unfolding input_text
input_short input (replies k) = refused_short k none
input_short input (gives q) = power_short _ _ q.n _

-- "exactly (then a newline)": a line has at most 201 bytes
pub line_short : (input : List ℕ) → length (line_of input) ≤ 201
line_short input = (input_short input (told_input (input_of input)) then short (ascii "\n")).most

-- "any two results it admits are proved equal"
pub answer_settled : (input : List ℕ) (r r' : Line) → r ≡ puts_of empty_line (line_of input) → r' ≡ puts_of empty_line (line_of input) → r ≡ r'
answer_settled input r r' p q = p ∙ sym q

-- what `answer` returns shows the line, all of it
pub line_shown_lem : (input : List ℕ) (r : Line) → r ≡ puts_of empty_line (line_of input) → shown r ≡ line_of input
line_shown_lem input r e = ap shown e ∙ shown_whole (line_of input) (let h = line_short input in omega (arith, h))

-- The line of reply 10 is no other reply's: it has a 0 after its 1, and begins as no stop does.
abbrev IsTen : List ℕ → Type 0
IsTen text = text ++ ascii "\n" ≡ ascii "refused 10\n"

refused_other : (k : ℕ) (r : Option ℕ) → k ≤ 9 → IsTen (refused_text k r) → ⊥
unfolding refused_text
refused_other k none h e =
    let z : ◌≡◌ {A = ℕ} 10 48 =
    sym (ap (λ (d : List ℕ). get_or (ascii "refused " ++ d ++ ascii "\n") 9 0) (one_digit k h)) ∙ ap (λ (t : List ℕ). get_or t 9 0) e in
    let w : ⊥ = omega (arith, z) in w
refused_other k (some r) h e =
    let z : ◌≡◌ {A = ℕ} 32 48 =
    sym (ap (λ (d : List ℕ). get_or (ascii "refused " ++ d ++ (ascii " record " ++ decimal_of r) ++ ascii "\n") 9 0) (one_digit k h))
    ∙ ap (λ (t : List ℕ). get_or t 9 0) e in
    let w : ⊥ = omega (arith, z) in w

stop_other : (a : Answer) → IsTen (stop_text a) → ⊥
unfolding stop_text
stop_other a e =
    let z : ◌≡◌ {A = ℕ} 115 114 = ap (λ (t : List ℕ). get_or t 0 0) e in
    let w : ⊥ = omega (arith, z) in w

text_other : (a : Answer) → (stops a.reply.number ≡ false → a.reply.number ≤ 7) → IsTen (text_of a) → ⊥
unfolding text_of
text_other a h = by (stops a.reply.number) refl
  where
    by : (b : Bool) → stops a.reply.number ≡ b → IsTen (cond b (stop_text a) (refusal a.reply)) → ⊥
    by true s e = stop_other a e
    by false s e = refused_other a.reply.number a.reply.named (let k = h s in omega arith) e

power_other : (image session : List ℕ) (n : ℕ) (p : Result Machine PowerRefusal) → IsTen (powered_text image session n (told_power p)) → ⊥
unfolding powered_text
power_other image session n (Err WrongImage) e = refused_other 1 none (omega arith) e
power_other image session n (Err WrongStart) e = refused_other 2 none (omega arith) e
power_other image session n (Ok m) e =
    let given = lent image (replicate 128 0) (replicate 256 0) in
    text_other (answer_of (terms session n) m given) (refusal_most (terms session n) m given (length-replicate {A = ℕ} 128 0)) e

input_other : (input : List ℕ) (q : Run) → IsTen (input_text input (told_input (Some q))) → ⊥
unfolding input_text
input_other input q e = power_other _ _ q.n (power_on_of _ q.r) e

bad_ten : (input : List ℕ) → IsTen (input_text input (told_input None))
unfolding input_text refused_text decimal_from
bad_ten input = refl

told_line : (input : List ℕ) {l : maybe.Option Run} → input_of input ≡ l → line_of input ≡ input_text input (told_input l) ++ ascii "\n"
told_line input e = ap (λ (l : maybe.Option Run). input_text input (told_input l) ++ ascii "\n") e

-- reply 10: "the program's own input is bad"
pub refused_10 : (input : List ℕ) → (line_of input ≡ ascii "refused 10\n") ↔ (is_good input ≡ false)
refused_10 input = (by (is_good input) refl, λ e. told_line input (sym (loaded_bad input [] e).0) ∙ bad_ten input)
  where
    by : (b : Bool) → is_good input ≡ b → line_of input ≡ ascii "refused 10\n" → is_good input ≡ false
    by false e t = e
    by true e t = absurd (input_other input _ (sym (told_line input (loaded_run input [] e).0) ∙ t))
