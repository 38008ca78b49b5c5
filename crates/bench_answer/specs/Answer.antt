-- What 01's bench program prints.
use Rattle.std.specs.Prelude.{ℕ, List, [], ◌++◌, cond, drop, replicate, Option, Some, None}
use Rattle.std.proofs.Math.Option.{none}
use Rattle.asking.specs.Asking.{Given, gives, replies}
use Rattle.power.specs.Power.{power_answer}
use Rattle.replies.specs.Replies.{stops}
use Rattle.machine.specs.declared.Machine.{Machine}
use Rattle.boundary.specs.World.{Lent, lent, terms}
use Rattle.cabinet.specs.Answers.{Answer, answer_of}
use Rattle.printing.specs.Printing.{ascii}
use Rattle.lines.specs.Lines.{counted, counts_text, registers_text, refused_text, refusal}
use Rattle.bench_input.specs.declared.Run.{Run}
use Rattle.bench_input.specs.Input.{input_of, image_of}

-- "the reply, cycles, instructions, interrupt entries, records used and bytes sent in decimal, then registers in hexadecimal"
unfoldable pub stop_text : Answer → List ℕ
stop_text a =
    counted "stop " a.reply.number
    ++ counts_text (record { cycles = a.cycles; instructions = a.instructions; entries = a.entries; used = a.used; sent = a.sent })
    ++ registers_text a.machine.chip.registers

-- "Replies 1 to 3 and 10 print `refused K`; 4 to 7 print `refused K record R`"
unfoldable pub text_of : Answer → List ℕ
text_of a = cond (stops a.reply.number) (stop_text a) (refusal a.reply)

-- a line tells nothing of what was lent
abbrev pub nothing : Lent
nothing = lent [] [] []

-- "Unloaded bytes are 0", those of the area too; "output room is 256"; the results are the leaping run's, which are the single run's
unfoldable pub powered_text : List ℕ → List ℕ → ℕ → Given Machine → List ℕ
powered_text image session n (replies k) = refused_text k none
powered_text image session n (gives m) = text_of (answer_of (terms session n) m (lent image (replicate 128 0) (replicate 256 0)))

-- "Unloaded bytes are 0"
unfoldable pub unloaded : List ℕ
unloaded = replicate 65536 0

-- what a good input asks: N, R, and where its session begins; a bad one is reply 10
abbrev pub told_input : Option Run → Given Run
told_input None = replies 10
told_input (Some q) = gives q

unfoldable pub input_text : List ℕ → Given Run → List ℕ
input_text input (replies k) = refused_text k none
input_text input (gives q) =
    let image = image_of input unloaded in
    powered_text image (drop q.session input) q.n (power_answer image q.r)

-- the line, "then a newline"
abbrev pub line_of : List ℕ → List ℕ
line_of input = input_text input (told_input (input_of input)) ++ ascii "\n"

-- an input that cannot be read to its end is a bad one
abbrev pub bad_line : List ℕ
bad_line = input_text [] (told_input None) ++ ascii "\n"
