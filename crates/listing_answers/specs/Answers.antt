-- What `assembler` prints: "`assembled N bytes at F000`, `assembled 0 bytes`, `refused 13 line L`, `refused 14 line L`".
use Rattle.std.specs.Prelude.{ℕ, List, ◌++◌}
use Rattle.std.proofs.Math.Option.{Option, none, some}
use Rattle.printing.specs.Printing.{ascii, hexadecimal_of}
use Rattle.lines.specs.Lines.{counted, refused_text}
use Rattle.replies.specs.Replies.{Told}
use Rattle.assembling.specs.Assembling.{AssembleReply, wrote, nothing, refuses}

unfoldable pub wrote_text : ℕ → ℕ → List ℕ
wrote_text first n = counted "assembled " n ++ ascii " bytes at " ++ hexadecimal_of 4 first ++ ascii "\n"

-- a refusal's line is counted from 1
abbrev pub line_text : Option ℕ → List ℕ
line_text none = ascii "\n"
line_text (some line) = counted " line " line ++ ascii "\n"

unfoldable pub refusal_text : Told → List ℕ
refusal_text t = refused_text t.number none ++ line_text t.named

unfoldable pub assembled_text : AssembleReply → List ℕ
assembled_text (wrote first n) = wrote_text first n
assembled_text nothing = ascii "assembled 0 bytes\n"
assembled_text (refuses t) = refusal_text t
