-- What the night program prints: a line for each slice, and the night's line or its refusal.
use Rattle.std.specs.Prelude.{ℕ, cond, List, ◌++◌}
use Rattle.printing.specs.Printing.{ascii}
use Rattle.registers.specs.declared.Registers.{Registers}
use Rattle.replies.specs.Replies.{Told, stops}
use Rattle.lines.specs.declared.Numbers.{Numbers}
use Rattle.lines.specs.Lines.{counted, counts_text, registers_text, refusal}

-- the bench line's words for the counts, and the leaps
unfoldable pub leapt_text : Numbers → ℕ → List ℕ
leapt_text n leaps = counts_text n ++ counted " leaps " leaps

-- "one line per slice"
unfoldable pub slice_text : ℕ → ℕ → Numbers → ℕ → List ℕ
slice_text number stop n leaps = counted "slice " number ++ counted " stop " stop ++ leapt_text n leaps ++ ascii "\n"

-- "a summary line"
unfoldable pub stopped_text : ℕ → ℕ → Numbers → ℕ → Registers → List ℕ
stopped_text stop slices n leaps c = counted "night stop " stop ++ counted " slices " slices ++ leapt_text n leaps ++ registers_text c

-- the summary where the night stopped, and else the refusal as the bench program prints it
unfoldable pub end_text : Told → ℕ → Numbers → ℕ → Registers → List ℕ
end_text t slices n leaps c = cond (stops t.number) (stopped_text t.number slices n leaps c) (refusal t)
