-- A night's lines are shown whole: a slice's line has at most 216 bytes, the night's at most 244. Assumes nothing.
use Prim.Native.Nat.{ℕ, ◌≤◌}
use native.Mathlib.Omega.{arith}
use mathlib.Core.List.{◌++◌}
use mathlib.Core.Path.{◌≡◌, refl, sym, ap, subst, ◌∙◌}
use mathlib.Core.Bool.{Bool, true, false, cond, ◌||◌, true≢false}
use lib.Dec.{eqb}
use lib.ListN.{length}
use borrow.Author.Tests.{eqb-true}
use Rattle.registers.specs.declared.Registers.{Registers}
use Rattle.replies.specs.Replies.{Told, stops}
use Rattle.printing.specs.declared.Line.{Line}
use Rattle.printing.specs.Printing.{ascii, empty_line, puts_of, shown, decimal_from, decimal_of}
use Rattle.printing.proofs.Shown.{shown_whole, Short, ◌then◌, short, decimal_short}
use Rattle.lines.specs.declared.Numbers.{Numbers}
use Rattle.lines.specs.Lines.{refusal}
use Rattle.lines.proofs.Short.{longer, counts_short, registers_short, refused_short}
use Rattle.night_lines.specs.NightLines.{leapt_text, slice_text, stopped_text, end_text}

leapt_short : (n : Numbers) (leaps : ℕ) → Short 163 (leapt_text n leaps)
unfolding leapt_text
leapt_short n leaps = counts_short n then (short (ascii " leaps ") then decimal_short leaps)

slice_short : (number stop : ℕ) (n : Numbers) (leaps : ℕ) → Short 216 (slice_text number stop n leaps)
unfolding slice_text
slice_short number stop n leaps =
    (short (ascii "slice ") then decimal_short number)
    then (short (ascii " stop ") then decimal_short stop)
    then leapt_short n leaps
    then short (ascii "\n")

-- what a slice's line shows is its text, all of it
pub slice_shown : (number stop : ℕ) (n : Numbers) (leaps : ℕ) (r : Line) → r ≡ puts_of empty_line (slice_text number stop n leaps)
    → shown r ≡ slice_text number stop n leaps
slice_shown number stop n leaps r e =
    ap shown e ∙ shown_whole (slice_text number stop n leaps) (let h = (slice_short number stop n leaps).most in omega (arith, h))

-- a run stops with one or two digits
stop_short : (k : ℕ) → stops k ≡ true → Short 2 (decimal_of k)
unfolding decimal_from
stop_short k = by (eqb k 0) refl (eqb k 8) refl (eqb k 9) refl (eqb k 11) refl
  where
    at : (n : ℕ) → eqb k n ≡ true → length (decimal_of n) ≤ 2 → Short 2 (decimal_of k)
    at n e h = subst (λ (j : ℕ). Short 2 (decimal_of j)) (sym (eqb-true k n e)) (record { most = h })

    by : (a : Bool) → eqb k 0 ≡ a → (b : Bool) → eqb k 8 ≡ b → (c : Bool) → eqb k 9 ≡ c → (d : Bool) → eqb k 11 ≡ d → (a || b || c || d) ≡ true
        → Short 2 (decimal_of k)
    by true e b f c g d i h = at 0 e (omega arith)
    by false e true f c g d i h = at 8 f (omega arith)
    by false e false f true g d i h = at 9 g (omega arith)
    by false e false f false g true i h = at 11 i (omega arith)
    by false e false f false g false i h = absurd (true≢false (sym h))

stopped_short : (stop slices : ℕ) (n : Numbers) (leaps : ℕ) (c : Registers) → Short 2 (decimal_of stop) → Short 243 (stopped_text stop slices n leaps c)
unfolding stopped_text
stopped_short stop slices n leaps c h =
    (short (ascii "night stop ") then h)
    then (short (ascii " slices ") then decimal_short slices)
    then leapt_short n leaps
    then registers_short c

end_short : (t : Told) (slices : ℕ) (n : Numbers) (leaps : ℕ) (c : Registers) → Short 243 (end_text t slices n leaps c)
unfolding end_text
end_short t slices n leaps c = by (stops t.number) refl
  where
    by : (b : Bool) → stops t.number ≡ b → Short 243 (cond b (stopped_text t.number slices n leaps c) (refusal t))
    by true e = stopped_short t.number slices n leaps c (stop_short t.number e)
    by false e = longer (omega arith) (refused_short t.number t.named)

-- what the night's line shows is its text, all of it
pub end_shown : (t : Told) (slices : ℕ) (n : Numbers) (leaps : ℕ) (c : Registers) (r : Line)
    → r ≡ puts_of empty_line (end_text t slices n leaps c ++ ascii "\n") → shown r ≡ end_text t slices n leaps c ++ ascii "\n"
end_shown t slices n leaps c r e =
    ap shown e
    ∙ shown_whole (end_text t slices n leaps c ++ ascii "\n")
    (let h = (end_short t slices n leaps c then short (ascii "\n")).most in omega (arith, h))
