-- `night_slices::closing` meets its contract: a refusal's number, or what the night tells. Assumes nothing.
use Prim.Native.Nat.{ℕ}
use mathlib.Core.Path.{◌≡◌, refl, sym, ap, ◌∙◌}
use Rattle.std.proofs.Math.Option.{none}
use Rattle.std.specs.Prelude.{Err}
use Rattle.registers.specs.declared.Registers.{Registers}
use Rattle.lines.specs.declared.Numbers.{Numbers}
use Rattle.lines.specs.Lines.{refused_text}
use Rattle.printing.specs.Printing.{empty_line, puts_of}
use Rattle.night_lines.specs.NightLines.{end_text}
use Rattle.night_slices.specs.declared.KeepRefusal.{KeepRefusal}
use Rattle.night_slices.specs.declared.KeepRefusal.TheVariants.{TooFew, NoRoom}
use Rattle.night_slices.specs.Slices.{SliceEnd, keep_number, told_slice_end}
use Rattle.night_slices.proofs.closing.Goals as goal

refused_end : (k : KeepRefusal) (slices : ℕ) (n : Numbers) (leaps : ℕ) (c : Registers)
    → refused_text (keep_number k) none ≡ end_text (told_slice_end (Err k)) slices n leaps c
unfolding end_text
refused_end TooFew slices n leaps c = refl
refused_end NoRoom slices n leaps c = refl

pub returns-in-Err : goal.returns-in-Err
returns-in-Err c =
    let a = c.args in
    c.refused.ensures ∙ ap (λ k. puts_of empty_line (refused_text k none)) c.number.ensures
    ∙ ap (puts_of empty_line) (refused_end c.in-Err.refusal a.slices a.n a.leaps a.c)
    ∙ ap (λ (e : SliceEnd). puts_of empty_line (end_text (told_slice_end e) a.slices a.n a.leaps a.c)) (sym c.in-Err.is)
