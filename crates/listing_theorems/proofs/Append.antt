-- A text that begins with whole good lines: what follows them is read as it would be alone, from where they end. Assumes nothing.
use Prim.Native.Nat.{ℕ, zero, suc, ◌+◌, ◌≤◌}
use native.Mathlib.Omega.{arith}
use mathlib.Core.Path.{◌≡◌, refl, sym, ap, subst, ◌∙◌}
use mathlib.Core.Bool.{true}
use mathlib.Core.List.{List, [], ◌∷◌, ◌++◌, append_assoc}
use lib.ListN.{get_or, length, drop, length-append}
use Rattle.std.specs.Prelude.{Option, Result, Ok, Err}
use Rattle.laws.proofs.Apart.{apart}
use Rattle.listing_lines.specs.Lines.{published_line}
use Rattle.listing_lines.proofs.Laws.{line_size, size_least}
use Rattle.listing_codes.specs.declared.Line.{Line}
use Rattle.listing_codes.specs.declared.Unread.{Unread}
use Rattle.assembling.specs.declared.Fault.{Fault}
use Rattle.listing_codes.proofs.Whole.{coded_whole}
use Rattle.listing_reading.specs.Reading.{line_in}
use Rattle.assembling.specs.Assembling.{piece_bytes, follows, due_next, line_step, on_step, Outcome, bad, good, ◌then◌, text_from}
use Rattle.assembling.proofs.Laws.{text_at, text_line, text_done, taken}
use Rattle.listing_theorems.specs.Published.{ShowsLine}
use Rattle.listing_theorems.proofs.Shows.{reads}

abbrev line_shown : {w : List ℕ} {r : Result Line Unread} → ShowsLine w r → List ℕ
line_shown s = published_line s.address s.column s.name s.form s.operand

-- bytes before an outcome: none, and some after others
pub then_none : (o : Outcome) → [] then o ≡ o
then_none (bad fault line) = refl
then_none (good bytes) = refl

pub then_then : (a b : List ℕ) (o : Outcome) → a then (b then o) ≡ (a ++ b) then o
then_then a b (bad fault line) = refl
then_then a b (good bytes) = ap good (sym (append_assoc a b bytes))

-- where good lines leave off: what the next line has to be at, and its number
pub record Leaves (lines : List ℕ) (due : Option ℕ) (line : ℕ) (bytes : List ℕ) : Type 0 where
  pub next : Option ℕ
  pub number : ℕ
  pub onward : (w : List ℕ) → text_from (lines ++ w) due line ≡ bytes then text_from w next number

module _ {v : List ℕ} {l : Line} (s : ShowsLine v (Ok l)) where
  shown_size : l.size ≡ length (line_shown s)
  shown_size = (coded_whole s.address s.operand (length (line_shown s)) s.name s.form l s.comes).sized

  shown_least : 20 ≤ length (line_shown s)
  shown_least =
      let l = line_size s.address s.column s.name s.form s.operand in
      let m = size_least (get_or s.name 3 0) s.form in
      omega arith

  -- it is read so whatever follows it
  shown_on : (w : List ℕ) → line_in (line_shown s ++ w) ≡ Ok l
  shown_on w =
      (reads (line_shown s ++ w) (Ok l) (λ z. apart cc)).1
      (record {
        address = s.address;
        column = s.column;
        name = s.name;
        form = s.form;
        operand = s.operand;
        rest = w;
        below = s.below;
        eight = s.eight;
        unbroken = s.unbroken;
        four = s.four;
        written = s.written;
        line = refl;
        comes = s.comes;
      })

  abbrev After : List ℕ → List ℕ → Option ℕ → ℕ → Type 0
  After text rest due line = text_from text due line ≡ piece_bytes l.piece then text_from rest (due_next l.piece) (line + 1)

  shown_line : (due : Option ℕ) (line : ℕ) → follows due l.piece.address ≡ true → After v s.rest due line
  shown_line due line f =
      ap (λ (x : List ℕ). text_from x due line) s.line ∙ text_line (line_shown s) s.rest l due line (shown_on s.rest) shown_size f

  shown_before : (w : List ℕ) (due : Option ℕ) (line : ℕ) → follows due l.piece.address ≡ true → After (v ++ w) (s.rest ++ w) due line
  shown_before w due line f =
      ap (λ (x : List ℕ). text_from (x ++ w) due line) s.line ∙ ap (λ (x : List ℕ). text_from x due line) (append_assoc (line_shown s) s.rest w)
      ∙ text_line (line_shown s) (s.rest ++ w) l due line (shown_on (s.rest ++ w)) shown_size f

  leaves_more : (due : Option ℕ) (line : ℕ) → follows due l.piece.address ≡ true → (bytes : List ℕ) → Leaves s.rest (due_next l.piece) (line + 1) bytes
      → Leaves v due line (piece_bytes l.piece ++ bytes)
  leaves_more due line f bytes i =
      record {
        next = i.next;
        number = i.number;
        onward = λ w. shown_before w due line f ∙ ap (λ (o : Outcome). piece_bytes l.piece then o) (i.onward w)
            ∙ then_then (piece_bytes l.piece) bytes (text_from w i.next i.number);
      }

no_lines : (due : Option ℕ) (line : ℕ) (bytes : List ℕ) → text_from [] due line ≡ good bytes → Leaves [] due line bytes
no_lines due line bytes e =
    let z : ◌≡◌ {A = List ℕ} [] bytes = (let t = text_done due line in cc) in
    record { next = due; number = line; onward = λ w. rw (← z) (sym (then_none (text_from w due line))) }

append : (n : ℕ) (lines : List ℕ) (due : Option ℕ) (line : ℕ) (bytes : List ℕ) → length lines ≤ n → text_from lines due line ≡ good bytes → Leaves lines due line bytes
append zero [] due line bytes h e = no_lines due line bytes e
append zero (c ∷ l) due line bytes h e = absurd (let z : ⊥ = omega arith in z)
append (suc n) [] due line bytes h e = no_lines due line bytes e
append (suc n) (c ∷ l) due line bytes h e =
    by (λ lines due line bytes. append n lines due line bytes) (line_step (line_in (c ∷ l)) due) refl (sym (text_at (c ∷ l) due line (omega arith)) ∙ e)
  where
    goes : ((lines : List ℕ) (due : Option ℕ) (line : ℕ) (bytes : List ℕ) → length lines ≤ n → text_from lines due line ≡ good bytes → Leaves lines due line bytes)
        → (q : Line) (s : ShowsLine (c ∷ l) (Ok q)) → follows due q.piece.address ≡ true
        → (o : Outcome) → text_from s.rest (due_next q.piece) (line + 1) ≡ o → piece_bytes q.piece then o ≡ good bytes → Leaves (c ∷ l) due line bytes
    goes ih q s f (bad fault k) t z = apart cc
    goes ih q s f (good more) t z =
        let m = ap (λ (x : List ℕ). length x) s.line in
        let k = length-append (line_shown s) s.rest in
        let least = shown_least s in
        let y : piece_bytes q.piece ++ more ≡ bytes = cc in
        subst (Leaves (c ∷ l) due line) y (leaves_more s due line f more (ih s.rest (due_next q.piece) (line + 1) more (omega arith) t))

    by : ((lines : List ℕ) (due : Option ℕ) (line : ℕ) (bytes : List ℕ) → length lines ≤ n → text_from lines due line ≡ good bytes → Leaves lines due line bytes)
        → (step : Result Line Fault) → line_step (line_in (c ∷ l)) due ≡ step
        → on_step step line (λ q. text_from (drop q.size (c ∷ l)) (due_next q.piece) (line + 1)) ≡ good bytes → Leaves (c ∷ l) due line bytes
    by ih (Err fault) t z = apart cc
    by ih (Ok q) t z =
        let g = taken (line_in (c ∷ l)) due q t in
        let s = (reads (c ∷ l) (Ok q) (λ z. apart cc)).0 g.0 in
        goes ih q s g.1 _ refl (sym (shown_line s due line g.1) ∙ e)

pub text_append : (lines : List ℕ) (due : Option ℕ) (line : ℕ) (bytes : List ℕ) → text_from lines due line ≡ good bytes → Leaves lines due line bytes
text_append lines due line bytes e = append (length lines) lines due line bytes (omega arith) e
