-- A text is its first line and the text after it: what the two passes over its lines keep, and the answer of each way out. Assumes nothing.
use Prim.Native.Nat.{ℕ, zero, suc, ◌+◌, ◌-◌, ◌≤◌, ◌<◌}
use native.Mathlib.Nat.{zero-add, add-zero}
use native.Mathlib.Omega.{arith}
use mathlib.Core.Path.{◌≡◌, refl, sym, ap, ◌∙◌}
use mathlib.Core.Bool.{Bool, true, false, cond}
use mathlib.Core.List.{List, [], ◌∷◌, ◌++◌}
use mathlib.Core.Option.{none, some}
use lib.ListN.{length, take, drop, length-drop, length-append, drop_of_length-le}
use lib.Seq.{sets, drop-append_seam, drop-drop, length-take-le}
use borrow.Author.Tests.{eq-eqb, ne_eqb, lt-ltb, le-ltb}
use Rattle.laws.proofs.Apart.{apart}
use Rattle.laws.proofs.Lists.{sets_append, take_rest}
use Rattle.numbers.proofs.Laws.{sets_over}
use Rattle.replies.specs.Replies.{told}
use Rattle.std.specs.Prelude.{Option, None, Result, Ok, Err}
use Rattle.listing_codes.specs.declared.Piece.{Piece}
use Rattle.listing_codes.specs.declared.Line.{Line}
use Rattle.listing_codes.specs.declared.Unread.{Unread}
use Rattle.listing_codes.specs.declared.Unread.TheVariants.{Bad, Far}
use Rattle.listing_reading.specs.Reading.{address_in, line_in}
use Rattle.listing_reading.proofs.Whole.{read_whole}
use Rattle.assembling.specs.declared.Fault.{Fault}
use Rattle.assembling.specs.declared.Fault.TheVariants.{Malformed, TooFar}
use Rattle.assembling.specs.declared.Span.{Span}
use Rattle.assembling.specs.declared.AssembleRefusal.{AssembleRefusal}
use Rattle.assembling.specs.Assembling.{piece_bytes, follows, due_next, line_step, Outcome, bad, good, ◌then◌, on_step, assembled_from, text_from, outcome_of}
use Rattle.assembling.specs.Checks.{checked_of, refusal_of}
use Rattle.assembling.specs.Assembling.{AssembleReply, wrote, nothing, refuses, line_fault_number, told_assembled, outcome_answer, assemble_answer, assembled_buffer, assemble_buffer, bytes_in}

-- a line that is taken was read and follows on
pub taken : (r : Result Line Unread) (due : Option ℕ) (l : Line) → line_step r due ≡ Ok l → (r ≡ Ok l) × (follows due l.piece.address ≡ true)
taken (Err Bad) due l e = apart cc
taken (Err (Far a)) due l e = by (follows due a) e
  where
    by : (b : Bool) → ◌≡◌ {A = Result Line Fault} (cond b (Err TooFar) (Err Malformed)) (Ok l)
        → ◌≡◌ {A = Result Line Unread} (Err (Far a)) (Ok l) × (follows due l.piece.address ≡ true)
    by true e = apart cc
    by false e = apart cc
taken (Ok k) due l e = by (follows due k.piece.address) refl e
  where
    by : (b : Bool) → follows due k.piece.address ≡ b → ◌≡◌ {A = Result Line Fault} (cond b (Ok k) (Err Malformed)) (Ok l)
        → ◌≡◌ {A = Result Line Unread} (Ok k) (Ok l) × (follows due l.piece.address ≡ true)
    by true f e = let g : k ≡ l = cc in (cc, rw (← g) f)
    by false f e = apart cc

-- what follows a line that is taken, where two ways to go on agree
pub on_both : (r : Result Line Unread) (due : Option ℕ) (line : ℕ) (f g : Line → Outcome)
    → ((l : Line) → r ≡ Ok l → follows due l.piece.address ≡ true → f l ≡ g l) → on_step (line_step r due) line f ≡ on_step (line_step r due) line g
on_both r due line f g h = by (line_step r due) refl
  where
    by : (s : Result Line Fault) → line_step r due ≡ s → on_step s line f ≡ on_step s line g
    by (Err fault) e = refl
    by (Ok l) e = let t = taken r due l e in ap (λ (o : Outcome). piece_bytes l.piece then o) (h l t.0 t.1)

-- any two numbers of lines that are enough agree
enough : (f g : ℕ) (w : List ℕ) (due : Option ℕ) (line : ℕ) → length w ≤ f → length w ≤ g → assembled_from f w due line ≡ assembled_from g w due line
unfolding assembled_from
enough zero zero w due line p q = refl
enough zero (suc g) [] due line p q = refl
enough zero (suc g) (c ∷ w) due line p q = absurd (let z : ⊥ = omega arith in z)
enough (suc f) zero [] due line p q = refl
enough (suc f) zero (c ∷ w) due line p q = absurd (let z : ⊥ = omega arith in z)
enough (suc f) (suc g) [] due line p q = refl
enough (suc f) (suc g) (c ∷ w) due line p q =
    on_both (line_in (c ∷ w)) due line _ _
    (λ r e _. let l = length-drop r.size (c ∷ w) in
    let s = (read_whole (c ∷ w) r e).0 in
    enough f g (drop r.size (c ∷ w)) (due_next r.piece) (line + 1) (omega (arith, l, s)) (omega (arith, l, s)))

pub text_more : (c : ℕ) (text : List ℕ) (due : Option ℕ) (line : ℕ) → text_from (c ∷ text) due line
    ≡ on_step (line_step (line_in (c ∷ text)) due) line (λ l. text_from (drop l.size (c ∷ text)) (due_next l.piece) (line + 1))
unfolding text_from assembled_from
text_more c text due line =
    on_both (line_in (c ∷ text)) due line _ _
    (λ r e _. let l = length-drop r.size (c ∷ text) in
    let s = (read_whole (c ∷ text) r e).0 in
    enough (length text) (length (drop r.size (c ∷ text))) (drop r.size (c ∷ text)) (due_next r.piece) (line + 1) (omega (arith, l, s)) (omega arith))

pub text_at : (text : List ℕ) (due : Option ℕ) (line : ℕ) → 0 < length text → text_from text due line
    ≡ on_step (line_step (line_in text) due) line (λ l. text_from (drop l.size text) (due_next l.piece) (line + 1))
text_at [] due line h = absurd (let z : ⊥ = omega arith in z)
text_at (c ∷ text) due line h = text_more c text due line

pub text_line : (t rest : List ℕ) (l : Line) (due : Option ℕ) (line : ℕ) → line_in (t ++ rest) ≡ Ok l → l.size ≡ length t → follows due l.piece.address ≡ true
    → text_from (t ++ rest) due line ≡ piece_bytes l.piece then text_from rest (due_next l.piece) (line + 1)
text_line [] rest l due line e n f = absurd (let s = (read_whole rest l e).0 in let z : ⊥ = omega (arith, s, n) in z)
text_line (c ∷ t) rest l due line e n f =
    text_more c (t ++ rest) due line
    ∙ rw (e, f, n) (ap (λ (w : List ℕ). piece_bytes l.piece then text_from w (due_next l.piece) (line + 1)) (drop-append_seam (c ∷ t) rest))

pub text_done : (due : Option ℕ) (line : ℕ) → text_from [] due line ≡ good []
unfolding text_from assembled_from
text_done due line = refl

pub piece_length : (p : Piece) → p.length ≤ 3 → length (piece_bytes p) ≡ p.length
piece_length p h = length-take-le p.length (p.first ∷ p.second ∷ p.third ∷ []) h

count_then : (n : ℕ) (bytes : List ℕ) (o : Outcome) → checked_of n (bytes then o) ≡ checked_of (n + length bytes) o
count_then n bytes (bad fault line) = refl
count_then n bytes (good rest) =
    let e : n + length (bytes ++ rest) ≡ n + length bytes + length rest = omega (arith, length-append bytes rest) in ap Ok e

-- a text without a bad line
abbrev pub Good : Outcome → Type 0
Good o = o ≡ good (bytes_in o)

good_then : (bytes : List ℕ) (o : Outcome) → Good (bytes then o) → Good o
good_then bytes (bad fault line) e = apart cc
good_then bytes (good rest) e = refl

bytes_then : (bytes : List ℕ) (o : Outcome) → Good o → bytes_in (bytes then o) ≡ bytes ++ bytes_in o
bytes_then bytes (bad fault line) e = apart cc
bytes_then bytes (good rest) e = refl

module _ (text : List ℕ) where
  -- what is left from a place on
  abbrev pub left : ℕ → Option ℕ → ℕ → Outcome
  left at due line = text_from (drop at text) due line

  -- the line at a place, as the code lends it
  abbrev pub line_at : ℕ → Result Line Unread
  line_at at = line_in (take (length text - at) (drop at text))

  left_more : (at : ℕ) (due : Option ℕ) (line : ℕ) → at < length text
      → left at due line ≡ on_step (line_step (line_in (drop at text)) due) line (λ l. left (at + l.size) (due_next l.piece) (line + 1))
  left_more at due line h =
      text_at (drop at text) due line (omega (arith, length-drop at text))
      ∙ on_both (line_in (drop at text)) due line _ _ (λ l _ _. ap (λ (w : List ℕ). text_from w (due_next l.piece) (line + 1)) (drop-drop l.size at text))

  left_done : (at : ℕ) (due : Option ℕ) (line : ℕ) → length text ≤ at → left at due line ≡ good []
  left_done at due line h = rw (drop_of_length-le text h) (text_done due line)

  -- the step that the code takes at a place
  module _ (at : ℕ) (due : Option ℕ) (line : ℕ) {s : Result Line Fault} (h : at < length text) (i : s ≡ line_step (line_at at) due) where
    step : s ≡ line_step (line_in (drop at text)) due
    step = rw (take_rest at text) at i

    left_stop : {fault : Fault} → s ≡ Err fault → left at due line ≡ bad fault line
    left_stop f = left_more at due line h ∙ rw (← step, f)

    left_go : (l : Line) → s ≡ Ok l
        → (left at due line ≡ piece_bytes l.piece then left (at + l.size) (due_next l.piece) (line + 1))
        × (at + l.size ≤ length text) × (20 ≤ l.size) × (1 ≤ l.piece.length) × (l.piece.length ≤ 3)
    left_go l f =
        let w = read_whole (drop at text) l (taken (line_in (drop at text)) due l (sym step ∙ f)).0 in
        let d = length-drop at text in
        (left_more at due line h ∙ rw (← step, f), omega (arith, d, w.1), w.0, w.2, w.3)

    pub forward : (l : Line) → s ≡ Ok l → 0 < l.size
    forward l f = let g = (left_go l f).2 in omega arith

  -- the first pass: so many lines and bytes are behind it
  pub record Checking (at : ℕ) (due : Option ℕ) (line n : ℕ) : Type 0 where
    pub inside : at ≤ length text
    pub lines : line ≤ 1 + at
    pub bytes : n ≤ at
    pub ahead : checked_of n (left at due line) ≡ checked_of 0 (outcome_of text)

  pub checking_starts : Checking 0 None 1 0
  unfolding outcome_of
  checking_starts = record { inside = omega arith; lines = omega arith; bytes = omega arith; ahead = refl }

  module _ (at : ℕ) (due : Option ℕ) (line n : ℕ) (k : Checking at due line n) where
    pub checking_ends : length text ≤ at → Ok n ≡ checked_of 0 (outcome_of text)
    checking_ends h = ap Ok (sym (add-zero n)) ∙ sym (ap (checked_of n) (left_done at due line h)) ∙ k.ahead

    module _ {s : Result Line Fault} (h : at < length text) (i : s ≡ line_step (line_at at) due) where
      pub checking_stops : {fault : Fault} → s ≡ Err fault → Err (refusal_of fault line) ≡ checked_of 0 (outcome_of text)
      checking_stops f = sym (ap (checked_of n) (left_stop at due line h i f)) ∙ k.ahead

      pub checking_goes : (l : Line) → s ≡ Ok l → Checking (at + l.size) (due_next l.piece) (line + 1) (n + l.piece.length)
      checking_goes l f =
          let g = left_go at due line h i l f in
          let o = left (at + l.size) (due_next l.piece) (line + 1) in
          let c : checked_of n (left at due line) ≡ checked_of (n + l.piece.length) o = rw (g.0, count_then n (piece_bytes l.piece) o, piece_length l.piece g.4) in
          record { inside = g.1; lines = omega (arith, g.2, k.lines); bytes = omega (arith, g.2, g.4, k.bytes); ahead = sym c ∙ k.ahead }

  -- the second pass: the bytes so far are in the buffer
  module _ (b₀ : List ℕ) where
    pub record Writing (at : ℕ) (due : Option ℕ) (to : ℕ) (b : List ℕ) : Type 0 where
      pub line : ℕ
      pub inside : at ≤ length text
      pub long : length b ≡ length b₀
      pub sound : Good (left at due line)
      pub room : to + length (bytes_in (left at due line)) ≤ length b₀
      pub ahead : sets b to (bytes_in (left at due line)) ≡ sets b₀ 0 (bytes_in (outcome_of text))

    pub writing_starts : Good (outcome_of text) → length (bytes_in (outcome_of text)) ≤ length b₀ → Writing 0 None 0 b₀
    unfolding outcome_of
    writing_starts g h = record { line = 1; inside = omega arith; long = refl; sound = g; room = omega arith; ahead = refl }

    module _ (at : ℕ) (due : Option ℕ) (to : ℕ) (b : List ℕ) (k : Writing at due to b) where
      pub writing_ends : length text ≤ at → b ≡ sets b₀ 0 (bytes_in (outcome_of text))
      writing_ends h = sym (ap (λ (o : Outcome). sets b to (bytes_in o)) (left_done at due k.line h)) ∙ k.ahead

      module _ {s : Result Line Fault} (h : at < length text) (i : s ≡ line_step (line_at at) due) where
        pub never_stops : {fault : Fault} → s ≡ Err fault → ⊥
        never_stops f = let z = left_stop at due k.line h i f in let g = k.sound in apart cc

        module _ (l : Line) (f : s ≡ Ok l) where
          abbrev rest : Outcome
          rest = left (at + l.size) (due_next l.piece) (k.line + 1)

          gone : Good rest × (l.piece.length ≤ 3) × (at + l.size ≤ length text) × (20 ≤ l.size)
              × (bytes_in (left at due k.line) ≡ piece_bytes l.piece ++ bytes_in rest)
              × (length (bytes_in (left at due k.line)) ≡ l.piece.length + length (bytes_in rest))
          gone =
              let g = left_go at due k.line h i l f in
              let m : Good rest = good_then (piece_bytes l.piece) rest (rw g.0 at k.sound) in
              let d : bytes_in (left at due k.line) ≡ piece_bytes l.piece ++ bytes_in rest = ap bytes_in g.0 ∙ bytes_then (piece_bytes l.piece) rest m in
              (m, g.4, g.1, g.2, d, rw d (length-append (piece_bytes l.piece) (bytes_in rest) ∙ ap (λ (j : ℕ). j + length (bytes_in rest)) (piece_length l.piece g.4)))

          pub put_fits : (l.piece.length ≤ 3) × (to + l.piece.length ≤ length b)
          put_fits = let g = gone in (g.1, omega (arith, g.5, k.room, k.long))

          pub writing_goes : {b' : List ℕ} → length b' ≡ length b → b' ≡ sets b to (piece_bytes l.piece)
              → Writing (at + l.size) (due_next l.piece) (to + l.piece.length) b'
          writing_goes {b'} long q =
              let g = gone in
              let c : sets b' (to + l.piece.length) (bytes_in rest) ≡ sets b to (bytes_in (left at due k.line)) =
              rw (q, g.4) (ap (λ (j : ℕ). sets (sets b to (piece_bytes l.piece)) (to + j) (bytes_in rest)) (sym (piece_length l.piece g.1))
              ∙ sets_append b to (piece_bytes l.piece) (bytes_in rest)) in
              record {
                line = k.line + 1;
                inside = g.2;
                long = long ∙ k.long;
                sound = g.0;
                room = omega (arith, g.5, k.room);
                ahead = c ∙ k.ahead;
              }

-- what the first pass tells
pub counted_good : (o : Outcome) {n : ℕ} → Ok n ≡ checked_of 0 o → Good o × (length (bytes_in o) ≡ n)
counted_good (bad f l) e = apart cc
counted_good (good bytes) {n} e = let z : 0 + length bytes ≡ n = cc in (refl, sym (zero-add (length bytes)) ∙ z)

told_refusal : (fault : Fault) (line : ℕ) → told_assembled (Err (refusal_of fault line)) ≡ refuses (told (line_fault_number fault) (some line))
told_refusal Malformed line = refl
told_refusal TooFar line = refl

-- the answers
module _ (text buffer : List ℕ) where
  abbrev pub Answers : AssembleReply → List ℕ → Type 0
  Answers reply b = (reply ≡ assemble_answer text buffer) × (b ≡ assemble_buffer text buffer)

  pub answer_empty : length text ≡ 0 → Answers nothing buffer
  unfolding assemble_answer assemble_buffer
  answer_empty e = rw (eq-eqb (length text) 0 e) (refl, refl)

  module _ (h : length text ≡ 0 → ⊥) where
    pub answer_bad : {e : AssembleRefusal} {a : Result (Option Span) AssembleRefusal} → a ≡ Err e → Err e ≡ checked_of 0 (outcome_of text)
        → Answers (told_assembled a) buffer
    unfolding assemble_answer assemble_buffer
    answer_bad {e} p q = rw (p, ne_eqb (length text) 0 h) (by (outcome_of text) q)
      where
        by : (o : Outcome) → Err e ≡ checked_of 0 o
            → (told_assembled (Err e) ≡ outcome_answer o text buffer) × (buffer ≡ assembled_buffer (outcome_answer o text buffer) (bytes_in o) buffer)
        by (bad fault line) q = let z : e ≡ refusal_of fault line = cc in rw z (told_refusal fault line, refl)
        by (good bytes) q = apart cc

    pub answer_full : {n : ℕ} → Ok n ≡ checked_of 0 (outcome_of text) → length buffer < n → Answers (refuses (told 23 none)) buffer
    unfolding assemble_answer assemble_buffer
    answer_full {n} e l =
        let g = counted_good (outcome_of text) e in
        rw (ne_eqb (length text) 0 h, g.0, g.1, lt-ltb (length buffer) n l) (refl, refl)

    pub answer_wrote : {n : ℕ} {b : List ℕ} → Ok n ≡ checked_of 0 (outcome_of text) → n ≤ length buffer
        → b ≡ sets buffer 0 (bytes_in (outcome_of text)) → Answers (wrote (address_in text) n) b
    unfolding assemble_answer assemble_buffer
    answer_wrote {n} e l q =
        let g = counted_good (outcome_of text) e in
        let f : length (bytes_in (outcome_of text)) ≤ length buffer = omega (arith, g.1) in
        rw (ne_eqb (length text) 0 h, g.0, g.1, le-ltb (length buffer) n l) (refl, q ∙ sets_over (bytes_in (outcome_of text)) buffer f)
