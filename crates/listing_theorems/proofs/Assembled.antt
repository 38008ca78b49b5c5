-- The call `assemble`: each answer exactly when, with the line that 13 and 14 name, one result for each input, and a refused buffer as it was. Assumes
-- nothing.
use Prim.Native.Nat.{ℕ, zero, suc, ◌+◌, ◌≤◌, ◌<◌}
use native.Mathlib.Nat.{add-zero}
use native.Mathlib.Omega.{arith}
use mathlib.Core.Path.{◌≡◌, refl, sym, ap, subst, ◌∙◌}
use mathlib.Core.Logic.{◌↔◌, inl, inr}
use mathlib.Core.Bool.{Bool, true, false, cond}
use mathlib.Core.List.{List, [], ◌∷◌, ◌++◌, append-nil}
use mathlib.Core.Option as maybe
use mathlib.Core.Option.{none, some}
use lib.Dec.{ltb, eqb}
use lib.ListN.{length, drop, length-drop}
use borrow.Author.Tests.{ne_eqb, lt-ltb, le-ltb, ltb-true, ltb-false, eqb-true, eqb-false}
use Rattle.std.specs.Prelude.{Option, None, Some, Result, Ok, Err}
use Rattle.laws.proofs.Apart.{apart}
use Rattle.laws.proofs.Conds.{cases, picks, passes}
use Rattle.laws.proofs.Known.{known}
use Rattle.laws.proofs.Lists.{no_bytes}
use Rattle.numbers.specs.Numbers.{over}
use Rattle.replies.specs.Replies.{Told, told}
use Rattle.listing_codes.specs.declared.Line.{Line}
use Rattle.listing_codes.specs.declared.Unread.{Unread}
use Rattle.listing_codes.specs.declared.Unread.TheVariants.{Bad, Far}
use Rattle.listing_reading.specs.Reading.{address_in, line_in}
use Rattle.listing_reading.proofs.Whole.{read_whole, read_far}
use Rattle.assembling.specs.declared.Fault.{Fault}
use Rattle.assembling.specs.declared.Fault.TheVariants.{Malformed, TooFar}
use Rattle.assembling.specs.declared.Span.{Span}
use Rattle.assembling.specs.declared.AssembleRefusal.{AssembleRefusal}
use Rattle.assembling.specs.declared.AssembleRefusal.TheVariants as refusal
use Rattle.assembling.specs.Assembling.{piece_bytes, follows, due_next, Outcome, bad, good, ◌then◌, line_step, on_step, text_from, outcome_of}
use Rattle.assembling.specs.Assembling.{AssembleReply, wrote, nothing, refuses, line_fault_number, told_assembled, outcome_answer, assemble_answer, bytes_in, assembled_buffer, assemble_buffer}
use Rattle.assembling.proofs.Laws.{text_at, text_done}
use Rattle.listing_theorems.specs.Texts.{GoesOn, here, onward, Faulty, Stopped, Through}
use Rattle.listing_theorems.proofs.Append.{then_none, then_then}

-- what a text's first line does, by what is read
module _ (text : List ℕ) (due : Option ℕ) (n : ℕ) where
  takes : (l : Line) → line_in text ≡ Ok l → follows due l.piece.address ≡ true
      → text_from text due n ≡ piece_bytes l.piece then text_from (drop l.size text) (due_next l.piece) (n + 1)
  takes l e f =
      let w = read_whole text l e in
      text_at text due n (omega (arith, w.0, w.1)) ∙ rw (e, f)

  stops : (fault : Fault) → 0 < length text → Faulty fault text due → text_from text due n ≡ bad fault n
  stops Malformed h (inl e) = text_at text due n h ∙ rw e
  stops Malformed h (inr e) = text_at text due n h ∙ by (line_in text) refl
    where
      by : (r : Result Line Unread) → line_in text ≡ r
          → on_step (line_step r due) n (λ l. text_from (drop l.size text) (due_next l.piece) (n + 1)) ≡ bad Malformed n
      by (Err Bad) f = refl
      by (Err (Far a)) f = rw (read_far text a f, e)
      by (Ok l) f = rw ((read_whole text l f).4, e)
  stops TooFar h (e, f) = text_at text due n h ∙ rw (e, f)

-- lines that are good are behind
goes_from : {text bytes rest : List ℕ} {due due' : Option ℕ} {k : ℕ} (n : ℕ) → GoesOn text due k bytes rest due'
    → text_from text due n ≡ bytes then text_from rest due' (n + k)
goes_from n (here {text} {due}) = rw (add-zero n) (sym (then_none (text_from text due n)))
goes_from n (onward {text} {bytes} {rest} {due} {due'} {k} l e f g) =
    let more : n + 1 + k ≡ n + suc k = omega arith in
    takes text due n l e f ∙ ap (λ (o : Outcome). piece_bytes l.piece then o) (goes_from (n + 1) g)
    ∙ then_then (piece_bytes l.piece) bytes (text_from rest due' (n + 1 + k)) ∙ ap (λ (j : ℕ). (piece_bytes l.piece ++ bytes) then text_from rest due' j) more

-- a text from line n on: the line that is named, or the bytes
record Named (text : List ℕ) (due : Option ℕ) (n : ℕ) (fault : Fault) (line : ℕ) : Type 0 where
  k : ℕ
  number : line ≡ n + k
  stopped : Stopped text due fault k

abbrev Walked : List ℕ → Option ℕ → ℕ → Outcome → Type 0
Walked text due n (bad fault line) = Named text due n fault line
Walked text due n (good bytes) = Through text due bytes

after : (text : List ℕ) (due : Option ℕ) (n : ℕ) (l : Line) → line_in text ≡ Ok l → follows due l.piece.address ≡ true
    → (o : Outcome) → Walked (drop l.size text) (due_next l.piece) (n + 1) o → Walked text due n (piece_bytes l.piece then o)
after text due n l e f (bad fault line) w =
    let s = w.stopped in
    let number : line ≡ n + suc w.k = omega (arith, w.number) in
    let goes = onward l e f s.goes in
    let stopped : Stopped text due fault (suc w.k) =
    record { bytes = piece_bytes l.piece ++ s.bytes; rest = s.rest; due' = s.due'; goes = goes; some = s.some; faulty = s.faulty } in
    record { k = suc w.k; number = number; stopped = stopped }
after text due n l e f (good bytes) w = record { lines = suc w.lines; due' = w.due'; goes = onward l e f w.goes }

halt : (text : List ℕ) (due : Option ℕ) (n : ℕ) (fault : Fault) → 0 < length text → Faulty fault text due → Walked text due n (text_from text due n)
halt text due n fault h q =
    let s : Stopped text due fault 0 = record { bytes = []; rest = text; due' = due; goes = here; some = h; faulty = q } in
    subst (Walked text due n) (sym (stops text due n fault h q)) (record { k = 0; number = sym (add-zero n); stopped = s })

ends : (due : Option ℕ) (n : ℕ) → Walked [] due n (text_from [] due n)
ends due n = subst (Walked [] due n) (sym (text_done due n)) (record { lines = 0; due' = due; goes = here })

walk : (f : ℕ) (text : List ℕ) (due : Option ℕ) (n : ℕ) → length text ≤ f → Walked text due n (text_from text due n)
walk zero [] due n l = ends due n
walk zero (c ∷ text) due n l = absurd (let z : ⊥ = omega arith in z)
walk (suc f) [] due n l = ends due n
walk (suc f) (c ∷ text) due n l = by (λ rest due' h. walk f rest due' (n + 1) h) (line_in (c ∷ text)) refl
  where
    far : (a : ℕ) → line_in (c ∷ text) ≡ Err (Far a) → (b : Bool) → follows due (address_in (c ∷ text)) ≡ b → Walked (c ∷ text) due n (text_from (c ∷ text) due n)
    far a e true f = halt (c ∷ text) due n TooFar (omega arith) (e ∙ ap (λ (b : ℕ). Err (Far b)) (read_far (c ∷ text) a e), f)
    far a e false f = halt (c ∷ text) due n Malformed (omega arith) (inr f)

    read : ((rest : List ℕ) (due' : Option ℕ) → length rest ≤ f → Walked rest due' (n + 1) (text_from rest due' (n + 1))) → (r : Line)
        → line_in (c ∷ text) ≡ Ok r → (b : Bool) → follows due r.piece.address ≡ b → Walked (c ∷ text) due n (text_from (c ∷ text) due n)
    read ih r e true q =
        let w = read_whole (c ∷ text) r e in
        let rest = ih (drop r.size (c ∷ text)) (due_next r.piece) (omega (arith, w.0, length-drop r.size (c ∷ text))) in
        let o = text_from (drop r.size (c ∷ text)) (due_next r.piece) (n + 1) in
        subst (Walked (c ∷ text) due n) (sym (takes (c ∷ text) due n r e q)) (after (c ∷ text) due n r e q o rest)
    read ih r e false q = halt (c ∷ text) due n Malformed (omega arith) (inr (rw (← (read_whole (c ∷ text) r e).4) q))

    by : ((rest : List ℕ) (due' : Option ℕ) → length rest ≤ f → Walked rest due' (n + 1) (text_from rest due' (n + 1)))
        → (r : Result Line Unread) → line_in (c ∷ text) ≡ r → Walked (c ∷ text) due n (text_from (c ∷ text) due n)
    by ih (Err Bad) e = halt (c ∷ text) due n Malformed (omega arith) (inl e)
    by ih (Err (Far a)) e = far a e (follows due (address_in (c ∷ text))) refl
    by ih (Ok l) e = read ih l e (follows due l.piece.address) refl

walked : (text : List ℕ) {o : Outcome} → outcome_of text ≡ o → Walked text None 1 o
unfolding outcome_of
walked text e = subst (Walked text None 1) e (walk (length text) text None 1 (omega arith))

-- "the first bad line decides", and it is counted from 1
pub stopped_at : (text : List ℕ) (fault : Fault) (k : ℕ) → (outcome_of text ≡ bad fault (suc k)) ↔ Stopped text None fault k
unfolding outcome_of
stopped_at text fault k = (
  (λ e. let w = walked text e in let z : w.k ≡ k = omega (arith, w.number) in subst (Stopped text None fault) z w.stopped),
  (λ s.
      let z : 1 + k ≡ suc k = omega arith in
      goes_from 1 s.goes ∙ ap (λ (o : Outcome). s.bytes then o) (stops s.rest s.due' (1 + k) fault s.some s.faulty) ∙ ap (bad fault) z),
)

pub counted_from_1 : (text : List ℕ) (fault : Fault) → outcome_of text ≡ bad fault 0 → ⊥
counted_from_1 text fault e = let w = walked text e in let z : ⊥ = omega (arith, w.number) in z

pub goes_through : (text bytes : List ℕ) → (outcome_of text ≡ good bytes) ↔ Through text None bytes
unfolding outcome_of
goes_through text bytes = (
  walked text,
  (λ t. goes_from 1 t.goes ∙ ap (λ (o : Outcome). bytes then o) (text_done t.due' (1 + t.lines)) ∙ ap good (append-nil bytes)),
)

abbrev Answer : Type 0
Answer = Result (Option Span) AssembleRefusal

abbrev assembled_back : AssembleReply → Answer
assembled_back (wrote first n) = Ok (Some (record { first = first; bytes = n }))
assembled_back nothing = Ok None
assembled_back (refuses t) = by t.named
  where
    by : maybe.Option ℕ → Answer
    by none = Err refusal.NoRoom
    by (some line) = Err (cond (eqb t.number 13) (refusal.Malformed line) (refusal.TooFar line))

assembled_known : (a b : Answer) → told_assembled a ≡ told_assembled b → a ≡ b
assembled_known = known told_assembled assembled_back back
  where
    back : (a : Answer) → assembled_back (told_assembled a) ≡ a
    back (Ok (Some span)) = refl
    back (Ok None) = refl
    back (Err (refusal.Malformed line)) = refl
    back (Err (refusal.TooFar line)) = refl
    back (Err refusal.NoRoom) = refl

-- the outcome that a refusal of a line tells
abbrev outcome_back : AssembleReply → Outcome
outcome_back (wrote first n) = good []
outcome_back nothing = good []
outcome_back (refuses t) = by t.named
  where
    by : maybe.Option ℕ → Outcome
    by none = good []
    by (some line) = bad (cond (eqb t.number 13) Malformed TooFar) line

abbrev refusing : Fault → ℕ → AssembleReply
refusing fault line = refuses (told (line_fault_number fault) (some line))

bad_back : (fault : Fault) (line : ℕ) → outcome_back (refusing fault line) ≡ bad fault line
bad_back Malformed line = refl
bad_back TooFar line = refl

module _ (text buffer : List ℕ) where
  abbrev pub Answers : AssembleReply → Type 0
  Answers a = assemble_answer text buffer ≡ a

  -- each way that the call can go
  answer_cases : (P : AssembleReply → Type 0)
      → (length text ≡ 0 → P nothing)
      → ((fault : Fault) (line : ℕ) → outcome_of text ≡ bad fault line → P (refusing fault line))
      → ((bytes : List ℕ) → outcome_of text ≡ good bytes → length buffer < length bytes → P (refuses (told 23 none)))
      → ((bytes : List ℕ) → (length text ≡ 0 → ⊥) → outcome_of text ≡ good bytes → length bytes ≤ length buffer → P (wrote (address_in text) (length bytes)))
      → P (assemble_answer text buffer)
  unfolding assemble_answer
  answer_cases P p q u v = cases P (eqb (length text) 0) (λ e. p (eqb-true _ _ e)) (λ e. by (eqb-false _ _ e) (outcome_of text) refl)
    where
      by : (length text ≡ 0 → ⊥) → (o : Outcome) → outcome_of text ≡ o → P (outcome_answer o text buffer)
      by h (bad fault line) e = q fault line e
      by h (good bytes) e = cases P (ltb (length buffer) (length bytes)) (λ l. u bytes e (ltb-true _ _ l)) (λ l. v bytes h e (ltb-false _ _ l))

  empty_good : length text ≡ 0 → outcome_of text ≡ good []
  unfolding outcome_of
  empty_good e = rw (no_bytes text e) (text_done None 1)

  answers : (o : Outcome) → (length text ≡ 0 → ⊥) → outcome_of text ≡ o → assemble_answer text buffer ≡ outcome_answer o text buffer
  unfolding assemble_answer
  answers o h e = rw (ne_eqb (length text) 0 h, e)

  -- nothing exactly where the text is empty
  pub reply_nothing : Answers nothing ↔ (text ≡ [])
  unfolding assemble_answer
  reply_nothing = (
    answer_cases (λ a. a ≡ nothing → text ≡ []) (λ h _. no_bytes text h) (λ _ _ _ e. apart cc) (λ _ _ _ e. apart cc) (λ _ _ _ _ e. apart cc),
    (λ e. rw e),
  )

  -- the number of the first faulty line's fault, with that line counted from 1
  reply_fault : (fault : Fault) (k : ℕ) → Answers (refusing fault (suc k)) ↔ Stopped text None fault k
  reply_fault fault k = (
    (λ e. (stopped_at text fault k).0 (
        answer_cases (λ a. a ≡ refusing fault (suc k) → outcome_of text ≡ bad fault (suc k))
        (λ _ e. apart cc)
        (λ f line o e. o ∙ sym (bad_back f line) ∙ ap outcome_back e ∙ bad_back fault (suc k))
        (λ _ _ _ e. let z = ap outcome_back e ∙ bad_back fault (suc k) in apart cc)
        (λ _ _ _ _ e. apart cc)
        e)),
    (λ s. let o = (stopped_at text fault k).1 s in answers _ (λ h. let z = empty_good h in apart cc) o),
  )

  -- 13 exactly where the lines before it are good, and the line is not of the published form or does not follow on
  pub reply_13 : (k : ℕ) → Answers (refuses (told 13 (some (suc k)))) ↔ Stopped text None Malformed k
  reply_13 = reply_fault Malformed

  -- 14 exactly where the lines before it are good, and the line is a branch that follows on and is out of its target's reach
  pub reply_14 : (k : ℕ) → Answers (refuses (told 14 (some (suc k)))) ↔ Stopped text None TooFar k
  reply_14 = reply_fault TooFar

  -- no line 0 is named
  pub reply_from_1 : (number : ℕ) → Answers (refuses (told number (some 0))) → ⊥
  reply_from_1 number =
      answer_cases (λ a. a ≡ refuses (told number (some 0)) → ⊥) (λ _ e. apart cc)
      (λ fault line o e. let z = ap named_in e in let i : line ≡ 0 = cc in counted_from_1 text fault (o ∙ ap (bad fault) i))
      (λ _ _ _ e. let z = ap named_in e in apart cc)
      (λ _ _ _ _ e. apart cc)
    where
      named_in : AssembleReply → maybe.Option ℕ
      named_in (wrote first n) = none
      named_in nothing = none
      named_in (refuses t) = t.named

  -- all lines are good, and the buffer is shorter than their bytes
  pub record Longer : Type 0 where
    pub bytes : List ℕ
    pub through : Through text None bytes
    pub long : length buffer < length bytes

  pub reply_23 : Answers (refuses (told 23 none)) ↔ Longer
  reply_23 = (
    answer_cases (λ a. a ≡ refuses (told 23 none) → Longer)
        (λ _ e. apart cc)
        (λ fault line _ e. let z = sym (bad_back fault line) ∙ ap outcome_back e in apart cc)
        (λ bytes o l _. record { bytes = bytes; through = (goes_through text bytes).0 o; long = l })
        (λ _ _ _ _ e. apart cc),
    (λ w.
        let o = (goes_through text w.bytes).1 w.through in
        answers _ (λ h. let z = empty_good h in let y : w.bytes ≡ [] = cc in let l = ap (λ (b : List ℕ). length b) y in let x : ⊥ = omega (arith, w.long, l) in x) o
        ∙ picks _ _ (lt-ltb _ _ w.long)),
  )

  -- all lines of a text with some are good, and the buffer has room for their bytes: the address in the first line, and how many bytes
  pub record Fitting (first n : ℕ) : Type 0 where
    pub some : length text ≡ 0 → ⊥
    pub bytes : List ℕ
    pub through : Through text None bytes
    pub room : length bytes ≤ length buffer
    pub from : first ≡ address_in text
    pub long : n ≡ length bytes

  pub reply_wrote : (first n : ℕ) → Answers (wrote first n) ↔ Fitting first n
  reply_wrote first n = (
    answer_cases (λ a. a ≡ wrote first n → Fitting first n)
        (λ _ e. apart cc)
        (λ _ _ _ e. apart cc)
        (λ _ _ _ e. apart cc)
        (λ bytes h o l e. record { some = h; bytes = bytes; through = (goes_through text bytes).0 o; room = l; from = cc; long = cc }),
    (λ w.
        let o = (goes_through text w.bytes).1 w.through in
        answers _ w.some o ∙ passes _ _ (le-ltb _ _ w.room) ∙ rw (← w.from, ← w.long)),
  )

  -- a refusal leaves the buffer as it was
  pub refused_untouched : (t : Told) → Answers (refuses t) → assemble_buffer text buffer ≡ buffer
  unfolding assemble_buffer
  refused_untouched t e = ap (λ (a : AssembleReply). assembled_buffer a (bytes_in (outcome_of text)) buffer) e

  -- else the lines' bytes stand at its front, and the bytes after them are unchanged
  pub bytes_left : (first n : ℕ) → Answers (wrote first n) → (bytes : List ℕ) → Through text None bytes → assemble_buffer text buffer ≡ over bytes buffer
  unfolding assemble_buffer
  bytes_left first n e bytes t = rw (e, (goes_through text bytes).1 t)

  -- any two results that the contract admits are equal
  abbrev pub Gives : Answer → List ℕ → Type 0
  Gives r left = (told_assembled r ≡ assemble_answer text buffer) × (left ≡ assemble_buffer text buffer)

  pub assemble_settled : (r r' : Answer) (left left' : List ℕ) → Gives r left → Gives r' left' → (r ≡ r') × (left ≡ left')
  assemble_settled r r' left left' p q = (assembled_known r r' (p.0 ∙ sym q.0), p.1 ∙ sym q.1)
