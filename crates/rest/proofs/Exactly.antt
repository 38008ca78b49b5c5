-- When the call gives each answer. Assumes nothing.
use Prim.Native.Nat.{ℕ, ◌≤◌, ◌<◌}
use native.Mathlib.Omega.{arith}
use mathlib.Core.List.{List, ◌++◌}
use mathlib.Core.Logic.{◌↔◌}
use mathlib.Core.Option.{Option, none}
use mathlib.Core.Path.{◌≡◌, refl, sym, ap, subst, ◌∙◌}
use mathlib.Core.Bool.{Bool, true, false}
use lib.Dec.{ltb}
use lib.ListN.{length, drop}
use borrow.Author.Tests.{lt-ltb, le-ltb, ltb-true, ltb-false}
use Rattle.session.specs.Session.{check_of}
use Rattle.session.specs.declared.Fault.{Fault}
use Rattle.session.specs.declared.Fault.TheVariants.{Length, Kind, Value, Time}
use Rattle.std.specs.Prelude.{Result, Ok, Err, ⊤}
use Rattle.replies.specs.Replies.{Told, told, told_fault}
use Rattle.replies.proofs.Known.{fault_known}
use Rattle.rest.specs.Rest.{place_of, has_fewer, rest_of}
use Rattle.rest.specs.Answers.{RestReply, rest_wrote, refuses, rest_refusal, answer_by, rest_answer, buffer_by, rest_buffer}
use Rattle.rest.proofs.Given.{refused_bad, refused_30, refused_31, not_refused}

-- what an answer tells: how long the rest is, a reply's number, 0 where it is no refusal, and a reply
abbrev long : RestReply → ℕ
long (rest_wrote n) = n
long (refuses t) = 0

abbrev number : RestReply → ℕ
number (rest_wrote n) = 0
number (refuses t) = t.number

abbrev reply : RestReply → Told
reply (rest_wrote n) = told 0 none
reply (refuses t) = t

fault_numbers : (f : Fault) → (4 ≤ (told_fault f).number) × ((told_fault f).number ≤ 7)
fault_numbers (Length k) = (omega arith, omega arith)
fault_numbers (Kind k) = (omega arith, omega arith)
fault_numbers (Value k) = (omega arith, omega arith)
fault_numbers (Time k) = (omega arith, omega arith)

-- answers of different numbers are no one answer
apart : {a b : RestReply} {R : Type 0} → a ≡ b → (number a ≡ number b → ⊥) → R
apart e h = absurd (h (ap number e))

module _ (s : List ℕ) (used cycles : ℕ) (b : List ℕ) where
  abbrev Answers : RestReply → Type 0
  Answers a = rest_answer s used cycles b ≡ a

  abbrev rest : List ℕ
  rest = rest_of s used cycles

  answers : {t : Option Told} → rest_refusal s used cycles b ≡ t → Answers (answer_by t rest)
  unfolding rest_answer
  answers e = ap (λ (t : Option Told). answer_by t rest) e

  -- each way that the call can go
  pub answer_cases : (P : RestReply → Type 0)
      → ((f : Fault) → check_of s ≡ Err f → P (refuses (told_fault f)))
      → (check_of s ≡ Ok tt → length s < place_of s used → P (refuses (told 30 none)))
      → (check_of s ≡ Ok tt → place_of s used ≤ length s → length b < length rest → P (refuses (told 31 none)))
      → (check_of s ≡ Ok tt → place_of s used ≤ length s → length rest ≤ length b → P (rest_wrote (length rest)))
      → P (rest_answer s used cycles b)
  unfolding has_fewer
  answer_cases P p q u v = by (check_of s) refl (ltb (length s) (place_of s used)) refl (ltb (length b) (length rest)) refl
    where
      by : (c : Result ⊤ Fault) → check_of s ≡ c → (fewer : Bool) → ltb (length s) (place_of s used) ≡ fewer
          → (short : Bool) → ltb (length b) (length rest) ≡ short → P (rest_answer s used cycles b)
      by (Err k) e fewer f short g = subst P (sym (answers (refused_bad s used cycles b k e))) (p k e)
      by (Ok x) e true f short g = subst P (sym (answers (refused_30 s used cycles b e f))) (q e (ltb-true _ _ f))
      by (Ok x) e false f true g =
          let l = ltb-true _ _ g in
          subst P (sym (answers (refused_31 s used cycles b e f l))) (u e (ltb-false _ _ f) l)
      by (Ok x) e false f false g =
          let l = ltb-false _ _ g in
          subst P (sym (answers (not_refused s used cycles b e f l))) (v e (ltb-false _ _ f) l)

  -- 4 to 7 exactly where the session's check says so
  pub rest_4_to_7 : (f : Fault) → Answers (refuses (told_fault f)) ↔ (check_of s ≡ Err f)
  rest_4_to_7 f =
      let k = fault_numbers f in (
        answer_cases (λ a. a ≡ refuses (told_fault f) → check_of s ≡ Err f)
            (λ d e g. e ∙ ap Err (fault_known d f (ap reply g)))
            (λ e h g. apart g (λ n. omega (arith, n, k.1)))
            (λ e h l g. apart g (λ n. omega (arith, n, k.1)))
            (λ e h l g. apart g (λ n. omega (arith, n, k.0))),
        (λ e. answers (refused_bad s used cycles b f e)),
      )

  -- 30 exactly where the session is sound and has fewer records
  pub rest_30 : Answers (refuses (told 30 none)) ↔ ((check_of s ≡ Ok tt) × (length s < place_of s used))
  unfolding has_fewer
  rest_30 = (
    answer_cases (λ a. a ≡ refuses (told 30 none) → (check_of s ≡ Ok tt) × (length s < place_of s used))
        (λ d e g. apart g (λ n. let k = (fault_numbers d).1 in omega (arith, n, k)))
        (λ e h g. (e, h))
        (λ e h l g. apart g (λ n. omega arith))
        (λ e h l g. apart g (λ n. omega arith)),
    (λ h. answers (refused_30 s used cycles b h.0 (lt-ltb _ _ h.1))),
  )

  -- 31 exactly where it has as many, and the buffer is shorter than the rest
  pub rest_31 : Answers (refuses (told 31 none)) ↔ ((check_of s ≡ Ok tt) × (place_of s used ≤ length s) × (length b < length rest))
  unfolding has_fewer
  rest_31 = (
    answer_cases (λ a. a ≡ refuses (told 31 none) → (check_of s ≡ Ok tt) × (place_of s used ≤ length s) × (length b < length rest))
        (λ d e g. apart g (λ n. let k = (fault_numbers d).1 in omega (arith, n, k)))
        (λ e h g. apart g (λ n. omega arith))
        (λ e h l g. (e, h, l))
        (λ e h l g. apart g (λ n. omega arith)),
    (λ h. answers (refused_31 s used cycles b h.0 (le-ltb _ _ h.1) h.2)),
  )

  -- it is written exactly where the session is sound, has as many, and the buffer has room; and is then as long as it is
  abbrev Room : Type 0
  Room = (check_of s ≡ Ok tt) × (place_of s used ≤ length s) × (length rest ≤ length b)

  free : Room → rest_refusal s used cycles b ≡ none
  unfolding has_fewer
  free h = not_refused s used cycles b h.0 (le-ltb _ _ h.1) h.2

  pub rest_written : (n : ℕ) → Answers (rest_wrote n) ↔ (Room × (n ≡ length rest))
  rest_written n = (
    answer_cases (λ a. a ≡ rest_wrote n → Room × (n ≡ length rest))
        (λ d e g. apart g (λ m. let k = (fault_numbers d).0 in omega (arith, m, k)))
        (λ e h g. apart g (λ m. omega arith))
        (λ e h l g. apart g (λ m. omega arith))
        (λ e h l g. ((e, h, l), sym (ap long g))),
    (λ h. answers (free h.0) ∙ ap rest_wrote (sym h.1)),
  )

  -- and then stands at the buffer's front, and the bytes after it are unchanged
  pub rest_left : Room → rest_buffer s used cycles b ≡ rest ++ drop (length rest) b
  unfolding rest_buffer
  rest_left h = ap (λ (t : Option Told). buffer_by t rest b) (free h)
