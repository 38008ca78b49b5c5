-- What the rest of a session leaves as a C call: a refusal leaves the lent buffer, and one of 26 or above the result too. Assumes nothing.
use Prim.Native.Nat.{ℕ, ◌≤◌}
use native.Mathlib.Omega.{arith}
use mathlib.Core.Bool.{cond}
use mathlib.Core.List.{List}
use mathlib.Core.Logic.{◌⊎◌, inl, inr, ⊎_elim}
use mathlib.Core.Option.{Option, none, some}
use mathlib.Core.Path.{◌≡◌, refl, ap}
use lib.Dec.{ltb}
use lib.ListN.{length}
use Rattle.laws.proofs.Conds.{cases}
use Rattle.session.specs.Session.{check_of, fault_number}
use Rattle.session.specs.declared.Fault.{Fault}
use Rattle.session.specs.declared.Fault.TheVariants.{Length, Kind, Value, Time}
use Rattle.std.specs.Prelude.{Result, Ok, Err, ⊤}
use Rattle.replies.specs.Replies.{Told, told, told_fault, told_check}
use Rattle.rest.specs.Rest.{has_fewer, rest_of}
use Rattle.rest.specs.Answers.{first_of, answer_by, buffer_by, rest_refusal, rest_answer, rest_buffer}
use Rattle.board_results.specs.Returned.{Returned, returned, named_in}
use Rattle.board_calls.specs.Calls.{on_rest, rest_call}

fault_most : (f : Fault) → fault_number f ≤ 9
fault_most (Length k) = omega arith
fault_most (Kind k) = omega arith
fault_most (Value k) = omega arith
fault_most (Time k) = omega arith

module _ (session : List ℕ) (used cycles : ℕ) (buffer result : List ℕ) where
  abbrev rest : List ℕ
  rest = rest_of session used cycles

  abbrev answered : Option Told → Returned
  answered o = on_rest (buffer_by o rest buffer) result (answer_by o rest)

  -- the refusal of a sound session, where there is one
  abbrev soundly : Option Told
  soundly = cond (has_fewer session used) (some (told 30 none)) (cond (ltb (length buffer) (length rest)) (some (told 31 none)) none)

  -- each way that the call can end
  rest_cases : (P : Returned → Type 0)
      → P (returned 29 buffer result)
      → ((t : Told) → (t.number ≤ 9) ⊎ (t.named ≡ none) → P (answered (some t)))
      → P (answered none)
      → P (rest_call session used cycles buffer result)
  unfolding rest_call rest_buffer rest_answer rest_refusal
  rest_cases P short refused done = cases P (ltb (length result) 8) (λ _. short) (λ _. by (check_of session))
    where
      by : (c : Result ⊤ Fault) → P (answered (first_of (told_check c) soundly))
      by (Ok x) =
          cases (λ (o : Option Told). P (answered o)) (has_fewer session used) (λ _. refused (told 30 none) (inr refl))
          (λ _. cases (λ (o : Option Told). P (answered o)) (ltb (length buffer) (length rest)) (λ _. refused (told 31 none) (inr refl)) (λ _. done))
      by (Err f) = refused (told_fault f) (inl (fault_most f))

  pub rest_kept : let c = rest_call session used cycles buffer result in 1 ≤ c.number → c.buffer ≡ buffer
  rest_kept = rest_cases (λ c. 1 ≤ c.number → c.buffer ≡ buffer) (λ p. refl) (λ t h p. refl) (λ p. absurd (let z : ⊥ = omega arith in z))

  pub rest_writes_nothing : let c = rest_call session used cycles buffer result in 26 ≤ c.number → (c.buffer ≡ buffer) × (c.result ≡ result)
  rest_writes_nothing =
      rest_cases (λ c. 26 ≤ c.number → (c.buffer ≡ buffer) × (c.result ≡ result))
      (λ p. (refl, refl))
      (λ t h p. ⊎_elim (λ low. absurd (let z : ⊥ = omega arith in z)) (λ e. (refl, ap (λ (o : Option ℕ). named_in o result) e)) h)
      (λ p. absurd (let z : ⊥ = omega arith in z))
