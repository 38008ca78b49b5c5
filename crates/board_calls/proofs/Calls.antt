-- The ways that each C call can end, as laws over plain variables. Assumes nothing.
use Rattle.std.specs.Prelude.{Result, Err, Option, Some}
use Prim.Native.Nat.{ℕ, ◌≤◌, ◌<◌}
use native.Mathlib.Omega.{arith}
use mathlib.Core.List.{List, ◌++◌}
use mathlib.Core.Option.{some, get_or}
use mathlib.Core.Path.{◌≡◌, sym, ap, ◌∙◌}
use lib.ListN.{length, take, drop}
use lib.Seq.{take_all}
use borrow.Author.Tests.{eq-eqb, ne_eqb, lt-ltb, le-ltb}
use Rattle.laws.proofs.Conds.{picks, passes}
use Rattle.numbers.specs.Numbers.{over}
use Rattle.session.specs.declared.Fault.{Fault}
use Rattle.session.specs.Session.{fault_number}
use Rattle.replies.specs.declared.Reply.{Reply}
use Rattle.replies.specs.Replies.{Told, told_reply, told_fault}
use Rattle.opcodes.specs.declared.Instruction.{Instruction}
use Rattle.machine.specs.declared.Machine.{Machine}
use Rattle.machine.specs.declared.PowerRefusal.{PowerRefusal}
use Rattle.asking.specs.Asking.{told_decoded, opcode_answer}
use Rattle.power.specs.Power.{told_power, power_answer}
use Rattle.saved.specs.Layout.{saved_of}
use Rattle.saved.specs.Answers.{left_of}
use Rattle.rest.specs.declared.RestRefusal.{RestRefusal}
use Rattle.rest.specs.declared.RestRefusal.TheVariants.{Bad}
use Rattle.rest.specs.Answers.{told_rest, rest_answer, rest_buffer}
use Rattle.board_numbers.specs.Numbers.{instruction_bytes}
use Rattle.board_results.specs.Returned.{returned, named_in}
use Rattle.board_results.proofs.Returned.{returned_told}
use Rattle.board_calls.specs.Calls.{wrote, on_power, power_call, on_ask, ask_call, on_rest, rest_call}

-- power-on
module _ (image : List ℕ) (r : ℕ) (machine : List ℕ) where
  pub power_short : (length machine ≡ 42 → ⊥) → wrote 26 machine ≡ power_call image r machine
  unfolding power_call
  power_short h = sym (passes _ _ (ne_eqb _ _ h))

  pub powered : {p : Result Machine PowerRefusal} (q : Result Machine PowerRefusal) → length machine ≡ 42 → told_power p ≡ power_answer image r → p ≡ q
      → on_power machine (told_power q) ≡ power_call image r machine
  unfolding power_call
  powered q h e f = sym (picks _ _ (eq-eqb _ _ h) ∙ ap (on_power machine) (sym e ∙ ap told_power f))

  pub power_saved : (m : Machine) {s : List ℕ} → length machine ≡ 42 → s ≡ left_of m machine → wrote 0 s ≡ wrote 0 (saved_of m)
  power_saved m h e = ap (wrote 0) (e ∙ picks _ _ (eq-eqb _ _ h))

-- the question about an opcode
module _ (opcode : ℕ) (answer : List ℕ) where
  pub ask_short : length answer < 6 → wrote 29 answer ≡ ask_call opcode answer
  unfolding ask_call
  ask_short h = sym (picks _ _ (lt-ltb _ _ h))

  pub asked : {d : Option Instruction} (i : Option Instruction) → 6 ≤ length answer → told_decoded d ≡ opcode_answer opcode → d ≡ i
      → on_ask answer (told_decoded i) ≡ ask_call opcode answer
  unfolding ask_call
  asked i h e f = sym (passes _ _ (le-ltb _ _ h) ∙ ap (on_ask answer) (sym e ∙ ap told_decoded f))

  -- an instruction's six numbers, copied into the answer
  pub asked_copied : {d : Option Instruction} (i : Instruction) {six left : List ℕ} → 6 ≤ length answer → told_decoded d ≡ opcode_answer opcode → d ≡ Some i
      → six ≡ instruction_bytes i → left ≡ take (length six) six ++ drop (length six) answer → wrote 0 left ≡ ask_call opcode answer
  asked_copied i {six} h e f g l =
      let whole = ap (λ (b : List ℕ). b ++ drop (length six) answer) (take_all (length six) six (omega arith)) in
      ap (wrote 0) (l ∙ whole ∙ ap (λ (b : List ℕ). over b answer) g) ∙ asked (Some i) h e f

-- the rest of a session
module _ (session : List ℕ) (used cycles : ℕ) (buffer result : List ℕ) where
  pub rest_short : length result < 8 → returned 29 buffer result ≡ rest_call session used cycles buffer result
  unfolding rest_call
  rest_short h = sym (picks _ _ (lt-ltb _ _ h))

  pub rest_left : {a : Result ℕ RestRefusal} (b : Result ℕ RestRefusal) {left : List ℕ} → 8 ≤ length result
      → (told_rest a ≡ rest_answer session used cycles buffer) × (left ≡ rest_buffer session used cycles buffer) → a ≡ b
      → on_rest left result (told_rest b) ≡ rest_call session used cycles buffer result
  unfolding rest_call
  rest_left b h e f =
      ap (λ (left : List ℕ). on_rest left result (told_rest b)) e.1
      ∙ sym (passes _ _ (le-ltb _ _ h) ∙ ap (on_rest (rest_buffer session used cycles buffer) result) (sym e.0 ∙ ap told_rest f))

-- a session's fault told in the result
pub rest_refused : (left result : List ℕ) (f : Fault) (refusal : Reply) {n j k : ℕ} {r : List ℕ} → told_reply refusal ≡ told_fault f
    → n ≡ (told_reply refusal).number → j ≡ get_or (told_reply refusal).named 0 → (k ≡ n) × (r ≡ named_in (some j) result)
    → returned k left r ≡ on_rest left result (told_rest (Err (Bad f)))
rest_refused left result f refusal {n} {j} t p q e =
    returned_told left result j n e
    ∙ ap (λ (n : ℕ). returned n left (named_in (some j) result)) (p ∙ ap (λ (x : Told). x.number) t)
    ∙ ap (λ (j : ℕ). returned (fault_number f) left (named_in (some j) result)) (q ∙ ap (λ (x : Told). get_or x.named 0) t)
