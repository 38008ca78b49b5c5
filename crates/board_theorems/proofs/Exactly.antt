-- Each number of a C run, plain or watched, exactly when it is returned: 29, 26 to 28 and 12, and else the reply of the run itself, whose table
-- is cabinet_theorems' Exactly. 36: Watched. Assumes nothing.
use Prim.Native.Nat.{ℕ, ◌≤◌, ◌<◌}
use native.Mathlib.Omega.{arith}
use mathlib.Core.Bool.{Bool, not}
use mathlib.Core.Logic.{◌↔◌}
use mathlib.Core.Path.{◌≡◌, refl, sym, ap, ◌∙◌}
use lib.Dec.{eqb}
use lib.ListN.{length}
use borrow.Author.Tests.{lt-ltb, le-ltb, eq-eqb, ne_eqb, eqb-true, eqb-false, not-true, not-false}
use Rattle.laws.proofs.Conds.{picks, passes, cases}
use Rattle.replies.specs.Replies.{Told}
use Rattle.machine.specs.declared.Machine.{Machine}
use Rattle.boundary.specs.World.{Lent, Terms}
use Rattle.cabinet.specs.Answers.{answer_of}
use Rattle.cabinet.proofs.Ends.{reply_most}
use Rattle.cabinet_theorems.proofs.Exactly.{WrongArea, told_12, reply_12}
use Rattle.asking.specs.Asking.{Given, gives, replies}
use Rattle.saved.specs.Answers.{load_of}
use Rattle.board_results.specs.Results.{record_size, unfit_reply}
use Rattle.board.specs.Board.{Buffers, Called, on_load, run_call}
use Rattle.board_theorems.proofs.Ends.{unfit_most, Fits, call_cases}

-- 12 to a machine outside its ranges
unfit_12 : (l : Lent) → (unfit_reply l.image l.area ≡ 12) ↔ WrongArea l
unfit_12 l = (
  cases (λ (k : ℕ). k ≡ 12 → WrongArea l) (not (eqb (length l.image) 65536)) (λ _ d. absurd (let z : ⊥ = omega arith in z))
      (λ e.
      cases (λ (k : ℕ). k ≡ 12 → WrongArea l) (not (eqb (length l.area) 128))
      (λ f _. (eqb-true _ _ (not-false _ e), eqb-false _ _ (not-true _ f)))
      (λ _ d. absurd (let z : ⊥ = omega arith in z))),
  (λ h. passes _ _ (ap not (eq-eqb _ _ h.0)) ∙ picks _ _ (ap not (ne_eqb _ _ h.1))),
)

module _ (leaping : Bool) (t : Terms) (b : Buffers) where
  abbrev call : Called
  call = run_call leaping t b

  abbrev number : Called → ℕ
  number c = c.number

  -- 29: the result's buffer is too short
  pub number_29 : (call.number ≡ 29) ↔ (length b.result < record_size leaping)
  unfolding run_call
  number_29 = (
    call_cases leaping t b (λ c. c.number ≡ 29 → length b.result < record_size leaping)
        (λ h _. h)
        (λ _ k low high _ e. absurd (let z : ⊥ = omega arith in z))
        (λ _ _ e. absurd (let u = unfit_most b.lent.image b.lent.area in let z : ⊥ = omega arith in z))
        (λ _ m _ e. absurd (let u = reply_most t m b.lent in let z : ⊥ = omega arith in z)),
    (λ h. ap number (picks _ _ (lt-ltb _ _ h))),
  )

  -- the buffer is long enough: what loading answers decides
  loaded : Fits leaping t b → {g : Given Machine} → load_of b.machine ≡ g → call ≡ on_load leaping t b g
  unfolding run_call
  loaded h e = passes _ _ (le-ltb _ _ h) ∙ ap (on_load leaping t b) e

  -- 26, 27, 28: the saved machine's bytes do not load, by that number
  pub number_26_to_28 : (k : ℕ) → 26 ≤ k → k ≤ 28 → (call.number ≡ k) ↔ (Fits leaping t b × (load_of b.machine ≡ replies k))
  number_26_to_28 k low high = (
    call_cases leaping t b (λ c. c.number ≡ k → Fits leaping t b × (load_of b.machine ≡ replies k))
        (λ _ e. absurd (let z : ⊥ = omega arith in z))
        (λ h j _ _ f e. (h, f ∙ ap replies e))
        (λ _ _ e. absurd (let u = unfit_most b.lent.image b.lent.area in let z : ⊥ = omega arith in z))
        (λ _ m _ e. absurd (let u = reply_most t m b.lent in let z : ⊥ = omega arith in z)),
    (λ h. ap number (loaded h.0 h.1 ∙ passes _ _ (ne_eqb k 2 (λ e. let z : ⊥ = omega arith in z)))),
  )

  -- the saved machine's bytes load, but for the ranges
  abbrev pub Loads : Type 0
  Loads = (k : ℕ) → load_of b.machine ≡ replies k → k ≡ 2

  -- 12: they do, the image is right and the area is not
  pub number_12 : (call.number ≡ 12) ↔ (Fits leaping t b × Loads × WrongArea b.lent)
  number_12 = (
    call_cases leaping t b (λ c. c.number ≡ 12 → Fits leaping t b × Loads × WrongArea b.lent)
        (λ _ e. absurd (let z : ⊥ = omega arith in z))
        (λ _ k low high _ e. absurd (let z : ⊥ = omega arith in z))
        (λ h g e. (h, (λ k f. ap refusal (sym f ∙ g)), (unfit_12 b.lent).0 e))
        (λ h m g e. (h, (λ k f. ap refusal (sym f ∙ g)), told_12 t m b.lent e)),
    (λ h. by h.0 h.1 h.2 (load_of b.machine) refl),
  )
    where
      -- a refusal's number; 2 stands for a machine
      refusal : Given Machine → ℕ
      refusal (gives m) = 2
      refusal (replies k) = k

      by : Fits leaping t b → Loads → WrongArea b.lent → (g : Given Machine) → load_of b.machine ≡ g → call.number ≡ 12
      by h l w (gives m) e = ap number (loaded h e) ∙ ap (λ (r : Told). r.number) ((reply_12 t m b.lent).1 w)
      by h l w (replies k) e = ap number (loaded h (e ∙ ap replies (l k e))) ∙ (unfit_12 b.lent).1 w

  -- else a machine is loaded, and the number is the run's reply; or it is outside its ranges, and the number is 1, 12 or 2
  pub number_reply : (m : Machine) → Fits leaping t b → load_of b.machine ≡ gives m → call.number ≡ (answer_of t m b.lent).reply.number
  number_reply m h e = ap number (loaded h e)

  pub number_unfit : Fits leaping t b → load_of b.machine ≡ replies 2 → call.number ≡ unfit_reply b.lent.image b.lent.area
  number_unfit h e = ap number (loaded h e)
