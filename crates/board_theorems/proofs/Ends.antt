-- Each way that a C run can end, as cases: its buffer too short, bytes that do not load, a machine outside its ranges, a run. Assumes nothing.
use Prim.Native.Nat.{ℕ, ◌≤◌, ◌<◌}
use native.Mathlib.Omega.{arith}
use mathlib.Core.Bool.{Bool, not}
use mathlib.Core.List.{List}
use mathlib.Core.Option.{none}
use mathlib.Core.Path.{◌≡◌, refl}
use lib.Dec.{eqb, ltb}
use lib.ListN.{length}
use borrow.Author.Tests.{ltb-true, ltb-false}
use Rattle.laws.proofs.Conds.{cases}
use Rattle.replies.specs.Replies.{told}
use Rattle.machine.specs.declared.Machine.{Machine}
use Rattle.boundary.specs.World.{Terms}
use Rattle.cabinet.proofs.Ends.{reply_most}
use Rattle.saved.specs.Layout.{machine_in}
use Rattle.asking.specs.Asking.{gives, replies}
use Rattle.saved.specs.Answers.{load_of}
use Rattle.saved.proofs.Answers.{load_cases}
use Rattle.board_results.specs.Results.{no_counts, record_size, unfit_reply}
use Rattle.board.specs.Board.{Buffers, Called, called, reported, ran_call, on_load, run_call}

-- a machine outside its ranges gets 1, 12 or 2
pub unfit_most : (image area : List ℕ) → unfit_reply image area ≤ 12
unfit_most image area =
    cases (λ (k : ℕ). k ≤ 12) (not (eqb (length image) 65536)) (λ _. omega arith)
    (λ _. cases (λ (k : ℕ). k ≤ 12) (not (eqb (length area) 128)) (λ _. omega arith) (λ _. omega arith))

module _ (leaping : Bool) (t : Terms) (b : Buffers) where
  abbrev pub Fits : Type 0
  Fits = record_size leaping ≤ length b.result

  pub call_cases : (P : Called → Type 0)
      → (length b.result < record_size leaping → P (called 29 b))
      → (Fits → (k : ℕ) → 26 ≤ k → k ≤ 28 → load_of b.machine ≡ replies k → P (called k b))
      → (Fits → load_of b.machine ≡ replies 2 → P (reported leaping (told (unfit_reply b.lent.image b.lent.area) none) no_counts 0 b))
      → (Fits → (m : Machine) → load_of b.machine ≡ gives m → P (ran_call leaping t b m))
      → P (run_call leaping t b)
  unfolding run_call
  call_cases P short bad unfit ran =
      cases P (ltb (length b.result) (record_size leaping)) (λ e. short (ltb-true _ _ e)) (λ e. loaded (ltb-false _ _ e))
    where
      loaded : Fits → P (on_load leaping t b (load_of b.machine))
      loaded h =
          load_cases (λ g. load_of b.machine ≡ g → P (on_load leaping t b g)) b.machine
          (λ _ e. bad h 26 (omega arith) (omega arith) e)
          (λ _ _ e. bad h 27 (omega arith) (omega arith) e)
          (λ _ _ _ e. bad h 28 (omega arith) (omega arith) e)
          (λ _ _ _ _ e. unfit h e)
          (λ _ _ _ _ e. ran h (machine_in b.machine) e)
          refl

  -- a run's numbers are below 36
  pub call_most : (run_call leaping t b).number ≤ 29
  call_most =
      call_cases (λ c. c.number ≤ 29)
      (λ _. omega arith)
      (λ _ k low high e. omega arith)
      (λ _ e. let u = unfit_most b.lent.image b.lent.area in omega arith)
      (λ _ m e. let u = reply_most t m b.lent in omega arith)
