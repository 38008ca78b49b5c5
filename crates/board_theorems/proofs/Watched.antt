-- The watched calls: 36 exactly where a bit asks for nothing, and nothing written; else a run; and without the log the ordinary call. Assumes nothing.
use Prim.Native.Nat.{ℕ, ◌≤◌, ◌<◌}
use native.Mathlib.Omega.{arith}
use mathlib.Core.Bool.{Bool, true, false}
use mathlib.Core.List.{List}
use mathlib.Core.Logic.{◌↔◌}
use mathlib.Core.Path.{◌≡◌, refl, ap}
use lib.Dec.{eqb, ltb}
use lib.ListN.{length}
use borrow.Author.Tests.{lt-ltb, le-ltb, ltb-true, ltb-false}
use Rattle.laws.proofs.Conds.{picks, passes, cases, cases2}
use Rattle.machine.specs.declared.Machine.{Machine}
use Rattle.boundary.specs.World.{lent, with_log, Terms, terms, watching}
use Rattle.cabinet.specs.Answers.{End, answer_at}
use Rattle.asking.specs.Asking.{Given, gives, replies}
use Rattle.saved.specs.Layout.{saved_of}
use Rattle.saved.specs.Answers.{load_of}
use Rattle.board_numbers.specs.Watch.{unknown_bits}
use Rattle.board_results.specs.Results.{record_size}
use Rattle.board.specs.Board.{Buffers, buffers, Called, called, counts_of, reported, on_load, run_call, watch_of, watch_call}
use Rattle.board_theorems.proofs.Ends.{call_most}
use Rattle.board_theorems.proofs.Left.{writes_nothing, Agree, runs_agree}
use Rattle.board_theorems.proofs.Unwatched.{unlogged, end_unwatched}

module _ (session : List ℕ) (n bits since : ℕ) (b : Buffers) where
  abbrev asked : Terms
  asked = watching session n (watch_of bits since)

  module _ (leaping : Bool) where
    abbrev call : Called
    call = watch_call leaping session n bits since b

    -- the bits are known: a run
    pub watch_runs : bits ≤ 1 → call ≡ run_call leaping asked b
    unfolding watch_call
    watch_runs h = passes _ _ (le-ltb _ _ h)

    refuses : 1 < bits → call ≡ called 36 b
    unfolding watch_call
    refuses h = picks _ _ (lt-ltb _ _ h)

    watch_cases : (P : Called → Type 0) → (1 < bits → P (called 36 b)) → (bits ≤ 1 → P (run_call leaping asked b)) → P call
    unfolding watch_call
    watch_cases P p q = cases P (unknown_bits bits) (λ e. p (ltb-true _ _ e)) (λ e. q (ltb-false _ _ e))

    pub watch_36 : (call.number ≡ 36) ↔ (1 < bits)
    watch_36 = (
      watch_cases (λ c. c.number ≡ 36 → 1 < bits) (λ h _. h) (λ _ e. absurd (let m = call_most leaping asked b in let z : ⊥ = omega arith in z)),
      (λ h. ap (λ (c : Called). c.number) (refuses h)),
    )

    pub watch_writes_nothing : 26 ≤ call.number → call.left ≡ b
    watch_writes_nothing = watch_cases (λ c. 26 ≤ c.number → c.left ≡ b) (λ _ _. refl) (λ _. writes_nothing leaping asked b)

  -- both return the same number and leave the same image, area, machine, output and log, and the same first 40 bytes of the result
  pub watches_agree : 44 ≤ length b.result → Agree (call false) (call true)
  unfolding watch_call
  watches_agree h = cases2 Agree (unknown_bits bits) (λ _. (refl, refl, refl, refl)) (λ _. runs_agree asked b h)

-- what a call came to, with another log
abbrev called_with : List ℕ → Called → Called
called_with log c = called c.number (buffers c.left.machine (with_log c.left.lent log) c.left.result)

-- with no bit set it is the ordinary call, whatever log is lent, and the log is untouched
pub watch_nothing : (leaping : Bool) (session : List ℕ) (n since : ℕ) (b : Buffers)
    → watch_call leaping session n 0 since b
    ≡ called_with b.lent.log (run_call leaping (terms session n) (buffers b.machine (lent b.lent.image b.lent.area b.lent.output) b.result))
unfolding watch_call run_call
watch_nothing leaping session n since b =
    cases2 Same (ltb (length b.result) (record_size leaping)) (λ _. refl) (λ _. by (load_of b.machine))
  where
    less : Buffers
    less = buffers b.machine (lent b.lent.image b.lent.area b.lent.output) b.result

    Same : Called → Called → Type 0
    Same c d = c ≡ called_with b.lent.log d

    of : Machine → End → Called
    of m e =
        let a = answer_at e in
        reported leaping a.reply (counts_of a) e.world.state.leaps.0 (buffers (saved_of a.machine) a.lent b.result)

    by : (g : Given Machine) → Same (on_load leaping (watching session n (unlogged since)) b g) (on_load leaping (terms session n) less g)
    by (gives m) = ap (of m) (end_unwatched session n since m b.lent)
    by (replies k) = cases2 Same (eqb k 2) (λ _. refl) (λ _. refl)
