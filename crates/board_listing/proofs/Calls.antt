-- The ways that each call can end, as laws over plain variables. Assumes nothing.
use Prim.Native.Nat.{ℕ, ◌≤◌, ◌<◌}
use mathlib.Core.List.{List}
use mathlib.Core.Path.{◌≡◌, sym, ap, ◌∙◌}
use lib.ListN.{length}
use borrow.Author.Tests.{lt-ltb, le-ltb}
use Rattle.std.specs.Prelude.{Option, Result}
use Rattle.laws.proofs.Conds.{picks, passes}
use Rattle.listing.specs.declared.ListRefusal.{ListRefusal}
use Rattle.listing.specs.Listing.{told_listed, list_answer, list_buffer}
use Rattle.assembling.specs.declared.Span.{Span}
use Rattle.assembling.specs.declared.AssembleRefusal.{AssembleRefusal}
use Rattle.assembling.specs.Assembling.{told_assembled, assemble_answer, assemble_buffer}
use Rattle.board_results.specs.Returned.{returned}
use Rattle.board_listing.specs.Calls.{on_list, list_call, on_assemble, assemble_call}

module _ (image : List ℕ) (first last : ℕ) (buffer result : List ℕ) where
  pub list_short : length result < 8 → returned 29 buffer result ≡ list_call image first last buffer result
  unfolding list_call
  list_short h = sym (picks _ _ (lt-ltb _ _ h))

  pub list_left : {a : Result ℕ ListRefusal} (b : Result ℕ ListRefusal) {left : List ℕ} → 8 ≤ length result
      → (told_listed a ≡ list_answer image first last buffer) × (left ≡ list_buffer image first last buffer) → a ≡ b
      → on_list left result (told_listed b) ≡ list_call image first last buffer result
  unfolding list_call
  list_left b h e f =
      ap (λ (left : List ℕ). on_list left result (told_listed b)) e.1
      ∙ sym (passes _ _ (le-ltb _ _ h) ∙ ap (on_list (list_buffer image first last buffer) result) (sym e.0 ∙ ap told_listed f))

module _ (text buffer result : List ℕ) where
  pub assemble_short : length result < 16 → returned 29 buffer result ≡ assemble_call text buffer result
  unfolding assemble_call
  assemble_short h = sym (picks _ _ (lt-ltb _ _ h))

  pub assemble_left : {a : Result (Option Span) AssembleRefusal} (b : Result (Option Span) AssembleRefusal) {left : List ℕ} → 16 ≤ length result
      → (told_assembled a ≡ assemble_answer text buffer) × (left ≡ assemble_buffer text buffer) → a ≡ b
      → on_assemble left result (told_assembled b) ≡ assemble_call text buffer result
  unfolding assemble_call
  assemble_left b h e f =
      ap (λ (left : List ℕ). on_assemble left result (told_assembled b)) e.1
      ∙ sym (passes _ _ (le-ltb _ _ h) ∙ ap (on_assemble (assemble_buffer text buffer) result) (sym e.0 ∙ ap told_assembled f))
