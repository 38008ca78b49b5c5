-- 29 exactly when, what else a call answers, what a refusal leaves, and any two results that a contract admits are equal. Assumes nothing.
use Prim.Native.Nat.{ℕ, ◌≤◌, ◌<◌}
use native.Mathlib.Omega.{arith}
use mathlib.Core.List.{List}
use mathlib.Core.Path.{◌≡◌, refl}
use lib.Dec.{ltb}
use lib.ListN.{length}
use borrow.Author.Tests.{lt-ltb, le-ltb}
use Rattle.laws.proofs.Conds.{picks, passes, cases}
use Rattle.asking.specs.Asking.{Given, gives, replies}
use Rattle.listing.specs.Listing as listing
use Rattle.assembling.specs.Assembling as assembling
use Rattle.board_results.specs.Returned.{Returned, returned}
use Rattle.board_results.proofs.Returned.{same_returned}
use Rattle.board_listing.specs.Calls.{on_list, list_call, on_assemble, assemble_call}

-- what a refusal leaves of what was lent
abbrev pub BufferKept : List ℕ → Returned → Type 0
BufferKept buffer c = 1 ≤ c.number → c.buffer ≡ buffer

abbrev pub BothKept : List ℕ → List ℕ → Returned → Type 0
BothKept buffer result c = 1 ≤ c.number → (c.buffer ≡ buffer) × (c.result ≡ result)

module _ (image : List ℕ) (first last : ℕ) (buffer result : List ℕ) where
  abbrev list : Returned
  list = list_call image first last buffer result

  pub list_29 : length result < 8 → list ≡ returned 29 buffer result
  unfolding list_call
  list_29 h = picks _ _ (lt-ltb _ _ h)

  -- else the number is that of `list`, whose table is in listing_theorems/proofs/Listed.antt
  pub list_answers : 8 ≤ length result
      → list ≡ on_list (listing.list_buffer image first last buffer) result (listing.list_answer image first last buffer)
  unfolding list_call
  list_answers h = passes _ _ (le-ltb _ _ h)

  pub list_kept : BothKept buffer result list
  unfolding list_call listing.list_buffer
  list_kept = cases (BothKept buffer result) (ltb (length result) 8) (λ _ _. (refl, refl)) (λ _. by (listing.list_answer image first last buffer))
    where
      by : (g : Given ℕ) → BothKept buffer result (on_list (listing.listed_buffer g (listing.listing_from image last first) buffer) result g)
      by (gives n) h = absurd (let z : ⊥ = omega arith in z)
      by (replies k) h = (refl, refl)

  pub list_settled : {j k : ℕ} {a b r s : List ℕ} → returned j a r ≡ list → returned k b s ≡ list → (j ≡ k) × (a ≡ b) × (r ≡ s)
  list_settled = same_returned list

module _ (text buffer result : List ℕ) where
  abbrev assemble : Returned
  assemble = assemble_call text buffer result

  pub assemble_29 : length result < 16 → assemble ≡ returned 29 buffer result
  unfolding assemble_call
  assemble_29 h = picks _ _ (lt-ltb _ _ h)

  -- else the number is that of `assemble`, whose table is in listing_theorems/proofs/Assembled.antt
  pub assemble_answers : 16 ≤ length result
      → assemble ≡ on_assemble (assembling.assemble_buffer text buffer) result (assembling.assemble_answer text buffer)
  unfolding assemble_call
  assemble_answers h = passes _ _ (le-ltb _ _ h)

  pub assemble_kept : BufferKept buffer assemble
  unfolding assemble_call assembling.assemble_buffer
  assemble_kept = cases (BufferKept buffer) (ltb (length result) 16) (λ _ _. refl) (λ _. by (assembling.assemble_answer text buffer))
    where
      by : (a : assembling.AssembleReply) → BufferKept buffer (on_assemble (assembling.assembled_buffer a (assembling.bytes_in (assembling.outcome_of text)) buffer) result a)
      by (assembling.wrote first n) h = absurd (let z : ⊥ = omega arith in z)
      by assembling.nothing h = refl
      by (assembling.refuses t) h = refl

  pub assemble_settled : {j k : ℕ} {a b r s : List ℕ} → returned j a r ≡ assemble → returned k b s ≡ assemble → (j ≡ k) × (a ≡ b) × (r ≡ s)
  assemble_settled = same_returned assemble
