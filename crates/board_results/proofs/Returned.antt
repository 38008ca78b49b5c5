-- What a call with a buffer and a result returns and leaves: one number told in the result; and it is one, by each of its parts. Assumes nothing.
use Prim.Native.Nat.{ℕ}
use mathlib.Core.List.{List}
use mathlib.Core.Option.{some}
use mathlib.Core.Path.{◌≡◌, sym, ap, ◌∙◌}
use Rattle.board_results.specs.Returned.{Returned, returned, named_in}

pub returned_told : (left result : List ℕ) (n j : ℕ) {k : ℕ} {r : List ℕ} → (k ≡ j) × (r ≡ named_in (some n) result)
    → returned k left r ≡ returned j left (named_in (some n) result)
returned_told left result n j e = λ i. returned (e.0 i) left (e.1 i)

pub same_returned : (c : Returned) {j k : ℕ} {a b r s : List ℕ} → returned j a r ≡ c → returned k b s ≡ c → (j ≡ k) × (a ≡ b) × (r ≡ s)
same_returned c p q =
    let e = p ∙ sym q in (ap (λ (x : Returned). x.number) e, ap (λ (x : Returned). x.buffer) e, ap (λ (x : Returned). x.result) e)
