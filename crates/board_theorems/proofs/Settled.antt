-- Any two results that a C call's contract admits are equal: the number returned, and every byte of what was lent. Assumes nothing.
use Prim.Native.Nat.{ℕ}
use mathlib.Core.Bool.{Bool}
use mathlib.Core.List.{List}
use mathlib.Core.Path.{◌≡◌, sym, ap, ◌∙◌}
use Rattle.boundary.specs.World.{Terms}
use Rattle.board_results.specs.Returned.{returned}
use Rattle.board_results.proofs.Returned.{same_returned}
use Rattle.board_calls.specs.Calls.{Wrote, wrote, power_call, ask_call, rest_call}
use Rattle.board.specs.Board.{Buffers, Called, called, single_call, leaping_call, watch_call}

same_wrote : (w : Wrote) {j k : ℕ} {a b : List ℕ} → wrote j a ≡ w → wrote k b ≡ w → (j ≡ k) × (a ≡ b)
same_wrote w p q = let e = p ∙ sym q in (ap (λ (x : Wrote). x.number) e, ap (λ (x : Wrote). x.bytes) e)

same_called : (c : Called) {j k : ℕ} {l m : Buffers} → called j l ≡ c → called k m ≡ c → (j ≡ k) × (l ≡ m)
same_called c p q = let e = p ∙ sym q in (ap (λ (x : Called). x.number) e, ap (λ (x : Called). x.left) e)

pub power_settled : (image : List ℕ) (r : ℕ) (machine : List ℕ) {j k : ℕ} {a b : List ℕ}
    → wrote j a ≡ power_call image r machine → wrote k b ≡ power_call image r machine → (j ≡ k) × (a ≡ b)
power_settled image r machine = same_wrote (power_call image r machine)

pub ask_settled : (opcode : ℕ) (answer : List ℕ) {j k : ℕ} {a b : List ℕ}
    → wrote j a ≡ ask_call opcode answer → wrote k b ≡ ask_call opcode answer → (j ≡ k) × (a ≡ b)
ask_settled opcode answer = same_wrote (ask_call opcode answer)

pub single_settled : (t : Terms) (l : Buffers) {j k : ℕ} {a b : Buffers}
    → called j a ≡ single_call t l → called k b ≡ single_call t l → (j ≡ k) × (a ≡ b)
single_settled t l = same_called (single_call t l)

pub leaping_settled : (t : Terms) (l : Buffers) {j k : ℕ} {a b : Buffers}
    → called j a ≡ leaping_call t l → called k b ≡ leaping_call t l → (j ≡ k) × (a ≡ b)
leaping_settled t l = same_called (leaping_call t l)

pub watch_settled : (leaping : Bool) (session : List ℕ) (n bits since : ℕ) (l : Buffers) {j k : ℕ} {a b : Buffers}
    → called j a ≡ watch_call leaping session n bits since l → called k b ≡ watch_call leaping session n bits since l → (j ≡ k) × (a ≡ b)
watch_settled leaping session n bits since l = same_called (watch_call leaping session n bits since l)

pub rest_settled : (session : List ℕ) (used cycles : ℕ) (buffer result : List ℕ) {j k : ℕ} {a b r s : List ℕ}
    → returned j a r ≡ rest_call session used cycles buffer result
    → returned k b s ≡ rest_call session used cycles buffer result
    → (j ≡ k) × (a ≡ b) × (r ≡ s)
rest_settled session used cycles buffer result = same_returned (rest_call session used cycles buffer result)
