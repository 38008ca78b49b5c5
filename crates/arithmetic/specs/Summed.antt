-- Not to be believed: how the private functions `summed` and `less_by` tell what they did. No public contract names these; `sum_codes` and `less_codes` of
-- Results.antt say the same of sums and differences.
use Rattle.std.specs.Prelude.{ℕ, Bool, ◌&&◌, nat_le}
use Rattle.std.specs.Bool.{xor, beq}
use Rattle.arithmetic.specs.Results.{after, outcome_of}
use Rattle.arithmetic.specs.declared.Codes.{Codes}
use Rattle.arithmetic.specs.declared.Outcome.{Outcome}

-- with the result r, whose number is n, and the bit that left
abbrev pub summed_of : {T : Type 0} → ℕ → ℕ → ℕ → ℕ → T → Bool → Codes → Outcome T
summed_of top a b n r c k =
    outcome_of r (after top n (beq (nat_le top a) (nat_le top b) && xor (nat_le top a) (nat_le top n)) c k)

abbrev pub less_by_of : {T : Type 0} → ℕ → ℕ → ℕ → ℕ → T → Bool → Codes → Outcome T
less_by_of top a b n r c k =
    outcome_of r (after top n (xor (nat_le top a) (nat_le top b) && xor (nat_le top a) (nat_le top n)) c k)
