-- What a C call that is lent a buffer and a result returns and leaves.
use Rattle.std.specs.Prelude.{ℕ, List}
use Rattle.std.proofs.Math.Option.{Option, none, some}
use Rattle.numbers.specs.Numbers.{little_endian, over}

-- the number that it returns, and the two buffers that it is lent to write
pub record Returned : Type 0 where
  pub number : ℕ
  pub buffer : List ℕ
  pub result : List ℕ

abbrev pub returned : ℕ → List ℕ → List ℕ → Returned
returned number buffer result = record { number = number; buffer = buffer; result = result }

-- a number told in the result's first 8 bytes: a length, or the record or line that a refusal names
abbrev pub named_in : Option ℕ → List ℕ → List ℕ
named_in none result = result
named_in (some k) result = over (little_endian 8 k) result
