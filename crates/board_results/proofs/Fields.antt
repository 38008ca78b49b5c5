-- Where the fields of a result record stand; that a field's bytes tell its number is `Told-back` of numbers. Assumes nothing.
use Prim.Native.Nat.{ℕ}
use mathlib.Core.Bool.{true}
use mathlib.Core.List.{List}
use mathlib.Core.Path.{◌≡◌, refl}
use lib.ListN.{take, drop}
use Rattle.replies.specs.Replies.{Told}
use Rattle.counts.specs.declared.Counts.{Counts}
use Rattle.numbers.specs.Numbers.{little_endian}
use Rattle.board_results.specs.Results.{head_bytes, result_bytes, record_bytes}

-- so many bytes of a record from a place on
pub field : List ℕ → ℕ → ℕ → List ℕ
field bytes at width = take width (drop at bytes)

-- the fields of both records
pub fields : (reply named : ℕ) (c : Counts) → let r = result_bytes reply named c in
    (field r 0 4 ≡ little_endian 4 reply)
    × (field r 4 4 ≡ little_endian 4 c.cycles.0)
    × (field r 8 4 ≡ little_endian 4 c.instructions.0)
    × (field r 12 4 ≡ little_endian 4 c.entries.0)
    × (field r 16 8 ≡ little_endian 8 c.used.0)
    × (field r 24 8 ≡ little_endian 8 c.sent.0)
    × (field r 32 8 ≡ little_endian 8 named)
unfolding field head_bytes result_bytes little_endian
fields reply named c = (refl, refl, refl, refl, refl, refl, refl)

-- and the leaps, of the leaping run's
pub leaps_field : (t : Told) (c : Counts) (leaps : ℕ) → field (record_bytes true t c leaps) 40 4 ≡ little_endian 4 leaps
unfolding field head_bytes result_bytes little_endian
leaps_field t c leaps = refl
