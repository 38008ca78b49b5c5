-- The laws of a result record in a lent buffer: how long it is, and how long the buffer must be. Assumes nothing.
use Prim.Native.Nat.{ℕ, ◌≤◌}
use native.Mathlib.Omega.{arith}
use mathlib.Core.Bool.{Bool, true, false}
use mathlib.Core.List.{List}
use mathlib.Core.Path.{◌≡◌, ap}
use lib.ListN.{length, length-append}
use Rattle.counts.specs.declared.Counts.{Counts}
use Rattle.numbers.specs.Numbers.{over}
use Rattle.numbers.proofs.Laws.{length_little_endian, Laid}
use Rattle.board_results.specs.Results.{head_bytes, result_bytes, record_size}

pub head_long : (reply : ℕ) (c : Counts) → length (head_bytes reply c) ≡ 16
unfolding head_bytes
head_long reply c = simp (length-append, length_little_endian)

pub result_long : (reply named : ℕ) (c : Counts) → length (result_bytes reply named c) ≡ 40
unfolding result_bytes
result_long reply named c = simp (length-append, length_little_endian, head_long)

pub size_least : (leaping : Bool) → 40 ≤ record_size leaping
size_least true = omega arith
size_least false = omega arith

pub size_leaping : {leaping : Bool} → leaping ≡ true → record_size leaping ≡ 44
size_leaping = ap record_size

-- the 16 bytes, and the 40, over a lent buffer
pub laid_head : (buffer : List ℕ) (reply : ℕ) (c : Counts) {l : List ℕ} → l ≡ over (head_bytes reply c) buffer → Laid buffer (head_bytes reply c) 16 l
laid_head buffer reply c e = record { same = e; long = head_long reply c }

pub laid_result : (buffer : List ℕ) (reply named : ℕ) (c : Counts) {l : List ℕ} → l ≡ over (result_bytes reply named c) buffer
    → Laid buffer (result_bytes reply named c) 40 l
laid_result buffer reply named c e = record { same = e; long = result_long reply named c }
