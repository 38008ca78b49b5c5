-- 01's bench program: what its input holds. Its records have the head of session's, a two-byte length and a two-byte kind,
-- and no time.
use Rattle.std.specs.Prelude.{ℕ, ◌+◌, ◌-◌, List, [], ◌∷◌, Bool, cond, ◌&&◌, length, set, take, drop, eqb, leb, Option, Some, None}
use Rattle.turns.specs.Turn.{Turn, more, done, loop_of}
use Rattle.numbers.specs.Numbers.{two, four}
use Rattle.session.specs.Session.{length_at, kind_at, next_at}
use Rattle.bench_input.specs.declared.Run.{Run}

-- the record at a place is not cut short
abbrev pub is_whole : List ℕ → ℕ → Bool
is_whole s at = leb (2 + length_at s at) (length s - at)

-- "load records (kind 9, no time: two-byte address, at least one byte, not past $FFFF)": the length counts kind and address,
-- 4 bytes, and what is loaded
abbrev pub address_at : List ℕ → ℕ → ℕ
address_at s at = two s at 4

abbrev pub bytes_at : List ℕ → ℕ → List ℕ
bytes_at s at = take (next_at s at - (at + 6)) (drop (at + 6) s)

unfoldable pub is_load : List ℕ → ℕ → Bool
is_load s at =
    is_whole s at && eqb (kind_at s at) 9 && leb 5 (length_at s at) && leb (address_at s at + length_at s at) (65536 + 4)

-- "one run record (kind 10, no time, length 10: N, R, four bytes each)"
unfoldable pub is_run : List ℕ → ℕ → Bool
is_run s at = is_whole s at && eqb (kind_at s at) 10 && eqb (length_at s at) 10

-- the place after the load records, here from a place on
unfoldable pub after_loads : List ℕ → ℕ → ℕ
after_loads s at =
    loop_of (λ (k : ℕ). cond (is_load s k) (more (next_at s k)) (done k)) (λ (k : ℕ). k) (λ (k : ℕ). length s - k) at

-- bytes in memory from an address on; there is nothing past its end
unfoldable pub stored_at : List ℕ → ℕ → List ℕ → List ℕ
stored_at memory at [] = memory
stored_at memory at (b ∷ bs) = stored_at (set memory at b) (at + 1) bs

-- the load records from a place on, each stored over those before it
pub record Filling : Type 0 where
  pub at : ℕ
  pub memory : List ℕ

abbrev pub load_turn : List ℕ → Filling → Turn Filling (List ℕ)
load_turn s l =
    cond (is_load s l.at)
    (more (record { at = next_at s l.at; memory = stored_at l.memory (address_at s l.at) (bytes_at s l.at) }))
    (done l.memory)

unfoldable pub loads_of : List ℕ → ℕ → List ℕ → List ℕ
loads_of s at memory =
    loop_of (load_turn s) (λ (l : Filling). l.memory) (λ (l : Filling). length s - l.at) (record { at = at; memory = memory })

-- "at most 16,384 bytes: load records .., one run record .., then the session. Anything else before the session, or a longer
-- input, is reply 10"
unfoldable pub is_good : List ℕ → Bool
is_good s = leb (length s) 16384 && is_run s (after_loads s 0)

-- N, R and where the session begins, of the run record at a place
abbrev pub run_at : List ℕ → ℕ → Run
run_at s at = record { n = four s at 4; r = four s at 8; session = next_at s at }

unfoldable pub input_of : List ℕ → Option Run
input_of s = cond (is_good s) (Some (run_at s (after_loads s 0))) None

-- the image after the loading: a bad input leaves it
unfoldable pub image_of : List ℕ → List ℕ → List ℕ
image_of s image = cond (is_good s) (loads_of s 0 image) image
