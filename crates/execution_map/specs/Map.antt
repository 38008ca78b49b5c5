-- 02's map of which ROM has run: "a lent map of 8,192 bytes, one bit an address, lowest bit first, set where an executed instruction began", beside it
-- "a running total", and the search for the first address that never ran.
use Rattle.std.specs.Prelude.{ℕ, zero, suc, ◌+◌, ◌-◌, ◌/◌, ◌%◌, ◌^◌, Bool, cond, ◌&&◌, List, [], ◌∷◌, eqb, length, get_or, set, Option, Some, None, Result, Ok, Err}
use Rattle.std.specs.Int.Count.{ones}
use Rattle.asking.specs.Asking.{Given, gives, replies}
use Rattle.execution_map.specs.declared.WrongMap.{WrongMap}

-- the map's bytes, and the total stated or kept beside them
pub record Map : Type 0 where
  pub bytes : List ℕ
  pub total : ℕ

abbrev pub map_of : List ℕ → ℕ → Map
map_of bytes total = record { bytes = bytes; total = total }

-- address a is byte a / 8, bit a % 8, bit 0 the lowest. Past a map's end there is no bit to set: it counts as set.
unfoldable pub has_run : List ℕ → ℕ → Bool
has_run bytes at = eqb (get_or bytes (at / 8) 255 / 2 ^ (at % 8) % 2) 1

-- an instruction begins at an address: its bit is set, and the total grows by one where it was clear
unfoldable pub marked : ℕ → Map → Map
marked at k =
    cond (has_run k.bytes at) k
    (map_of (set k.bytes (at / 8) (get_or k.bytes (at / 8) 0 + 2 ^ (at % 8))) (k.total + 1))

-- .. where the map is kept
unfoldable pub begun_at : Bool → ℕ → Map → Map
begun_at kept at k = cond kept (marked at k) k

-- "the number of ones in the whole map": the language's count of ones, summed over the bytes
unfoldable pub ones_of : List ℕ → ℕ
ones_of [] = 0
ones_of (b ∷ bytes) = ones b + ones_of bytes

-- what 15 asks: the length is right, and the total stated is the map's own
unfoldable pub is_sound : Map → Bool
is_sound k = eqb (length k.bytes) 8192 && eqb (ones_of k.bytes) k.total

-- the full search: of n addresses from this one on, those that never ran
unfoldable pub unrun_from : List ℕ → ℕ → ℕ → List ℕ
unrun_from bytes at zero = []
unrun_from bytes at (suc n) =
    cond (has_run bytes at) (unrun_from bytes (at + 1) n) (at ∷ unrun_from bytes (at + 1) n)

abbrev pub first_of : List ℕ → Option ℕ
first_of [] = None
first_of (a ∷ rest) = Some a

-- the answer: 15 for a "map of a wrong length" (it is told no total), else "the first address in a range that never ran, or none (as for a backward range)"
unfoldable pub unrun_answer : List ℕ → ℕ → ℕ → Given (Option ℕ)
unrun_answer bytes first last =
    cond (eqb (length bytes) 8192) (gives (first_of (unrun_from bytes first (last + 1 - first)))) (replies 15)

abbrev pub told_search : Result (Option ℕ) WrongMap → Given (Option ℕ)
told_search (Ok found) = gives found
told_search (Err e) = replies 15
