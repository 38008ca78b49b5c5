-- Worked examples of the definitions on maps of two bytes, computed together: one list of answers, one of what they are to be. Assumes nothing.
use Prim.Native.Nat.{ℕ, ◌+◌, ◌-◌}
use mathlib.Core.Path.{◌≡◌, refl}
use mathlib.Core.Bool.{Bool, true, false}
use mathlib.Core.List.{List, [], ◌∷◌}
use Rattle.std.specs.Prelude.{Option, None, Some}
use lib.Count.{ones}
use lib.ListN.{replicate}
use Rattle.asking.specs.Asking.{Given, gives, replies}
use Rattle.execution_map.specs.Map.{Map, map_of, has_run, marked, begun_at, ones_of, is_sound, unrun_from, unrun_answer}

-- lowest bit first: address 10 is bit 2 of byte 1. A set bit is left, and the total with it; past the end, and where the map is not kept, nothing changes
maps : List Map
maps =
    marked 10 (map_of (0 ∷ 0 ∷ []) 0)
    ∷ marked 10 (map_of (0 ∷ 4 ∷ []) 1)
    ∷ marked 0 (map_of (0 ∷ 4 ∷ []) 1)
    ∷ marked 7 (map_of (1 ∷ 4 ∷ []) 2)
    ∷ marked 8 (map_of (129 ∷ 4 ∷ []) 3)
    ∷ marked 16 (map_of (129 ∷ 5 ∷ []) 4)
    ∷ begun_at true 15 (map_of (129 ∷ 5 ∷ []) 4)
    ∷ begun_at false 15 (map_of (129 ∷ 5 ∷ []) 4)
    ∷ []

maps_worked : maps
    ≡ map_of (0 ∷ 4 ∷ []) 1
    ∷ map_of (0 ∷ 4 ∷ []) 1
    ∷ map_of (1 ∷ 4 ∷ []) 2
    ∷ map_of (129 ∷ 4 ∷ []) 3
    ∷ map_of (129 ∷ 5 ∷ []) 4
    ∷ map_of (129 ∷ 5 ∷ []) 4
    ∷ map_of (129 ∷ 133 ∷ []) 5
    ∷ map_of (129 ∷ 5 ∷ []) 4
    ∷ []
unfolding maps has_run marked begun_at
maps_worked = refl

-- addresses 0, 1, 7, 8, 9 and 15, and the first past the end; a map of two bytes is not sound, a blank one of 8192 is with the total 0
tests : List Bool
tests =
    has_run (129 ∷ 5 ∷ []) 0
    ∷ has_run (129 ∷ 5 ∷ []) 1
    ∷ has_run (129 ∷ 5 ∷ []) 7
    ∷ has_run (129 ∷ 5 ∷ []) 8
    ∷ has_run (129 ∷ 5 ∷ []) 9
    ∷ has_run (129 ∷ 5 ∷ []) 15
    ∷ has_run (129 ∷ 5 ∷ []) 16
    ∷ is_sound (map_of (129 ∷ 5 ∷ []) 4)
    ∷ is_sound (map_of (replicate 8192 0) 0)
    ∷ is_sound (map_of (replicate 8192 0) 1)
    ∷ []

tests_worked : tests ≡ true ∷ false ∷ true ∷ true ∷ false ∷ false ∷ true ∷ false ∷ true ∷ false ∷ []
unfolding tests has_run is_sound ones_of ones
tests_worked = refl

-- the ones of maps of no byte, one and two
ones_worked : ones_of [] ∷ ones_of (255 ∷ []) ∷ ones_of (129 ∷ 5 ∷ []) ∷ ones_of (255 ∷ 255 ∷ []) ∷ [] ≡ 0 ∷ 8 ∷ 4 ∷ 16 ∷ []
unfolding ones_of ones
ones_worked = refl

-- from 6 to 11, from 7 to 9, from 0 to 0, and backward from 9 to 8
searches : List (List ℕ)
searches =
    unrun_from (255 ∷ 5 ∷ []) 6 (11 + 1 - 6)
    ∷ unrun_from (255 ∷ 5 ∷ []) 7 (9 + 1 - 7)
    ∷ unrun_from (255 ∷ 5 ∷ []) 0 (0 + 1 - 0)
    ∷ unrun_from (255 ∷ 5 ∷ []) 9 (8 + 1 - 9)
    ∷ []

searches_worked : searches ≡ (9 ∷ 11 ∷ []) ∷ (9 ∷ []) ∷ [] ∷ [] ∷ []
unfolding searches unrun_from has_run
searches_worked = refl

-- 15 for two bytes; of a blank map the first address of the range, and none of a backward one
answers : List (Given (Option ℕ))
answers =
    unrun_answer (255 ∷ 5 ∷ []) 6 11
    ∷ unrun_answer (replicate 8192 0) 6 11
    ∷ unrun_answer (replicate 8192 0) 11 6
    ∷ []

answers_worked : answers ≡ replies 15 ∷ gives (Some 6) ∷ gives None ∷ []
unfolding answers unrun_answer unrun_from has_run
answers_worked = refl
