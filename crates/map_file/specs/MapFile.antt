-- A map's file: "8,192 bytes, then the total in 4 bytes little-endian: 8,196, else 15".
use Rattle.std.specs.Prelude.{ℕ, Bool, ◌&&◌, List, ◌++◌, eqb, length, take}
use Rattle.numbers.specs.Numbers.{four, little_endian}
use Rattle.execution_map.specs.Map.{Map, map_of, is_sound}

abbrev pub file_bytes : List ℕ → List ℕ
file_bytes file = take 8192 file

abbrev pub file_map : List ℕ → Map
file_map file = map_of (file_bytes file) (four file 8192 0)

-- what 15 asks of it: the length is right, and the total stated is the map's own
unfoldable pub is_map_file : List ℕ → Bool
is_map_file file = eqb (length file) 8196 && is_sound (file_map file)

-- the file of a map
unfoldable pub map_file_of : Map → List ℕ
map_file_of k = k.bytes ++ little_endian 4 k.total
