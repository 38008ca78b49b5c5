-- The laws of a map's file: where its total is put, and that the file of a map tells that map back, and is one where the map is sound. Assumes nothing.
use Prim.Native.Nat.{ℕ, ◌+◌, ◌-◌, ◌<◌}
use native.Mathlib.Nat.{le_of_eq}
use native.Mathlib.Omega.{arith}
use mathlib.Core.Bool.{true}
use mathlib.Core.List.{List, ◌++◌, append-nil}
use mathlib.Core.Path.{◌≡◌, sym, ap, ◌∙◌}
use lib.ListN.{length, get_or, take, drop, length-append, length-take, length-drop, drop_of_length-le}
use lib.Seq.{take_at, get_or-append-add}
use borrow.Author.Tests.{eq-eqb}
use Rattle.numbers.specs.Numbers.{four, little_endian, four_bytes}
use Rattle.numbers.proofs.Laws.{length_little_endian, four_back, four_fit}
use Rattle.execution_map.specs.Map.{Map, map_of, is_sound}
use Rattle.execution_map.proofs.Laws.{sound_length}
use Rattle.map_file.specs.MapFile.{file_bytes, file_map, is_map_file, map_file_of}

-- four bytes from the map's end on
pub put_behind : (file : List ℕ) (total : ℕ) {bytes : List ℕ} → length file ≡ 8196
    → bytes ≡ little_endian (length (take (length file - 8192) (drop 8192 file))) total
    → take 8192 file ++ (bytes ++ drop (length file - 8192) (drop 8192 file)) ≡ map_file_of (map_of (file_bytes file) total)
unfolding map_file_of
put_behind file total {bytes} h e =
    let past = length-drop 8192 file in
    let part = length-take (length file - 8192) (drop 8192 file) in
    let four : length (take (length file - 8192) (drop 8192 file)) ≡ 4 = omega (arith, h, past, part) in
    ap (λ (rest : List ℕ). take 8192 file ++ (bytes ++ rest)) (drop_of_length-le (drop 8192 file) (le_of_eq past))
    ∙ ap (λ (rest : List ℕ). take 8192 file ++ rest) (append-nil bytes ∙ e ∙ ap (λ (width : ℕ). little_endian width total) four)

module _ (k : Map) (h : is_sound k ≡ true) (l : k.total < 4294967296) where
  byte_behind : (j : ℕ) → get_or (map_file_of k) (8192 + j) 0 ≡ get_or (four_bytes k.total) j 0
  unfolding map_file_of
  byte_behind j =
      ap (λ (n : ℕ). get_or (k.bytes ++ little_endian 4 k.total) (n + j) 0) (sym (sound_length k h))
      ∙ get_or-append-add k.bytes (little_endian 4 k.total) j 0
      ∙ ap (λ (bytes : List ℕ). get_or bytes j 0) (four_fit k.total l)

  map_bytes : file_bytes (map_file_of k) ≡ k.bytes
  unfolding map_file_of
  map_bytes = take_at k.bytes _ 8192 (sound_length k h)

  file_length : length (map_file_of k) ≡ 8196
  unfolding map_file_of
  file_length =
      let a = length-append k.bytes (little_endian 4 k.total) in
      let b = sound_length k h in
      let c = length_little_endian 4 k.total in
      omega (arith, a, b, c)

  -- the file of a sound map tells that map back
  pub map_back : file_map (map_file_of k) ≡ k
  map_back =
      let total : four (map_file_of k) 8192 0 ≡ k.total =
      four_back k.total _ _ _ _ (byte_behind 0) (byte_behind 1) (byte_behind 2) (byte_behind 3) in
      λ i. map_of (map_bytes i) (total i)

  -- and is a map's
  pub file_sound : is_map_file (map_file_of k) ≡ true
  unfolding is_map_file
  file_sound = rw (eq-eqb _ _ file_length, map_back) h
