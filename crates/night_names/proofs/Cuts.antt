-- The laws of a text that is cut at each `/`. Assumes nothing.
use Prim.Native.Nat.{ℕ, ◌+◌, ◌<◌}
use native.Mathlib.Omega.{arith}
use mathlib.Core.List.{List}
use mathlib.Core.Path.{◌≡◌}
use lib.Dec.{eqb}
use lib.ListN.{length}
use Rattle.std.specs.Prelude.{count_by}
use Rattle.std.proofs.lemmas.List.Splits.{length-slice_split}
use Rattle.night_names.specs.Names.{parts_of}

pub parts_count : (l : List ℕ) → length (parts_of l) ≡ count_by (λ (c : ℕ). eqb c 47) l + 1
unfolding parts_of
parts_count l = length-slice_split (λ (c : ℕ). eqb c 47) l

pub some_part : (l : List ℕ) → 0 < length (parts_of l)
some_part l = let e = parts_count l in omega arith
