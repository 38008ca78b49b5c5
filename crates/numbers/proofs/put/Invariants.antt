-- `numbers::put` meets its contract: each turn puts one byte more. Assumes nothing.
use Prim.Native.Nat.{◌-◌}
use mathlib.Core.Path.{◌≡◌}
use mathlib.Core.List.{◌++◌}
use lib.ListN.{length, take}
use Rattle.numbers.specs.Numbers.{little_endian}
use Rattle.numbers.proofs.put.Given as goal

abbrev pub invariant-loop-byte : goal.invariant-loop-byte
invariant-loop-byte l =
    let n = length l.initial.part in
    little_endian n l.number ≡ take l.byte-index l.part ++ little_endian (n - l.byte-index) l.rest
