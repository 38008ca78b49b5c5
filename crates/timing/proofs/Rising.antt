-- The cycles of an instruction's accesses rise from 1 on, and the last is at most its cycles, for each of the 220: one test computed over the table of
-- opcodes. So do those of an entry. Assumes nothing.
use Prim.Native.Nat.{ℕ, ◌≤◌}
use native.Mathlib.Omega.{arith}
use mathlib.Core.Path.{◌≡◌, subst}
use mathlib.Core.Bool.{Bool, true, false, cond, ◌&&◌}
use mathlib.Core.List.{List, [], ◌∷◌}
use lib.Dec.{T, leb, ltb, leb→le, ltb→lt}
use Rattle.opcodes.specs.declared.Instruction.{Instruction}
use Rattle.std.specs.Prelude.{Option, None, Some}
use Rattle.opcodes.specs.Opcodes.{decode_of}
use Rattle.opcodes.proofs.Table.{both, passes}
use Rattle.timing.specs.Table.{access_cycles, entry_accesses}

-- cycles that rise, all after `last` and none after n
abbrev pub rises : ℕ → ℕ → List ℕ → Bool
rises last n [] = leb last n
rises last n (k ∷ ks) = ltb last k && rises k n ks

abbrev risen : Option Instruction → Bool
risen None = true
risen (Some i) = rises 0 i.cycles (access_cycles i.operation i.place)

pub rising : (opcode : ℕ) (i : Instruction) → decode_of opcode ≡ Some i → T (rises 0 i.cycles (access_cycles i.operation i.place))
unfolding access_cycles
rising opcode i e = subst (λ (d : Option Instruction). T (risen d)) e (passes risen tt tt opcode)

-- an entry has 12 cycles, and 4 out of a wait
pub entry_rising : (waiting : Bool) → T (rises 0 (cond waiting 4 12) (entry_accesses waiting))
entry_rising true = tt
entry_rising false = tt

-- no access stands after cycle n
abbrev pub Below : ℕ → List ℕ → Type 0
Below n [] = Unit
Below n (k ∷ ks) = (k ≤ n) × Below n ks

ends : (last n : ℕ) (ks : List ℕ) → T (rises last n ks) → last ≤ n
ends last n [] t = leb→le last n t
ends last n (k ∷ ks) t =
    let b = both (ltb last k) (rises k n ks) t in
    let p = ltb→lt last k b.0 in
    let q = ends k n ks b.1 in
    omega arith

pub below : (last n : ℕ) (ks : List ℕ) → T (rises last n ks) → Below n ks
below last n [] t = tt
below last n (k ∷ ks) t =
    let b = both (ltb last k) (rises k n ks) t in
    (ends k n ks b.1, below k n ks b.1)
