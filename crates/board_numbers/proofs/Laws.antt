-- An operation's numbers are three. Assumes nothing.
use Prim.Native.Nat.{ℕ}
use mathlib.Core.List.{List, ◌∷◌, ◌++◌}
use mathlib.Core.Path.{◌≡◌, refl}
use lib.ListN.{get_or}
use Rattle.opcodes.specs.declared.Operation.{Operation}
use Rattle.opcodes.specs.declared.Operation.TheVariants.{Internal, Dyadic, Monadic, Tst, Sta, Wide, WideStore, Psh, Pul, Pshx}
use Rattle.opcodes.specs.declared.Operation.TheVariants.{Pulx, Branch, Jmp, Jsr, Bsr, Rts, Rti, Swi, Wai}
use Rattle.board_numbers.specs.Numbers.{operation_bytes}

-- the first three of some bytes, then others
abbrev three_then : List ℕ → List ℕ → List ℕ
three_then l rest = get_or l 0 0 ∷ get_or l 1 0 ∷ get_or l 2 0 ∷ rest

pub three_then_lem : (o : Operation) (rest : List ℕ) → three_then (operation_bytes o) rest ≡ operation_bytes o ++ rest
three_then_lem (Internal i) rest = refl
three_then_lem (Dyadic d a) rest = refl
three_then_lem (Monadic m) rest = refl
three_then_lem Tst rest = refl
three_then_lem (Sta a) rest = refl
three_then_lem (Wide w) rest = refl
three_then_lem (WideStore w) rest = refl
three_then_lem (Psh a) rest = refl
three_then_lem (Pul a) rest = refl
three_then_lem Pshx rest = refl
three_then_lem Pulx rest = refl
three_then_lem (Branch b) rest = refl
three_then_lem Jmp rest = refl
three_then_lem Jsr rest = refl
three_then_lem Bsr rest = refl
three_then_lem Rts rest = refl
three_then_lem Rti rest = refl
three_then_lem Swi rest = refl
three_then_lem Wai rest = refl
