-- The laws of a name with its ending. Assumes nothing.
use Prim.Native.Nat.{ℕ, ◌+◌, ◌≤◌, ◌<◌}
use native.Mathlib.Omega.{arith}
use mathlib.Core.List.{List, [], ◌++◌, append_assoc}
use mathlib.Core.Path.{◌≡◌, sym, ap, ◌∙◌}
use lib.ListN.{length, take, length-append}
use lib.Seq.{take-length, take_at, take-append_seam}
use borrow.Author.Tests.{lt-ltb, le-ltb}
use Rattle.laws.proofs.Conds.{picks, passes}
use Rattle.io.specs.Counts.{IsPrefixLen}
use Rattle.night_arguments.specs.Arguments.{joined_of}

module _ (name ending : List ℕ) where
  pub no_room : (room : ℕ) → room < length name + length ending → [] ≡ joined_of name ending room
  unfolding joined_of
  no_room room h = sym (picks _ _ (lt-ltb _ _ h))

  -- the name over a buffer's front, then the ending over what follows the name
  pub both_stand : {b p : List ℕ} (u v rest : List ℕ) → b ≡ take (length name) name ++ u → p ≡ take (length ending) ending ++ v
      → take (length name) b ++ (p ++ rest) ≡ (name ++ ending) ++ (v ++ rest)
  both_stand u v rest e f =
      rw (e, f, take-length name, take-length ending, take-append_seam name u, append_assoc ending v rest)
      (sym (append_assoc name ending (v ++ rest)))

  pub counted : {l : List ℕ} (room : ℕ) (rest : List ℕ) → length name + length ending ≤ room → l ≡ (name ++ ending) ++ rest
      → IsPrefixLen (length name + length ending) l × (take (length name + length ending) l ≡ joined_of name ending room)
  unfolding joined_of
  counted {l} room rest h e =
      let n = length-append name ending in
      let m = length-append (name ++ ending) rest in
      let t : take (length name + length ending) l ≡ name ++ ending = ap (take (length name + length ending)) e ∙ take_at (name ++ ending) rest _ n in
      ((rw e (omega arith), sym (ap length t ∙ n)), t ∙ sym (passes _ _ (le-ltb _ _ h)))
