-- A part of a list that was lent and came back: what it got is stored from its place on. Assumes nothing.
use Prim.Native.Nat.{ℕ, ◌+◌, ◌-◌, ◌≤◌}
use native.Mathlib.Omega.{arith}
use mathlib.Core.List.{List, [], ◌++◌, append_assoc, append-nil}
use mathlib.Core.Path.{◌≡◌, sym}
use lib.ListN.{length, take, drop, length-drop, drop_of_length-le}
use lib.Seq.{take_all, drop-drop, sets, sets-eq}
use Rattle.laws.proofs.Lists.{take_rest}

-- the list after its k elements from a place on were lent and came back as q
abbrev pub came_back : ℕ → ℕ → List ℕ → List ℕ → List ℕ
came_back at k l q = take at l ++ (q ++ drop k (drop at l))

-- all of the part is new
pub back_whole : (l u : List ℕ) (at k : ℕ) {q : List ℕ} → at + k ≤ length l → length u ≡ k → q ≡ u → came_back at k l q ≡ sets l at u
back_whole l u at k h e f =
    let g : at + length u ≤ length l = omega arith in
    rw (f, drop-drop k at l, sets-eq u l at g, e) (sym (append_assoc (take at l) u _))

-- what was lent goes to the end, and its front is new
pub back_front : (l u : List ℕ) (at : ℕ) {q : List ℕ} → at + length u ≤ length l
    → q ≡ take (length u) u ++ drop (length u) (take (length l - at) (drop at l)) → came_back at (length l - at) l q ≡ sets l at u
back_front l u at h f =
    let d = length-drop at l in
    let g : drop (length l - at) (drop at l) ≡ [] = drop_of_length-le (drop at l) {i = length l - at} (omega arith) in
    let m : take (length u) u ≡ u = take_all (length u) u (omega arith) in
    rw (f, m, take_rest at l, g, append-nil, drop-drop (length u) at l, sets-eq u l at h) (sym (append_assoc (take at l) u _))
