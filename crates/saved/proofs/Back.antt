-- Load, then save: the bytes. Assumes nothing.
use Prim.Native.Nat.{ℕ, zero, suc, ◌/◌, ◌%◌, ◌≤◌, ◌<◌}
use native.Mathlib.Omega.{arith}
use mathlib.Core.Path.{◌≡◌, refl, sym, ap, ◌∙◌}
use mathlib.Core.List.{List, [], ◌∷◌}
use lib.ListN.{length}
use borrow.Author.Tests.{eqb-true}
use Rattle.tables.proofs.Rows.{from}
use Rattle.arithmetic.proofs.CodesByte.{byte_kept}
use Rattle.serial.specs.Serial.{trcs_of}
use Rattle.machine.specs.declared.Machine.{Machine}
use Rattle.saved.specs.Layout.{saved_of, byte_in, word_at, machine_in}
use Rattle.asking.specs.Asking.{gives}
use Rattle.saved.specs.Answers.{load_of}
use Rattle.saved.proofs.Bytes.{low_back, high_back, long_back, bool_back, byte_back, arms_back, control_back}
use Rattle.saved.proofs.Exactly.{Stands, load_gives}

-- every element is a byte
abbrev pub Bytes : List ℕ → Type 0
Bytes l = (k : ℕ) → byte_in l k < 256

-- a list is its elements, from the front
shifted : (f : ℕ → ℕ) (n i : ℕ) → from f (suc i) n ≡ from (λ k. f (suc k)) i n
shifted f zero i = refl
shifted f (suc n) i = ap (λ (r : List ℕ). f (suc i) ∷ r) (shifted f n (suc i))

listed : (l : List ℕ) → from (byte_in l) 0 (length l) ≡ l
listed [] = refl
listed (x ∷ xs) = ap (λ (r : List ℕ). x ∷ r) (shifted (byte_in (x ∷ xs)) (length xs) 0 ∙ listed xs)

-- bytes of version 1 that stand for a machine, and are in 01's ranges, are the bytes that this machine is saved as
pub bytes_back : (l : List ℕ) → length l ≡ 42 → word_at l 0 ≡ 1 → Bytes l → Stands l → 192 ≤ byte_in l 10 → byte_in l 35 % 64 ≡ 0 → saved_of (machine_in l) ≡ l
unfolding saved_of machine_in trcs_of
bytes_back l e v bytes stands codes control =
    let low_version : 1 ≡ byte_in l 0 = omega (arith, v) in
    let high_version : 0 ≡ byte_in l 1 = omega (arith, v) in
    let start = long_back (byte_in l 38) (byte_in l 39) (byte_in l 40) (byte_in l 41) (bytes 38) (bytes 39) (bytes 40) in
    (λ i.
    low_version i ∷ high_version i
    ∷ byte_in l 2 ∷ byte_in l 3
    ∷ low_back (byte_in l 4) (byte_in l 5) (bytes 4) i ∷ high_back (byte_in l 4) (byte_in l 5) (bytes 4) i
    ∷ low_back (byte_in l 6) (byte_in l 7) (bytes 6) i ∷ high_back (byte_in l 6) (byte_in l 7) (bytes 6) i
    ∷ low_back (byte_in l 8) (byte_in l 9) (bytes 8) i ∷ high_back (byte_in l 8) (byte_in l 9) (bytes 8) i
    ∷ byte_kept (byte_in l 10) codes (bytes 10) i ∷ bool_back (byte_in l 11) stands.waiting i ∷ bool_back (byte_in l 12) stands.nmi i ∷ bool_back (byte_in l 13) stands.irq1 i
    ∷ byte_in l 14 ∷ byte_in l 15 ∷ byte_in l 16
    ∷ byte_in l 17 ∷ byte_in l 18 ∷ byte_in l 19 ∷ byte_in l 20
    ∷ byte_back (byte_in l 21) (bytes 21) i
    ∷ low_back (byte_in l 22) (byte_in l 23) (bytes 22) i ∷ high_back (byte_in l 22) (byte_in l 23) (bytes 22) i
    ∷ low_back (byte_in l 24) (byte_in l 25) (bytes 24) i ∷ high_back (byte_in l 24) (byte_in l 25) (bytes 24) i
    ∷ low_back (byte_in l 26) (byte_in l 27) (bytes 26) i ∷ high_back (byte_in l 26) (byte_in l 27) (bytes 26) i
    ∷ bool_back (byte_in l 28) stands.level i
    ∷ byte_in l 29 ∷ byte_back (byte_in l 30) (bytes 30) i ∷ byte_in l 31 ∷ byte_in l 32
    ∷ arms_back (byte_in l 33) (bytes 33) stands.timer_arms i ∷ arms_back (byte_in l 34) (bytes 34) stands.serial_arms i ∷ control_back (byte_in l 35) (bytes 35) control i
    ∷ low_back (byte_in l 36) (byte_in l 37) (bytes 36) i ∷ high_back (byte_in l 36) (byte_in l 37) (bytes 36) i
    ∷ start.0 i ∷ start.1 i ∷ start.2 i ∷ start.3 i
    ∷ [])
    ∙ ap (from (byte_in l) 0) (sym e) ∙ listed l

-- bytes that load are the bytes that their machine is saved as
pub load_then_save : (l : List ℕ) (m : Machine) → Bytes l → load_of l ≡ gives m → saved_of m ≡ l
load_then_save l m bytes e =
    let h = (load_gives l m).0 e in
    let h7 = eqb-true (byte_in l 10 / 128 % 2) 1 h.3.codes.0 in
    let h6 = eqb-true (byte_in l 10 / 64 % 2) 1 h.3.codes.1 in
    let small = bytes 10 in
    let top : 192 ≤ byte_in l 10 = omega (arith, h7, h6, small) in
    ap saved_of h.4 ∙ bytes_back l h.0 h.1 bytes h.2 top h.3.control
