-- What saving and loading answer, for all inputs.
use Rattle.std.specs.Prelude.{ℕ, ◌%◌, Bool, cond, not, ◌&&◌, List, eqb, leb, length, Option, None, Some, Result, Ok, Err}
use Rattle.bits.specs.Bits.{bit}
use Rattle.machine.specs.declared.Machine.{Machine}
use Rattle.machine.specs.Machine.{ranges_of}
use Rattle.asking.specs.Asking.{Given, gives, replies}
use Rattle.saved.specs.declared.WrongLength.{WrongLength}
use Rattle.saved.specs.declared.LoadRefusal.{LoadRefusal}
use Rattle.saved.specs.declared.LoadRefusal.TheVariants as refusal
use Rattle.saved.specs.Layout.{saved_of, byte_in, word_at, machine_in}

-- saving: 26 where it refuses
abbrev pub told_saved : Result (Unit {0}) WrongLength → Option ℕ
told_saved (Ok _) = None
told_saved (Err _) = Some 26

-- saving refuses "a wrong length"
abbrev pub save_of : List ℕ → Option ℕ
save_of bytes = cond (eqb (length bytes) 42) None (Some 26)

-- the lent bytes afterwards: the saved machine, or as they were
abbrev pub left_of : Machine → List ℕ → List ℕ
left_of m bytes = cond (eqb (length bytes) 42) (saved_of m) bytes

-- loading: a machine, or 26 wrong length, 27 wrong version, 28 bytes that stand for no machine, 2 (01's table) outside its ranges
abbrev pub told_loaded : Result Machine LoadRefusal → Given Machine
told_loaded (Ok m) = gives m
told_loaded (Err refusal.WrongLength) = replies 26
told_loaded (Err refusal.WrongVersion) = replies 27
told_loaded (Err refusal.NoMachine) = replies 28
told_loaded (Err refusal.WrongMachine) = replies 2

-- "bytes that stand for no machine (a bool above 1, an arm bit that is none)": those that do not pass this
unfoldable pub stands_of : List ℕ → Bool
stands_of l =
    leb (byte_in l 11) 1 && leb (byte_in l 12) 1 && leb (byte_in l 13) 1 && leb (byte_in l 28) 1
    && eqb (byte_in l 33 % 32) 0 && eqb (byte_in l 34 % 32) 0

-- 01's ranges of bytes that stand for m: "condition codes have their top two bits set; .. bits 0 to 5 of $14 zero", and the ranges that
-- m itself can break
unfoldable pub ranges_in : List ℕ → Machine → Bool
ranges_in l m = bit (byte_in l 10) 128 && bit (byte_in l 10) 64 && eqb (byte_in l 35 % 64) 0 && ranges_of m

-- loading: the tests in this order, then the machine
unfoldable pub load_of : List ℕ → Given Machine
load_of l =
    cond (not (eqb (length l) 42)) (replies 26)
    (cond (not (eqb (word_at l 0) 1)) (replies 27)
    (cond (not (stands_of l)) (replies 28)
    (cond (not (ranges_in l (machine_in l))) (replies 2)
    (gives (machine_in l)))))
