-- What the arguments of a call are: options, each with its value, perhaps `--`, then the names.
use Rattle.std.specs.Prelude.{ℕ, ◌+◌, ◌-◌, Bool, not, cond, ◌&&◌, List, [], ◌∷◌, eqb, ltb, leb, length, get_or, set, take}
use Rattle.printing.specs.Printing.{ascii}
use Rattle.night_arguments.specs.Arguments.{same_of}
use Rattle.night_arguments.specs.declared.Kind.{Kind}
use Rattle.night_arguments.specs.declared.Kind.TheVariants.{Name, End, Unknown, Area, Log}

-- What an argument is, by its text, where it is no option's value: a name, the end of the options, an option that there is not, or an option, of those
-- that name a file.
unfoldable pub kind_of : List ℕ → Kind
kind_of text =
    cond (not (same_of (ascii "--") (take 2 text))) Name
    (cond (same_of text (ascii "--")) End
    (cond (same_of text (ascii "--area")) Area
    (cond (same_of text (ascii "--log")) Log
    Unknown)))

-- The same by numbers: 0 a name, 1 the end of the options, 2 an option that there is not, and from 3 on the options, a row each, those that name a
-- file in the order of the night's files.
abbrev pub kind_number : Kind → ℕ
kind_number Name = 0
kind_number End = 1
kind_number Unknown = 2
kind_number Area = 3
kind_number Log = 4

-- "each at most once": the option of this kind is there, and its value is not given yet
abbrev pub is_free : ℕ → List ℕ → Bool
is_free kind values = leb 3 kind && (ltb (kind - 3) (length values) && eqb (get_or values (kind - 3) 0) 0)

-- The arguments are counted from 1. `names`: which of them is the first of the six names; 0 where the arguments are none of a call. `values`: for
-- each option, in the kinds' order, which of them is its value; 0 where it is not given.
pub record Call : Type 0 where
  pub names : ℕ
  pub values : List ℕ

abbrev pub told : ℕ → List ℕ → Call
told names values = record { names = names; values = values }

-- six names follow the first `at` of so many arguments, and nothing more
abbrev pub names_from : ℕ → ℕ → ℕ
names_from count at = cond (eqb (at + 6) count) (at + 1) 0

-- from the kinds of the arguments that follow the first `at`
unfoldable pub call_from : ℕ → ℕ → List ℕ → List ℕ → Call
call_from count at values [] = told 0 values
call_from count at values (kind ∷ []) = told 0 values
call_from count at values (kind ∷ value ∷ kinds) =
    cond (eqb kind 0) (told (names_from count at) values)
    (cond (eqb kind 1) (told (names_from count (at + 1)) values)
    (cond (is_free kind values) (call_from count (at + 2) (set values (kind - 3) (at + 2)) kinds) (told 0 values)))

-- no call has more than 32 arguments
unfoldable pub call_of : List ℕ → List ℕ → Call
call_of kinds values = cond (ltb 32 (length kinds)) (told 0 values) (call_from (length kinds) 0 values kinds)
