-- Options and calls, worked out by computing. Assumes nothing.
use Prim.Native.Nat.{ℕ}
use mathlib.Core.List.{List, [], ◌∷◌, map}
use mathlib.Core.Path.{◌≡◌, refl, sym, ap, ◌∙◌}
use Rattle.std.specs.Prelude.{Bool, true, false, not, cond, take}
use Rattle.std.proofs.lemmas.Slice.Eq.{bytes_eq-Decides}
use Rattle.printing.specs.Printing.{ascii}
use Rattle.night_arguments.specs.declared.Kind.TheVariants.{Name, End, Unknown, Area, Log}
use Rattle.night_arguments.specs.Arguments.{same_of}
use Rattle.night_arguments.specs.Options.{Call, kind_of, kind_number, told, call_from, call_of}

pub kinds : map kind_of (
    ascii "--area" ∷ ascii "--log" ∷ ascii "--" ∷ ascii "--lo" ∷ ascii "--logs" ∷ ascii "-log" ∷ ascii "-" ∷ [] ∷ ascii "log" ∷ []
    ) ≡ Area ∷ Log ∷ End ∷ Unknown ∷ Unknown ∷ Name ∷ Name ∷ Name ∷ Name ∷ []
unfolding kind_of
kinds = refl

-- an argument's number, by its text
abbrev number_by : List ℕ → ℕ
number_by text = kind_number (kind_of text)

pub numbers : map number_by (
    ascii "--area" ∷ ascii "--log" ∷ ascii "--" ∷ ascii "--lo" ∷ ascii "--logs" ∷ ascii "-log" ∷ ascii "-" ∷ [] ∷ ascii "log" ∷ []
    ) ≡ 3 ∷ 4 ∷ 1 ∷ 2 ∷ 2 ∷ 0 ∷ 0 ∷ 0 ∷ 0 ∷ []
unfolding kind_of
numbers = refl

same_back : (a b : List ℕ) → same_of a b ≡ same_of b a
same_back a b = go (same_of a b) (same_of b a) refl refl
  where
    go : (s t : Bool) → same_of a b ≡ s → same_of b a ≡ t → s ≡ t
    go true true p q = refl
    go false false p q = refl
    go true false p q = sym ((bytes_eq-Decides b a).1 (sym ((bytes_eq-Decides a b).0 p))) ∙ q
    go false true p q = sym p ∙ (bytes_eq-Decides a b).1 (sym ((bytes_eq-Decides b a).0 q))

pub number_is : (text : List ℕ) → number_by text
    ≡ cond (not (same_of (take 2 text) (ascii "--"))) 0
    (cond (same_of text (ascii "--")) 1
    (cond (same_of text (ascii "--area")) 3
    (cond (same_of text (ascii "--log")) 4
    2)))
unfolding kind_of
number_is text =
    go (same_of (ascii "--") (take 2 text)) (same_of text (ascii "--")) (same_of text (ascii "--area")) (same_of text (ascii "--log"))
    ∙ ap (λ (t : Bool). cond (not t) 0 (cond (same_of text (ascii "--")) 1 (cond (same_of text (ascii "--area")) 3 (cond (same_of text (ascii "--log")) 4 2))))
    (same_back (ascii "--") (take 2 text))
  where
    go : (a b c d : Bool) → kind_number (cond (not a) Name (cond b End (cond c Area (cond d Log Unknown))))
        ≡ cond (not a) 0 (cond b 1 (cond c 3 (cond d 4 2)))
    go false b c d = refl
    go true true c d = refl
    go true false true d = refl
    go true false false true = refl
    go true false false false = refl

abbrev call : List ℕ → Call
call kinds = call_of kinds (0 ∷ 0 ∷ [])

pub calls : map call (
    (0 ∷ 0 ∷ 0 ∷ 0 ∷ 0 ∷ 0 ∷ [])  -- six names
    ∷ (4 ∷ 0 ∷ 0 ∷ 0 ∷ 0 ∷ 0 ∷ 0 ∷ 0 ∷ [])  -- a log
    ∷ (4 ∷ 4 ∷ 0 ∷ 0 ∷ 0 ∷ 0 ∷ 0 ∷ 0 ∷ [])  -- a log whose name is --log
    ∷ (3 ∷ 0 ∷ 4 ∷ 0 ∷ 0 ∷ 0 ∷ 0 ∷ 0 ∷ 0 ∷ 0 ∷ [])  -- an area and a log
    ∷ (4 ∷ 0 ∷ 3 ∷ 0 ∷ 0 ∷ 0 ∷ 0 ∷ 0 ∷ 0 ∷ 0 ∷ [])  -- a log and an area
    ∷ (1 ∷ 0 ∷ 0 ∷ 0 ∷ 0 ∷ 0 ∷ 0 ∷ [])  -- the options' end
    ∷ (4 ∷ 0 ∷ 1 ∷ 3 ∷ 2 ∷ 0 ∷ 0 ∷ 1 ∷ 0 ∷ [])  -- after it, names like options
    ∷ []
    ) ≡ told 1 (0 ∷ 0 ∷ []) ∷ told 3 (0 ∷ 2 ∷ []) ∷ told 3 (0 ∷ 2 ∷ []) ∷ told 5 (2 ∷ 4 ∷ []) ∷ told 5 (4 ∷ 2 ∷ []) ∷ told 2 (0 ∷ 0 ∷ []) ∷ told 4 (0 ∷ 2 ∷ []) ∷ []
unfolding call_of call_from
calls = refl

abbrev names : List ℕ → ℕ
names kinds = (call kinds).names

pub no_calls : map names (
    []
    ∷ (0 ∷ 0 ∷ 0 ∷ 0 ∷ 0 ∷ [])  -- five names
    ∷ (0 ∷ 0 ∷ 0 ∷ 0 ∷ 0 ∷ 0 ∷ 0 ∷ [])  -- seven
    ∷ (4 ∷ 0 ∷ 0 ∷ 0 ∷ 0 ∷ 0 ∷ 0 ∷ [])  -- the log's name is missing
    ∷ (4 ∷ 0 ∷ 4 ∷ 0 ∷ 0 ∷ 0 ∷ 0 ∷ 0 ∷ 0 ∷ 0 ∷ [])  -- a log twice
    ∷ (3 ∷ 0 ∷ 4 ∷ 0 ∷ 3 ∷ 0 ∷ 0 ∷ 0 ∷ 0 ∷ 0 ∷ 0 ∷ 0 ∷ [])  -- an area twice
    ∷ (2 ∷ 0 ∷ 0 ∷ 0 ∷ 0 ∷ 0 ∷ 0 ∷ 0 ∷ [])  -- an unknown option
    ∷ (5 ∷ 0 ∷ 0 ∷ 0 ∷ 0 ∷ 0 ∷ 0 ∷ 0 ∷ [])  -- one that has no row
    ∷ []
    ) ≡ 0 ∷ 0 ∷ 0 ∷ 0 ∷ 0 ∷ 0 ∷ 0 ∷ 0 ∷ []
unfolding call_of call_from
no_calls = refl
