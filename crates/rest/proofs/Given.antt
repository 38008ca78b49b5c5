-- What the call answers and leaves, case by case, in the order of its tests. Assumes nothing.
use Prim.Native.Nat.{ℕ, ◌-◌, ◌≤◌, ◌<◌}
use native.Mathlib.Omega.{arith}
use mathlib.Core.List.{List, [], ◌++◌}
use mathlib.Core.Option.{Option, none, some}
use mathlib.Core.Path.{◌≡◌, refl, sym, ap, ◌∙◌}
use mathlib.Core.Bool.{Bool, true, false, cond}
use lib.Dec.{ltb}
use lib.ListN.{length, drop}
use borrow.Author.Tests.{lt-ltb, le-ltb, ltb-false}
use Rattle.laws.proofs.Conds.{picks, passes}
use Rattle.laws.proofs.Apart.{apart}
use Rattle.session.specs.Session.{check_of}
use Rattle.std.specs.Prelude.{Result, Ok, Err, Some, None, ⊤}
use Rattle.session.specs.declared.Fault.{Fault}
use Rattle.replies.specs.Replies.{Told, told, told_fault, told_check}
use Rattle.rest.specs.Rest.{place_of, has_fewer, skip_of, rest_from, rest_of}
use Rattle.rest.specs.Ahead.{SoundFrom}
use Rattle.rest.specs.Answers.{rest_wrote, told_rest, first_of, rest_refusal, answer_by, rest_answer, buffer_by, rest_buffer}
use Rattle.rest.specs.declared.RestRefusal.{RestRefusal}
use Rattle.rest.specs.declared.RestRefusal.TheVariants.{Bad, TooFew, NoRoom}
use Rattle.rest.proofs.Places.{place_sound}
use Rattle.rest.proofs.Laws.{rest_length}

-- what a skipping that is known says: too few records, or their end
skip_none : (s : List ℕ) (k : ℕ) → None ≡ skip_of s k → has_fewer s k ≡ true
unfolding skip_of
skip_none s k = by (has_fewer s k)
  where
    by : (t : Bool) → None ≡ cond t None (Some (place_of s k)) → t ≡ true
    by true e = refl
    by false e = apart cc

skip_some : (s : List ℕ) (k at : ℕ) → Some at ≡ skip_of s k → (has_fewer s k ≡ false) × (at ≡ place_of s k)
unfolding skip_of
skip_some s k at = by (has_fewer s k)
  where
    by : (t : Bool) → Some at ≡ cond t None (Some (place_of s k)) → (t ≡ false) × (at ≡ place_of s k)
    by true e = apart cc
    by false e = (refl, cc)

-- the place where the unused records of a sound session begin
pub skipped_sound : (s : List ℕ) (k at : ℕ) → check_of s ≡ Ok tt → Some at ≡ skip_of s k → SoundFrom s at
unfolding has_fewer
skipped_sound s k at h e =
    let p = skip_some s k at e in
    rw p.1 (place_sound s k h (ltb-false _ _ p.0))

module _ (s : List ℕ) (used cycles : ℕ) (b : List ℕ) where
  abbrev rest : List ℕ
  rest = rest_of s used cycles

  -- the tests after the session's check
  abbrev room : Option Told
  room = cond (ltb (length b) (length rest)) (some (told 31 none)) none

  abbrev after : Option Told
  after = cond (has_fewer s used) (some (told 30 none)) room

  -- each way that they can go
  pub refused_bad : (f : Fault) → check_of s ≡ Err f → rest_refusal s used cycles b ≡ some (told_fault f)
  unfolding rest_refusal
  refused_bad f e = ap (λ (c : Result ⊤ Fault). first_of (told_check c) after) e

  module _ (sound : check_of s ≡ Ok tt) where
    past_check : rest_refusal s used cycles b ≡ after
    unfolding rest_refusal
    past_check = ap (λ (c : Result ⊤ Fault). first_of (told_check c) after) sound

    pub refused_30 : has_fewer s used ≡ true → rest_refusal s used cycles b ≡ some (told 30 none)
    refused_30 h = past_check ∙ picks (some (told 30 none)) room h

    module _ (enough : has_fewer s used ≡ false) where
      pub refused_31 : length b < length rest → rest_refusal s used cycles b ≡ some (told 31 none)
      refused_31 l = past_check ∙ passes (some (told 30 none)) room enough ∙ picks _ _ (lt-ltb _ _ l)

      pub not_refused : length rest ≤ length b → rest_refusal s used cycles b ≡ none
      not_refused l = past_check ∙ passes (some (told 30 none)) room enough ∙ passes _ _ (le-ltb _ _ l)

  -- a result and a buffer that the contract admits
  abbrev pub Gives : Result ℕ RestRefusal → List ℕ → Type 0
  Gives r left = (told_rest r ≡ rest_answer s used cycles b) × (left ≡ rest_buffer s used cycles b)

  given : (r : Result ℕ RestRefusal) {t : Option Told} → told_rest r ≡ answer_by t rest → rest_refusal s used cycles b ≡ t → Gives r (buffer_by t rest b)
  unfolding rest_answer rest_buffer
  given r e f = (
    e ∙ sym (ap (λ (x : Option Told). answer_by x rest) f),
    sym (ap (λ (x : Option Told). buffer_by x rest b) f),
  )

  -- 4 to 7, by the check of the session
  pub given_bad : (f : Fault) → check_of s ≡ Err f → Gives (Err (Bad f)) b
  given_bad f e = given (Err (Bad f)) refl (refused_bad f e)

  module _ (sound : check_of s ≡ Ok tt) where
    -- 30
    pub given_fewer : None ≡ skip_of s used → Gives (Err TooFew) b
    given_fewer e = given (Err TooFew) refl (refused_30 sound (skip_none s used e))

    module _ (at : ℕ) (e : Some at ≡ skip_of s used) where
      rest_here : rest ≡ rest_from s cycles at []
      unfolding rest_of
      rest_here = ap (λ (k : ℕ). rest_from s cycles k []) (sym (skip_some s used at e).1)

      rest_long : length rest ≡ length s - at
      rest_long = ap length rest_here ∙ rest_length s cycles at (skipped_sound s used at sound e)

      -- 31
      pub given_no_room : length b < length s - at → Gives (Err NoRoom) b
      given_no_room h = let l = rest_long in given (Err NoRoom) refl (refused_31 sound (skip_some s used at e).0 (omega arith))

      -- the rest, and the bytes after it
      pub given_written : length s - at ≤ length b → {left : List ℕ} → left ≡ rest_from s cycles at [] ++ drop (length s - at) b
          → Gives (Ok (length s - at)) left
      given_written h {left} f =
          let l = rest_long in
          let g = given (Ok (length rest)) refl (not_refused sound (skip_some s used at e).0 (omega arith)) in (
            ap rest_wrote (sym l) ∙ g.0,
            f
                ∙ ap (λ (k : ℕ). rest_from s cycles at [] ++ drop k b) (sym l)
                ∙ ap (λ (r : List ℕ). r ++ drop (length rest) b) (sym rest_here)
                ∙ g.1,
          )
