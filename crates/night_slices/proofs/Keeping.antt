-- The laws of what a slice keeps: with room for the whole session there is room for its rest, which then stands in its place. Assumes nothing.
use Rattle.std.proofs.Common.{◌≡◌, ℕ, ◌≤◌, true, false, List, ◌++◌, length, take, drop, sym, refl, ap, ◌∙◌, arith, length-take, length-take-le, take_at}
use Rattle.laws.proofs.Conds.{picks, passes}
use Rattle.session.specs.Session.{check_of}
use Rattle.std.specs.Prelude.{Ok, Result}
use Rattle.replies.specs.Replies.{Told, stops}
use Rattle.rest.specs.Rest.{place_of, rest_of}
use Rattle.rest.specs.Answers.{rest_wrote, told_rest, rest_answer, rest_buffer}
use Rattle.rest.specs.declared.RestRefusal.{RestRefusal}
use Rattle.rest.proofs.Places.{place_sound}
use Rattle.rest.proofs.Laws.{rest_length}
use Rattle.rest.proofs.Exactly.{answer_cases, rest_4_to_7, rest_30, rest_written, rest_left}
use Rattle.night_slices.specs.Slices.{keeping, on_keep, keeping_of}

module _ (s : List ℕ) (u c : ℕ) where
  abbrev rest : List ℕ
  rest = rest_of s u c

  -- the rest of a session is no longer than the session
  fits : check_of s ≡ Ok tt → place_of s u ≤ length s → length rest ≤ length s
  unfolding rest_of
  fits h p = let e = rest_length s c (place_of s u) (place_sound s u h p) in omega arith

  -- so any buffer that holds the session will do
  same_answer : (b : List ℕ) → length s ≤ length b → rest_answer s u c b ≡ rest_answer s u c s
  same_answer b l =
      answer_cases s u c b (λ a. a ≡ rest_answer s u c s)
      (λ f e. sym ((rest_4_to_7 s u c s f).1 e))
      (λ e h. sym ((rest_30 s u c s).1 (e, h)))
      (λ e h k. let r = fits e h in absurd (let z : ⊥ = omega arith in z))
      (λ e h k. sym ((rest_written s u c s (length rest)).1 ((e, h, fits e h), refl)))

  -- a rest that was written: how long it is, and where it stands after it was copied to the session's front
  module _ (b : List ℕ) {n : ℕ} (e : rest_wrote n ≡ rest_answer s u c b) where
    pub written_fits : n ≤ length s
    written_fits =
        let w = (rest_written s u c b n).0 (sym e) in
        let h = fits w.0.0 w.0.1 in
        let k = w.1 in
        omega arith

    pub written_stands : (session : List ℕ) {b' session' : List ℕ} → b' ≡ rest_buffer s u c b
        → session' ≡ take n b' ++ drop (length (take n b')) session → take n session' ≡ rest
    written_stands session {b'} f g =
        let w = (rest_written s u c b n).0 (sym e) in
        let front : take n b' ≡ rest = ap (take n) (f ∙ rest_left s u c b w.0) ∙ take_at rest _ _ (sym w.1) in
        ap (take n) (g ∙ ap (λ (x : List ℕ). x ++ drop (length (take n b')) session) front) ∙ take_at rest _ _ (sym w.1)

  module _ (t : Told) where
    -- a refused run keeps the session
    pub keeps_refused : stops t.number ≡ false → keeping t s ≡ keeping_of t s u c
    unfolding keeping_of
    keeps_refused e = sym (passes _ _ e)

    -- a run that stopped keeps what crate rest says
    pub keeps_rest : stops t.number ≡ true → (b : List ℕ) → length s ≤ length b → (r : Result ℕ RestRefusal) → told_rest r ≡ rest_answer s u c b
        → on_keep t s rest (told_rest r) ≡ keeping_of t s u c
    unfolding keeping_of
    keeps_rest e b l r f = ap (on_keep t s rest) (f ∙ same_answer b l) ∙ sym (picks _ _ e)

-- the same, of a session that is the first so many bytes of its buffer
module _ (size : ℕ) (session spare : List ℕ) (h : size ≤ length session) (k : size ≤ length spare) (u c : ℕ) where
  abbrev had : List ℕ
  had = take size session

  short : length had ≤ length spare
  short = let l = length-take-le size session h in omega arith

  pub keeps_had : (t : Told) → stops t.number ≡ true → (r : Result ℕ RestRefusal) → told_rest r ≡ rest_answer had u c spare
      → on_keep t had (rest_of had u c) (told_rest r) ≡ keeping_of t had u c
  keeps_had t e r f = keeps_rest had u c t e spare short r f

  module _ {n : ℕ} (e : rest_wrote n ≡ rest_answer had u c spare) where
    pub written_size : n ≤ size
    written_size =
        let l = length-take-le size session h in
        let w = written_fits had u c spare e in
        omega arith

    -- it is within the buffer that it was written to, and there is room for it in the session's
    pub written_within : (spare' : List ℕ) → length spare' ≡ length spare → n ≤ length spare'
    written_within spare' f = let w = written_size in omega arith

    pub written_room : (spare' : List ℕ) → length (take n spare') ≤ length session
    written_room spare' = let w = written_size in let l = length-take n spare' in omega arith
