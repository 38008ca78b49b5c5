-- The area, STATE.area or a further file: it lies beside STATE, the names that a night commits along tell it, and it is not IMAGE, STATE, OUTPUT, SESSION,
-- STATE.rest or STATE.names.
-- Assumes nothing.
use Prim.Native.Nat.{ℕ, ◌+◌, ◌≤◌}
use native.Mathlib.Omega.{arith}
use mathlib.Core.Bool.{Bool, true, false, not, ◌&&◌, ◌||◌, true≢false}
use mathlib.Core.List.{List, [], ◌∷◌, ◌++◌}
use mathlib.Core.Logic.{◌≢◌}
use mathlib.Core.Path.{◌≡◌, refl, sym, ap, ◌∙◌}
use lib.Dec.{ltb}
use lib.ListN.{length, take, drop, get_or, length-append}
use lib.Seq.{take-append-le, drop-append_seam}
use borrow.Author.Tests.{not-true}
use Rattle.laws.proofs.Bools.{both, neither}
use Rattle.printing.specs.Printing.{ascii}
use Rattle.std.specs.Str.{bytes_eq}
use Rattle.night_arguments.specs.Arguments.{joined_of}
use Rattle.night_names.specs.Names.{last_at, folder_of, last_of, is_place, is_beside, is_with, is_of_state, is_read, are_names, parts_of, with_name, names_of, is_among, is_further, is_area}
use Rattle.night_names_theorems.proofs.Parts.{same_sound, same_self, last_kept, last_within}
use Rattle.night_names_theorems.proofs.Back.{joins, Sized, place_within, place_sized, Tells, two_sized, tells_two, tells_more}

-- one of two tests holds
either : {P : Type 0} (a b : Bool) → (a || b) ≡ true → (a ≡ true → P) → (b ≡ true → P) → P
either true b e f g = f refl
either false b e f g = g e

-- two names that are told apart are
apart : {a b : List ℕ} → bytes_eq a b ≡ false → a ≢ b
apart {a} {b} n e = true≢false (sym (same_self b) ∙ sym (ap (λ (x : List ℕ). bytes_eq x b) e) ∙ n)

module _ (state : List ℕ) (s : is_place state ≡ true) where
  -- STATE with an ending, which is short
  module _ (ending : List ℕ) (h : length ending ≤ 6) where
    ended : joined_of state ending 4096 ≡ state ++ ending
    ended = let w = (place_within state s).1 in joins state ending 4096 (omega arith)

    no_ending : (name : List ℕ) → is_with name state ending ≡ false → name ≢ state ++ ending
    unfolding is_with
    no_ending name n e = apart n (e ∙ sym ended)

    with_ending : (name : List ℕ) → is_with name state ending ≡ true → name ≡ state ++ ending
    unfolding is_with
    with_ending name e = same_sound name (joined_of state ending 4096) e ∙ ended

  -- none of STATE's names
  none_tests : (name : List ℕ) → is_of_state name state ≡ false
      → (name ≢ state) × (name ≢ state ++ ascii ".rest") × (name ≢ state ++ ascii ".names") × (name ≢ state ++ ascii ".area")
  unfolding is_of_state
  none_tests name n =
      let a = neither _ _ (neither _ _ (neither _ _ n).0).0 in
      let b = neither _ _ a.0 in
      let c = neither _ _ b.0 in (
        apart c.0,
        no_ending (ascii ".rest") (omega arith) name c.1,
        no_ending (ascii ".names") (omega arith) name b.1,
        no_ending (ascii ".area") (omega arith) name a.1,
      )

  -- STATE.area
  module _ (area : List ℕ) (e : area ≡ state ++ ascii ".area") where
    begins : last_at area ≡ last_at state
    unfolding last_at
    begins = ap last_at e ∙ last_kept state (ascii ".area") 0 0 (refl, (refl, (refl, (refl, (refl, tt)))))

    state_sized : Sized area
    state_sized =
        let w = place_within state s in
        let l : length area ≡ length state + 5 = ap length e ∙ length-append state (ascii ".area") in
        let b = begins in
        (omega (arith, l, b, w.0), omega (arith, l, w.1), omega (arith, l, b, w.0, w.2))

    state_beside : is_beside area state ≡ true
    unfolding is_beside
    state_beside =
        let f : folder_of area ≡ folder_of state =
        ap (λ (k : ℕ). take k area) begins ∙ ap (take (last_at state)) e ∙ take-append-le (last_at state) state (ascii ".area") (last_within state) in
        ap (λ (l : List ℕ). bytes_eq l (folder_of state)) f ∙ same_self (folder_of state)

    state_unlike : (ending : List ℕ) → ascii ".area" ≢ ending → area ≢ state ++ ending
    state_unlike ending n q =
        n (sym (drop-append_seam state (ascii ".area")) ∙ ap (drop (length state)) (sym e ∙ q) ∙ drop-append_seam state ending)

  -- a further file
  further_tests : (area session names : List ℕ) → is_further area session state names ≡ true
      → (is_place area ≡ true) × (is_beside area state ≡ true) × (is_of_state area state ≡ false) × (bytes_eq area session ≡ false)
      × (is_among (last_of area) (parts_of names) ≡ false)
  unfolding is_further
  further_tests area session names f =
      let a = both _ _ f in
      let b = both _ _ a.0 in
      let c = both _ _ b.0 in
      let d = both _ _ c.0 in
      (d.0, d.1, not-true _ c.1, not-true _ b.1, not-true _ a.1)

  module _ (area session names : List ℕ) (a : is_area area session state names ≡ true) where
    by_kind : {P : Type 0} → (area ≡ state ++ ascii ".area" → P) → (is_further area session state names ≡ true → P) → P
    unfolding is_area
    by_kind f g = either (is_with area state (ascii ".area")) (is_further area session state names) a (λ w. f (with_ending (ascii ".area") (omega arith) area w)) g

    pub area_sized : Sized area
    area_sized = by_kind (λ e. state_sized area e) (λ f. place_sized area (further_tests area session names f).0)

    pub area_beside : is_beside area state ≡ true
    area_beside = by_kind (λ e. state_beside area e) (λ f. (further_tests area session names f).1)

-- a night's names
module _ (image session state output : List ℕ) (n : are_names image session state output ≡ true) where
  names_tests :
      (is_place image ≡ true) × (is_place state ≡ true) × (is_place output ≡ true) × (is_of_state image state ≡ false) × (is_of_state output state ≡ false)
      × (is_read session image state output ≡ true)
  unfolding are_names
  names_tests =
      let a = both _ _ n in
      let b = both _ _ a.0 in
      let c = both _ _ b.0 in
      let d = both _ _ c.0 in
      let e = both _ _ d.0 in
      let f = both _ _ e.0 in
      let g = both _ _ f.0 in
      let h = both _ _ g.0 in
      (h.0, h.1, g.1, not-true _ d.1, not-true _ c.1, a.1)

  state_place : is_place state ≡ true
  state_place = names_tests.1

  -- SESSION is none of them, or STATE.rest
  session_tests : {P : Type 0} → (is_of_state session state ≡ false → P) → (session ≡ state ++ ascii ".rest" → P) → P
  unfolding is_read
  session_tests f g =
      let named = (ltb 0 (length session) && not (bytes_eq session image)) && not (bytes_eq session output) in
      let free = not (is_of_state session state) in
      let rest = is_with session state (ascii ".rest") in
      either free rest (both named (free || rest) names_tests.5).1 (λ w. f (not-true _ w))
      (λ w. g (with_ending state state_place (ascii ".rest") (omega arith) session w))

  module _ (area : List ℕ) (a : is_area area session state (names_of image output 4096) ≡ true) where
    told : Tells (names_of image output 4096) (image ∷ output ∷ [])
    told = tells_two image output names_tests.0 names_tests.2

    pub tells_three : Tells (with_name (names_of image output 4096) area 4096) (image ∷ output ∷ area ∷ [])
    tells_three =
        let h = two_sized image output names_tests.0 names_tests.2 in
        tells_more (names_of image output 4096) area (omega arith) (area_sized state state_place area session (names_of image output 4096) a) (image ∷ output ∷ []) told

    abbrev pub Apart : Type 0
    Apart =
        (area ≢ image) × (area ≢ output) × (area ≢ session) × (area ≢ state) × (area ≢ state ++ ascii ".rest") × (area ≢ state ++ ascii ".names")

    pub area_apart : Apart
    area_apart = by_kind state state_place area session (names_of image output 4096) a of_state further
      where
        none : (name : List ℕ) → area ≡ state ++ ascii ".area" → is_of_state name state ≡ false → area ≢ name
        none name e n q = (none_tests state state_place name n).3 (sym q ∙ e)

        rest : ascii ".area" ≢ ascii ".rest"
        rest q = let k : ◌≡◌ {A = ℕ} 97 114 = ap (λ (l : List ℕ). get_or l 1 0) q in omega arith

        names : ascii ".area" ≢ ascii ".names"
        names q = let k : ◌≡◌ {A = ℕ} 97 110 = ap (λ (l : List ℕ). get_or l 1 0) q in omega arith

        longer : area ≡ state ++ ascii ".area" → area ≢ state
        longer e q = let k : length state + 5 ≡ length state = sym (length-append state (ascii ".area")) ∙ ap length (sym e ∙ q) in omega arith

        of_state : area ≡ state ++ ascii ".area" → Apart
        of_state e = (
          none image e names_tests.3,
          none output e names_tests.4,
          session_tests (none session e) (λ r q. state_unlike state state_place area e (ascii ".rest") rest (q ∙ r)),
          longer e,
          state_unlike state state_place area e (ascii ".rest") rest,
          state_unlike state state_place area e (ascii ".names") names,
        )

        further : is_further area session state (names_of image output 4096) ≡ true → Apart
        further f =
            let t = further_tests state state_place area session (names_of image output 4096) f in
            let u = none_tests state state_place area t.2 in
            let v = neither _ _ (sym (ap (is_among (last_of area)) told.0) ∙ t.4) in (
              (λ q. apart v.0 (ap last_of q)),
              (λ q. apart (neither _ _ v.1).0 (ap last_of q)),
              apart t.3,
              u.0,
              u.1,
              u.2,
            )
