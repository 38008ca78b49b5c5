-- By the names that a night commits along, a recovery that has the same STATE folder finds that night's IMAGE, OUTPUT and further files; and what
-- stands in STATE.done/ for one place is put at no other. Assumes nothing.
use Prim.Native.Nat.{ℕ, zero, suc, ◌+◌, ◌-◌, ◌≤◌, ◌<◌}
use native.Mathlib.Nat.{le_of_suc-le-suc}
use native.Mathlib.Numerals.{add-one}
use native.Mathlib.Omega.{arith}
use mathlib.Core.Bool.{Bool, true, ◌&&◌}
use mathlib.Core.List.{List, [], ◌∷◌, ◌++◌}
use mathlib.Core.Path.{◌≡◌, refl, sym, ap, ◌∙◌}
use lib.Dec.{ltb, leb}
use lib.ListN.{length, drop, get_or, length-append, length-drop, take-append-drop}
use lib.Seq.{length-take-le, drop_at}
use borrow.Author.Tests.{le-ltb, lt-ltb, le-leb, ltb-true, leb-true}
use Rattle.laws.proofs.Bools.{both}
use Rattle.laws.proofs.Conds.{picks, passes}
use Rattle.night_arguments.specs.Arguments.{joined_of}
use Rattle.night_names.specs.Names.{last_at, folder_of, last_of, is_place, is_beside, parts_of, with_name, names_of, name_at, files_of, none_empty, are_recorded, named_place, place_of, work_of}
use Rattle.night_names_theorems.proofs.Parts.{same_sound, last_plain, last_within, glued, cut_joined, uncut}

pub joins : (a b : List ℕ) (room : ℕ) → length a + length b ≤ room → joined_of a b room ≡ a ++ b
unfolding joined_of
joins a b room h = passes _ _ (le-ltb _ _ h)

-- a file's name: its last part is there, and it is no longer than a place with `.area`
abbrev pub Sized : List ℕ → Type 0
Sized name = (last_at name < length name) × (length name ≤ 3838) × (length name - last_at name ≤ 254)

pub place_within : (name : List ℕ) → is_place name ≡ true → (last_at name < length name) × (length name ≤ 3833) × (length name - last_at name ≤ 249)
unfolding is_place
place_within name p =
    let u = both (ltb (last_at name) (length name) && leb (length name) 3833) (leb (length name - last_at name) 249) p in
    let v = both (ltb (last_at name) (length name)) (leb (length name) 3833) u.0 in
    (ltb-true _ _ v.0, leb-true _ _ v.1, leb-true _ _ u.1)

pub place_sized : (name : List ℕ) → is_place name ≡ true → Sized name
place_sized name p = let w = place_within name p in (w.0, omega (arith, w.1), omega (arith, w.2))

part_sized : (name : List ℕ) → length (last_of name) ≡ length name - last_at name
part_sized name = length-drop (last_at name) name

-- a name's folder and its last part are the name
whole : (name state : List ℕ) → length name ≤ 4096 → is_beside name state ≡ true → joined_of (folder_of state) (last_of name) 4096 ≡ name
unfolding is_beside
whole name state h q =
    let i = last_within name in
    let k = length-take-le (last_at name) name i in
    let l = length-drop (last_at name) name in
    ap (λ (f : List ℕ). joined_of f (last_of name) 4096) (sym (same_sound (folder_of name) (folder_of state) q))
    ∙ joins (folder_of name) (last_of name) 4096 (omega arith) ∙ take-append-drop (last_at name) name

-- The names that a night commits along tell its files: they are the last parts of these, in this order, and none is too long. First IMAGE and OUTPUT,
-- then the further files.
abbrev pub lasts : List (List ℕ) → List (List ℕ)
lasts [] = []
lasts (f ∷ fs) = last_of f ∷ lasts fs

abbrev pub AllSized : List (List ℕ) → Type 0
AllSized [] = Unit
AllSized (f ∷ fs) = Sized f × AllSized fs

abbrev pub Tells : List ℕ → List (List ℕ) → Type 0
Tells names files = (parts_of names ≡ lasts files) × AllSized files

-- a further file's name comes after those that stand
module _ (names file : List ℕ) (h : length names ≤ 3841) (p : Sized file) where
  with_name_lem : with_name names file 4096 ≡ names ++ 47 ∷ last_of file
  unfolding with_name
  with_name_lem =
      let s = p.2 in
      let k = part_sized file in
      let m = length-append names (47 ∷ []) in
      ap (λ (f : List ℕ). joined_of f (last_of file) 4096) (joins names (47 ∷ []) 4096 (omega arith))
      ∙ joins (names ++ 47 ∷ []) (last_of file) 4096 (omega arith) ∙ sym (glued names (last_of file))

  pub with_sized : length (with_name names file 4096) ≤ length names + 255
  with_sized =
      let e = ap length with_name_lem in
      let s = p.2 in
      let k = part_sized file in
      let m = length-append names (47 ∷ last_of file) in
      let o = add-one (length (last_of file)) in
      omega arith

  with_parts : parts_of (with_name names file 4096) ≡ parts_of names ++ last_of file ∷ []
  with_parts =
      ap parts_of with_name_lem ∙ cut_joined names (last_of file) ∙ ap (λ (ps : List (List ℕ)). parts_of names ++ ps) (uncut (last_of file) (last_plain file))

  pub tells_more : (files : List (List ℕ)) → Tells names files → Tells (with_name names file 4096) (files ++ file ∷ [])
  tells_more files t = (with_parts ∙ ap (λ (ps : List (List ℕ)). ps ++ last_of file ∷ []) t.0 ∙ after files, all files t.1)
    where
      after : (fs : List (List ℕ)) → lasts fs ++ last_of file ∷ [] ≡ lasts (fs ++ file ∷ [])
      after [] = refl
      after (f ∷ fs) = ap (λ (ps : List (List ℕ)). last_of f ∷ ps) (after fs)

      all : (fs : List (List ℕ)) → AllSized fs → AllSized (fs ++ file ∷ [])
      all [] q = (p, tt)
      all (f ∷ fs) q = (q.0, all fs q.1)

module _ (image output : List ℕ) (p : is_place image ≡ true) (q : is_place output ≡ true) where
  short : length (last_of image) ≤ 254
  short = let s = (place_sized image p).2 in let k = part_sized image in omega arith

  pub two_sized : length (names_of image output 4096) ≤ 509
  unfolding names_of
  two_sized = let h = short in let k = with_sized (last_of image) output (omega arith) (place_sized output q) in omega arith

  pub tells_two : Tells (names_of image output 4096) (image ∷ output ∷ [])
  unfolding names_of
  tells_two =
      tells_more (last_of image) output (let h = short in omega arith) (place_sized output q) (image ∷ [])
      (uncut (last_of image) (last_plain image), (place_sized image p, tt))

-- a call in the same folder finds each file's place, and takes the names
module _ (names : List ℕ) (files : List (List ℕ)) (t : Tells names files) where
  file_at : (k : ℕ) (fs : List (List ℕ)) → AllSized fs → k < length fs → Sized (get_or fs k []) × (get_or (lasts fs) k [] ≡ last_of (get_or fs k []))
  file_at k [] q h = absurd (none_less h)
    where
      none_less : k < 0 → ⊥
      none_less g = omega arith
  file_at zero (f ∷ fs) q h = (q.0, refl)
  file_at (suc k) (f ∷ fs) q h = file_at k fs q.1 (le_of_suc-le-suc h)

  module _ (state : List ℕ) where
    named_back : (k : ℕ) → k < length files → is_beside (get_or files k []) state ≡ true → named_place k state names 4096 ≡ get_or files k []
    unfolding named_place name_at
    named_back k h e =
        let f = file_at k files t.1 h in
        ap (λ (n : List ℕ). joined_of (folder_of state) n 4096) (ap (λ (ps : List (List ℕ)). get_or ps k []) t.0 ∙ f.1)
        ∙ whole (get_or files k []) state (let s = f.0.1 in omega arith) e

    pub image_back : 0 < length files → is_beside (get_or files 0 []) state ≡ true → place_of 0 state names 4096 ≡ get_or files 0 []
    unfolding place_of
    image_back h e = named_back 0 h e

    pub output_back : 1 < length files → is_beside (get_or files 1 []) state ≡ true → place_of 3 state names 4096 ≡ get_or files 1 []
    unfolding place_of
    output_back h e = named_back 1 h e

    pub further_back : (k : ℕ) → 2 ≤ k → k < length files → is_beside (get_or files k []) state ≡ true → place_of (k + 3) state names 4096 ≡ get_or files k []
    unfolding place_of
    further_back k g h e =
        let i : k + 3 - 3 ≡ k = omega arith in
        picks _ _ (lt-ltb 4 (k + 3) (omega arith)) ∙ ap (λ (j : ℕ). named_place j state names 4096) i ∙ named_back k h e

  pub files_back : length files ≤ 251 → files_of names ≡ length files + 3
  unfolding files_of
  files_back h =
      let e : length (parts_of names) ≡ length files = ap length t.0 ∙ count files in
      passes _ _ (le-ltb 251 (length (parts_of names)) (omega arith)) ∙ ap (λ (k : ℕ). k + 3) e
    where
      count : (fs : List (List ℕ)) → length (lasts fs) ≡ length fs
      count [] = refl
      count (f ∷ fs) = ap suc (count fs)

  pub taken_back : 2 ≤ length files → length files ≤ 251 → are_recorded names ≡ true
  unfolding are_recorded
  taken_back g h =
      let e = files_back h in
      rw (le-leb 5 (files_of names) (omega arith), le-leb (files_of names) 254 (omega arith), t.0) (whole_parts files t.1)
    where
      whole_parts : (fs : List (List ℕ)) → AllSized fs → none_empty (lasts fs) ≡ true
      whole_parts [] q = refl
      whole_parts (f ∷ fs) q =
          let s = q.0.0 in
          let k = part_sized f in
          ap (λ (b : Bool). b && none_empty (lasts fs)) (lt-ltb 0 (length (last_of f)) (omega arith)) ∙ whole_parts fs q.1

-- two places in STATE's folder for which one file of STATE.night/ or STATE.done/ stands are one place
module _ (state folder : List ℕ) (h : length state + length folder ≤ 3840) where
  worked : (p : List ℕ) → length (last_of p) ≤ 255 → work_of state folder p 4096 ≡ (state ++ folder) ++ last_of p
  unfolding work_of
  worked p k =
      let m = length-append state folder in
      ap (λ (f : List ℕ). joined_of f (last_of p) 4096) (joins state folder 4096 (omega arith)) ∙ joins (state ++ folder) (last_of p) 4096 (omega arith)

  pub one_place : (p q : List ℕ) → length p ≤ 4096 → length q ≤ 4096 → length (last_of p) ≤ 255 → length (last_of q) ≤ 255
      → is_beside p state ≡ true → is_beside q state ≡ true → work_of state folder p 4096 ≡ work_of state folder q 4096 → p ≡ q
  one_place p q a b j k c d e =
      let f = state ++ folder in
      let same : last_of p ≡ last_of q =
      sym (drop_at f (last_of p) (length f) refl)
      ∙ ap (drop (length f)) (sym (worked p j) ∙ e ∙ worked q k) ∙ drop_at f (last_of q) (length f) refl in
      sym (whole p state a c) ∙ ap (λ (l : List ℕ). joined_of (folder_of state) l 4096) same ∙ whole q state b d
