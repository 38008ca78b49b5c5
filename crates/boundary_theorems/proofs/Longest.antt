-- The longest stretches of a list of marks are the groups that are stretches. Assumes nothing.
use mathlib.Core.Path.{◌≡◌, refl, sym, ap, subst, ◌∙◌}
use mathlib.Core.Logic.{◌↔◌}
use mathlib.Core.Bool.{Bool, true, false, ◌&&◌, true≢false}
use mathlib.Core.List.{List, [], ◌∷◌, ◌++◌, append_assoc, append-nil, nil≢cons, cons≢nil, head-eq_of_cons-eq}
use Rattle.laws.proofs.Bools.{both}
use Rattle.laws.proofs.Conds.{picks, passes}
use Rattle.boundary_theorems.specs.Trace.{TraceMark, waits, quiet, every, is_stretch, joins, groups, flat, Longest, Group}
use Rattle.boundary_theorems.proofs.Stretches.{Proper, last_of, Cut, groups_split, neighbours, front}

not_true : (b : Bool) → (b ≡ true → ⊥) → b ≡ false
not_true true h = absurd (h refl)
not_true false h = refl

-- the last mark of a list, and those before it
record LastMark (ms : List TraceMark) : Type 0 where
  init : List TraceMark
  last : TraceMark
  parts : ms ≡ init ++ last ∷ []

last_mark : (m : TraceMark) (ms : List TraceMark) → LastMark (m ∷ ms)
last_mark m [] = record { init = []; last = m; parts = refl }
last_mark m (x ∷ ms) =
    let e = last_mark x ms in
    record { init = m ∷ e.init; last = e.last; parts = ap (λ (l : List TraceMark). m ∷ l) e.parts }

last_append : (xs : List TraceMark) (y : TraceMark) (ys : List TraceMark) → last_of (xs ++ y ∷ ys) ≡ last_of (y ∷ ys)
last_append [] y ys = refl
last_append (x ∷ []) y ys = refl
last_append (x ∷ z ∷ xs) y ys = last_append (z ∷ xs) y ys

last_is : {ms : List TraceMark} (e : LastMark ms) → last_of ms ≡ e.last ∷ []
last_is e = ap last_of e.parts ∙ last_append e.init e.last []

-- a stretch less its first mark, and with one more before it
stretch_rest : (m y : TraceMark) (p : List TraceMark) → is_stretch (m ∷ y ∷ p) ≡ true → is_stretch (y ∷ p) ≡ true
stretch_rest m y p e =
    let f = both (quiet y) (every quiet p) (both (waits m) (every quiet (y ∷ p)) e).1 in
    rw (both (waits y) _ f.0).0 f.1

stretch_on : (m y : TraceMark) (p : List TraceMark) → is_stretch (m ∷ y ∷ []) ≡ true → is_stretch (y ∷ p) ≡ true → is_stretch (m ∷ y ∷ p) ≡ true
stretch_on m y p e f =
    let a = both (waits m) (quiet y && true) e in
    rw (a.0, (both (quiet y) true a.1).0) (both (waits y) (every quiet p) f).1

-- a stretch at the front with which the mark after it makes no stretch is the first group
groups_front : (m : TraceMark) (p after : List TraceMark) → is_stretch (m ∷ p) ≡ true
    → ((x : TraceMark) (d : List TraceMark) → after ≡ x ∷ d → is_stretch ((m ∷ p) ++ x ∷ []) ≡ true → ⊥)
    → groups ((m ∷ p) ++ after) ≡ (m ∷ p) ∷ groups after
groups_front m [] [] s h = refl
groups_front m [] (x ∷ d) s h =
    let f = front x d in
    ap (joins m) f.groups_are
    ∙ passes _ _ (not_true (is_stretch (m ∷ x ∷ [])) (h x d refl))
    ∙ ap (λ (gs : List (List TraceMark)). (m ∷ []) ∷ gs) (sym f.groups_are)
groups_front m (y ∷ p) after s h =
    let two = neighbours [] m y p s in
    ap (joins m) (groups_front y p after (stretch_rest m y p s) (λ x d e t. h x d e (stretch_on m y (p ++ x ∷ []) two t)))
    ∙ picks _ _ two

-- one more mark before a group
group_next : (z : TraceMark) (before : List TraceMark) (m : TraceMark) (p after : List TraceMark) → Longest (z ∷ before) (m ∷ p) after → Group before (m ∷ p) after
    → Group (z ∷ before) (m ∷ p) after
group_next z before m p after l i = by i.earlier i.cut i.before_it
  where
    group : (gs : List (List TraceMark)) → groups ((z ∷ before) ++ (m ∷ p) ++ after) ≡ gs ++ (m ∷ p) ∷ i.later → flat gs ≡ z ∷ before
        → Group (z ∷ before) (m ∷ p) after
    group gs e f = record { earlier = gs; later = i.later; cut = e; before_it = f; after_it = i.after_it }

    by : (gs : List (List TraceMark)) → groups (before ++ (m ∷ p) ++ after) ≡ gs ++ (m ∷ p) ∷ i.later → flat gs ≡ before
        → Group (z ∷ before) (m ∷ p) after
    by [] e f =
        let alone : is_stretch (z ∷ m ∷ []) ≡ true → ⊥ =
        λ t. cons≢nil (l.alone [] (z ∷ []) [] after (ap (λ (k : List TraceMark). z ∷ k) (sym f)) refl
        (subst (λ (k : List TraceMark). is_stretch (z ∷ m ∷ k) ≡ true) (sym (append-nil p)) (stretch_on z m p t l.stretch))).0 in
        group ((z ∷ []) ∷ []) (ap (joins z) e ∙ passes _ _ (not_true (is_stretch (z ∷ m ∷ [])) alone)) (ap (λ (k : List TraceMark). z ∷ k) f)
    by ([] ∷ gs) e f = group ((z ∷ []) ∷ gs) (ap (joins z) e) (ap (λ (k : List TraceMark). z ∷ k) f)
    by ((x ∷ g) ∷ gs) e f = on (is_stretch (z ∷ x ∷ [])) refl
      where
        on : (b : Bool) → is_stretch (z ∷ x ∷ []) ≡ b → Group (z ∷ before) (m ∷ p) after
        on true t = group ((z ∷ x ∷ g) ∷ gs) (ap (joins z) e ∙ picks _ _ t) (ap (λ (k : List TraceMark). z ∷ k) f)
        on false t = group ((z ∷ []) ∷ (x ∷ g) ∷ gs) (ap (joins z) e ∙ passes _ _ t) (ap (λ (k : List TraceMark). z ∷ k) f)

-- a longest stretch is a group
group_of : (before : List TraceMark) (m : TraceMark) (p after : List TraceMark) → Longest before (m ∷ p) after → Group before (m ∷ p) after
group_of [] m p after l =
    record {
      earlier = [];
      later = groups after;
      cut = groups_front m p after l.stretch (λ x d e t. cons≢nil (l.alone [] [] (x ∷ []) d refl e t).1);
      before_it = refl;
      after_it = (groups_split after).flattened;
    }
group_of (z ∷ before) m p after l =
    group_next z before m p after l
    (group_of before m p after
    (record { stretch = l.stretch; alone = λ a b c d e f t. l.alone (z ∷ a) b c d (ap (λ (k : List TraceMark). z ∷ k) e) f t }))

-- the marks on both sides of a cut
proper_rest : (g : List TraceMark) (gs : List (List TraceMark)) → Proper (g ∷ gs) → Proper gs
proper_rest [] gs h = absurd h
proper_rest (m ∷ []) gs h = h
proper_rest (m ∷ x ∷ g) gs h = h.1

module _ (m : TraceMark) (p : List TraceMark) (hs : List (List TraceMark)) where
  abbrev from : List (List TraceMark)
  from = (m ∷ p) ∷ hs

  proper_from : (gs : List (List TraceMark)) → Proper (gs ++ from) → Proper from
  proper_from [] h = h
  proper_from (g ∷ gs) h = proper_from gs (proper_rest g (gs ++ from) h)

  cut_from : (gs : List (List TraceMark)) → Cut (gs ++ from) → Cut from
  cut_from [] h = h
  cut_from (g ∷ []) h = h.1
  cut_from (g ∷ k ∷ gs) h = cut_from (k ∷ gs) h.1

  cut_before : (gs : List (List TraceMark)) → Proper (gs ++ from) → Cut (gs ++ from) → (z : TraceMark) → last_of (flat gs) ≡ z ∷ []
      → is_stretch (z ∷ m ∷ []) ≡ false
  cut_before [] h c z e = absurd (nil≢cons e)
  cut_before (g ∷ []) h c z e = subst (λ (l : List TraceMark). is_stretch (l ++ m ∷ []) ≡ false) (ap last_of (sym (append-nil g)) ∙ e) c.0
  cut_before (g ∷ [] ∷ gs) h c z e = absurd (proper_rest g ([] ∷ (gs ++ from)) h)
  cut_before (g ∷ (x ∷ k) ∷ gs) h c z e =
      cut_before ((x ∷ k) ∷ gs) (proper_rest g ((x ∷ k) ∷ (gs ++ from)) h) c.1 z (sym (last_append g x (k ++ flat gs)) ∙ e)

cut_after : (g : List TraceMark) (hs : List (List TraceMark)) → Proper hs → Cut (g ∷ hs) → (x : TraceMark) (d : List TraceMark) → flat hs ≡ x ∷ d
    → is_stretch (last_of g ++ x ∷ []) ≡ false
cut_after g [] h c x d e = absurd (nil≢cons e)
cut_after g ([] ∷ hs) h c x d e = absurd h
cut_after g ((y ∷ k) ∷ hs) h c x d e = subst (λ (z : TraceMark). is_stretch (last_of g ++ z ∷ []) ≡ false) (head-eq_of_cons-eq e) c.0

-- a group that is a stretch is a longest one
module _ (before : List TraceMark) (m : TraceMark) (p after : List TraceMark) (s : is_stretch (m ∷ p) ≡ true) (g : Group before (m ∷ p) after) where
  abbrev all : List (List TraceMark)
  all = g.earlier ++ (m ∷ p) ∷ g.later

  proper : Proper all
  proper = subst Proper g.cut (groups_split (before ++ (m ∷ p) ++ after)).proper

  cuts : Cut all
  cuts = subst Cut g.cut (groups_split (before ++ (m ∷ p) ++ after)).cut

  none_before : (a b c : List TraceMark) → before ≡ a ++ b → is_stretch (b ++ (m ∷ p) ++ c) ≡ true → b ≡ []
  none_before a [] c e t = refl
  none_before a (y ∷ ys) c e t =
      let k = last_mark y ys in
      let apart : is_stretch (k.last ∷ m ∷ []) ≡ false =
      cut_before m p g.later g.earlier proper cuts k.last (ap last_of (g.before_it ∙ e) ∙ last_append a y ys ∙ last_is k) in
      let same : (y ∷ ys) ++ (m ∷ p) ++ c ≡ k.init ++ k.last ∷ m ∷ (p ++ c) =
      ap (λ (l : List TraceMark). l ++ (m ∷ p) ++ c) k.parts
      ∙ ap (λ (l : List TraceMark). l ++ c) (append_assoc k.init (k.last ∷ []) (m ∷ p))
      ∙ append_assoc k.init (k.last ∷ m ∷ p) c in
      absurd (true≢false (sym (neighbours k.init k.last m (p ++ c) (ap is_stretch (sym same) ∙ t)) ∙ apart))

  none_after : (b c d : List TraceMark) → after ≡ c ++ d → is_stretch (b ++ (m ∷ p) ++ c) ≡ true → c ≡ []
  none_after b [] d e t = refl
  none_after b (x ∷ c) d e t =
      let k = last_mark m p in
      let apart : is_stretch (k.last ∷ x ∷ []) ≡ false =
      subst (λ (l : List TraceMark). is_stretch (l ++ x ∷ []) ≡ false) (last_is k)
      (cut_after (m ∷ p) g.later (proper_rest (m ∷ p) g.later (proper_from m p g.later g.earlier proper))
      (cut_from m p g.later g.earlier cuts) x (c ++ d) (g.after_it ∙ e)) in
      let same : b ++ (m ∷ p) ++ x ∷ c ≡ (b ++ k.init) ++ k.last ∷ x ∷ c =
      ap (λ (l : List TraceMark). b ++ l ++ x ∷ c) k.parts
      ∙ ap (λ (l : List TraceMark). l ++ x ∷ c) (sym (append_assoc b k.init (k.last ∷ [])))
      ∙ append_assoc (b ++ k.init) (k.last ∷ []) (x ∷ c) in
      absurd (true≢false (sym (neighbours (b ++ k.init) k.last x c (ap is_stretch (sym same) ∙ t)) ∙ apart))

-- "A leap is a longest stretch": these are the groups that are stretches, which `stretches_of` counts
pub longest_groups : (before part after : List TraceMark) → Longest before part after ↔ ((is_stretch part ≡ true) × Group before part after)
longest_groups before [] after = (λ l. absurd (true≢false (sym l.stretch)), λ h. absurd (true≢false (sym h.0)))
longest_groups before (m ∷ p) after = (
  (λ l. (l.stretch, group_of before m p after l)),
  (λ h.
      record {
        stretch = h.0;
        alone = λ a b c d e f t. (none_before before m p after h.0 h.1 a b c e t, none_after before m p after h.0 h.1 b c d f t);
      }),
)
