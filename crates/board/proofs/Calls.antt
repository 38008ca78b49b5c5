-- The ways that a C run can end, plain or watched, as laws over plain variables. Assumes nothing.
use Rattle.std.specs.Prelude.{Result}
use Prim.Native.Nat.{ℕ, ◌≤◌, ◌<◌}
use mathlib.Core.Bool.{Bool, true, false}
use mathlib.Core.List.{List}
use mathlib.Core.Option.{none}
use mathlib.Core.Path.{◌≡◌, sym, ap, ◌∙◌}
use lib.Dec.{ltb}
use lib.ListN.{length}
use borrow.Author.Tests.{eq-eqb, lt-ltb, le-ltb}
use Rattle.laws.proofs.Conds.{picks, passes}
use Rattle.laws.proofs.Lists.{no_bytes}
use Rattle.numbers.specs.Numbers.{over}
use Rattle.replies.specs.Replies.{told, told_reply}
use Rattle.machine.specs.declared.Machine.{Machine}
use Rattle.boundary.specs.declared.Watch.{Watch}
use Rattle.boundary.specs.World.{Lent, lent, lending, Terms, terms, watching, unwatched}
use Rattle.cabinet.specs.declared.Leapt.{Leapt}
use Rattle.cabinet.specs.Answers.{Answer, answered, answer_of, leaps_of}
use Rattle.saved.specs.declared.LoadRefusal.{LoadRefusal}
use Rattle.saved.specs.Layout.{saved_of}
use Rattle.asking.specs.Asking.{gives}
use Rattle.saved.specs.Answers.{left_of, told_loaded, load_of}
use Rattle.saved.proofs.Exactly.{load_gives}
use Rattle.board_numbers.specs.Watch.{asks_log, unknown_bits}
use Rattle.board_results.specs.Results.{no_counts, record_size, record_bytes, unfit_reply}
use Rattle.board.specs.Board.{Buffers, buffers, Called, called, counts_of, reported, refused_call, on_load, run_call, watch_call}

module _ (leaping : Bool) (t : Terms) (b : Buffers) where
  pub run_short : {size : ℕ} → size ≡ record_size leaping → length b.result < size → called 29 b ≡ run_call leaping t b
  unfolding run_call
  run_short e h = sym (picks _ _ (ap (ltb (length b.result)) (sym e) ∙ lt-ltb _ _ h))

  -- what loading answers decides
  pub on_loaded : {size : ℕ} → size ≡ record_size leaping → size ≤ length b.result → {a : Result Machine LoadRefusal} → told_loaded a ≡ load_of b.machine
      → (l : Result Machine LoadRefusal) → a ≡ l → on_load leaping t b (told_loaded l) ≡ run_call leaping t b
  unfolding run_call
  on_loaded s h e l f =
      sym (passes _ _ (ap (ltb (length b.result)) (sym s) ∙ le-ltb _ _ h) ∙ ap (on_load leaping t b) (sym e ∙ ap told_loaded f))

  -- a machine outside its ranges
  pub refused_2 : {k : ℕ} {r : List ℕ} → k ≡ unfit_reply b.lent.image b.lent.area → r ≡ over (record_bytes leaping (told k none) no_counts 0) b.result
      → called k (buffers b.machine b.lent r) ≡ refused_call leaping b 2
  refused_2 {k} e f =
      ap (λ (r : List ℕ). called k (buffers b.machine b.lent r)) f
      ∙ ap (λ (k : ℕ). reported leaping (told k none) no_counts 0 b) e

  -- a machine that ran: what is saved and reported of an answer and its leaps
  abbrev told_of : Answer → ℕ → Called
  told_of x leaps = reported leaping x.reply (counts_of x) leaps (buffers (saved_of x.machine) x.lent b.result)

  pub ran_left : (m : Machine) (p : Leapt) {k : ℕ} {l : Lent} {s r : List ℕ} → load_of b.machine ≡ gives m
      → (answered p.ran l ≡ answer_of t m b.lent) × (p.leaps.0 ≡ leaps_of t m b.lent)
      → s ≡ left_of p.ran.machine b.machine
      → (k ≡ (told_reply p.ran.reply).number)
      × (r ≡ over (record_bytes leaping (told_reply p.ran.reply) p.ran.counts p.leaps.0) b.result)
      → called k (buffers s l r) ≡ on_load leaping t b (gives m)
  ran_left m p {k} {l} {s} {r} g a d e =
      let n = told_reply p.ran.reply in
      let long = ((load_gives b.machine m).0 g).0 in
      let kept = saved_of p.ran.machine in
      ap (λ (k : ℕ). called k (buffers s l r)) e.0
      ∙ ap (λ (s : List ℕ). called n.number (buffers s l r)) (d ∙ picks _ _ (eq-eqb _ _ long))
      ∙ ap (λ (r : List ℕ). called n.number (buffers kept l r)) e.1
      ∙ ap (λ (x : Answer). told_of x p.leaps.0) a.0
      ∙ ap (told_of (answer_of t m b.lent)) a.1

module _ (leaping : Bool) (session : List ℕ) (n : ℕ) (b : Buffers) where
  -- nothing is watched, and there is no log
  pub plain_left : {watch : Watch} {k : ℕ} {machine image area output log result : List ℕ} → watch ≡ unwatched → length log ≡ 0
      → called k (buffers machine (lending image area output log) result) ≡ run_call leaping (watching session n watch) b
      → called k (buffers machine (lent image area output) result) ≡ run_call leaping (terms session n) b
  plain_left {watch} {k} {machine} {image} {area} {output} {log} {result} u h e =
      ap (λ (l : List ℕ). called k (buffers machine (lending image area output l) result)) (sym (no_bytes log h))
      ∙ e
      ∙ ap (λ (w : Watch). run_call leaping (watching session n w) b) u

  pub watch_unknown : (bits since : ℕ) {unknown : Bool} → unknown ≡ unknown_bits bits → unknown ≡ true
      → called 36 b ≡ watch_call leaping session n bits since b
  unfolding watch_call
  watch_unknown bits since e h = sym (picks _ _ (sym e ∙ h))

  pub watch_known : (bits since : ℕ) {unknown log : Bool} {c : Called} → unknown ≡ unknown_bits bits → unknown ≡ false → log ≡ asks_log bits
      → c ≡ run_call leaping (watching session n (record { log = log; since = record { 0 = since } })) b
      → c ≡ watch_call leaping session n bits since b
  unfolding watch_call
  watch_known bits since e h f g =
      g
      ∙ ap (λ (log : Bool). run_call leaping (watching session n (record { log = log; since = record { 0 = since } })) b) f
      ∙ sym (passes _ _ (sym e ∙ h))
