-- The law of one slice: the run's answer, the session that was kept and the sums, put together. Assumes nothing.
use Rattle.std.proofs.Common.{◌≡◌, ℕ, ◌+◌, ◌-◌, ◌<◌, ◌≤◌, List, ◌++◌, length, take, drop, sym, ap, ◌∙◌, subst, append-nil, le_of_eq, arith, length-drop, drop_of_length-le}
use Rattle.replies.specs.Replies.{told_reply}
use Rattle.boundary.specs.World.{Lent, lending, with_output, with_log, Terms, watching, later, logged_bytes}
use Rattle.cabinet.specs.declared.Leapt.{Leapt}
use Rattle.cabinet.specs.Answers.{Answer, answered, answer_of, leaps_of}
use Rattle.cabinet_theorems.proofs.Left.{output_left, log_left}
use Rattle.night_slices.specs.declared.Kept.{Kept}
use Rattle.night_slices.specs.declared.Night.{Night}
use Rattle.night_slices.specs.Slices.{slice_cycles, Standing, round_sum, Keeping, keeping_of, after_of, slice_of, kept, standing, next_of}

-- a list whose end from a place on was changed
pub put_end : (k : ℕ) (s t : List ℕ) → take k s ++ (t ++ drop (length s - k) (drop k s)) ≡ take k s ++ t
put_end k s t =
    ap (λ (l : List ℕ). take k s ++ (t ++ l)) (drop_of_length-le (drop k s) (le_of_eq (length-drop k s)))
    ∙ ap (λ (l : List ℕ). take k s ++ l) (append-nil t)

-- what a slice's answer, its leaps and what was kept make of a night
abbrev with_kept : Standing → Answer → ℕ → Keeping → Standing
with_kept s a leaps k =
    record {
      told = k.told;
      machine = a.machine;
      lent = with_log (with_output a.lent (take s.sent s.lent.output ++ a.lent.output)) (take s.logged s.lent.log ++ a.lent.log);
      session = k.session;
      left = s.left - a.cycles;
      watch = later s.watch a.cycles;
      slices = round_sum s.slices 1;
      cycles = round_sum s.cycles a.cycles;
      instructions = round_sum s.instructions a.instructions;
      entries = round_sum s.entries a.entries;
      used = round_sum s.used a.used;
      sent = s.sent + a.sent;
      logged = s.logged + logged_bytes s.watch a.entries;
      leaps = round_sum s.leaps leaps;
    }

module _ (n : Night) (l : Leapt) (image area session output log : List ℕ) {c : ℕ} {part rows image' area' part' rows' : List ℕ}
    (a : answered l.ran (lending image' area' part' rows')
    ≡ answer_of (watching (take n.length session) c n.watch) n.machine (lending image area part rows))
    (e : c ≡ slice_cycles n.left) (p : part ≡ drop n.sent output) (q : rows ≡ drop n.logged log) where
  abbrev asked : ℕ → Terms
  asked k = watching (take n.length session) k n.watch

  -- a part that is filled from a place on stays within the whole
  fitted : (k i : ℕ) (whole part : List ℕ) {x : ℕ} → i ≡ x → x ≤ length part → part ≡ drop k whole → k ≤ length whole → k + i ≤ length whole
  fitted k i whole part f s d h = let g = ap length d ∙ length-drop k whole in omega (arith, f, s, g, h)

  pub sent_fits : n.sent ≤ length output → n.sent + l.ran.counts.sent.0 ≤ length output
  sent_fits h =
      fitted n.sent l.ran.counts.sent.0 output part (ap (λ (x : Answer). x.sent) a)
      (output_left (asked c) n.machine (lending image area part rows)).0 p h

  pub logged_fits : n.logged ≤ length log → n.logged + logged_bytes n.watch l.ran.counts.entries.0 ≤ length log
  logged_fits h =
      fitted n.logged (logged_bytes n.watch l.ran.counts.entries.0) log rows (ap (λ (x : Answer). logged_bytes n.watch x.entries) a)
      (log_left (asked c) n.machine (lending image area part rows)).0 q h

  -- the run was asked and lent what a slice is
  abbrev given : Lent
  given = lending image area (drop n.sent output) (drop n.logged log)

  same : {A : Type 0} (f : Terms → Lent → A) → f (asked c) (lending image area part rows) ≡ f (asked (slice_cycles n.left)) given
  same f =
      ap (λ (j : ℕ). f (asked j) (lending image area part rows)) e
      ∙ ap (λ (o : List ℕ). f (asked (slice_cycles n.left)) (lending image area o rows)) p
      ∙ ap (λ (o : List ℕ). f (asked (slice_cycles n.left)) (lending image area (drop n.sent output) o)) q

  pub sliced : l.leaps.0 ≡ leaps_of (asked c) n.machine (lending image area part rows) → (k : Kept) (session' : List ℕ)
      → kept k session' ≡ keeping_of (told_reply l.ran.reply) (take n.length session) l.ran.counts.used.0 l.ran.counts.cycles.0
      → {r : Night} → r ≡ next_of n l k → {output' log' : List ℕ} → output' ≡ take n.sent output ++ part' → log' ≡ take n.logged log ++ rows'
      → standing r (lending image' area' output' log') session' ≡ slice_of (standing n (lending image area output log) session)
  unfolding slice_of
  sliced f k session' g {r} d {output'} {log'} u v =
      let s = standing n (lending image area output log) session in
      ap (λ (x : Night). standing x (lending image' area' output' log') session') d
      ∙ ap (λ (x : List ℕ). standing (next_of n l k) (lending image' area' x log') session') u
      ∙ ap (λ (x : List ℕ). standing (next_of n l k) (lending image' area' (take n.sent output ++ part') x) session') v
      ∙ ap (with_kept s (answered l.ran (lending image' area' part' rows')) l.leaps.0) g
      ∙ ap (λ (x : Answer). after_of s x l.leaps.0) (a ∙ same (λ t i. answer_of t n.machine i))
      ∙ ap (after_of s (answer_of (asked (slice_cycles n.left)) n.machine given)) (f ∙ same (λ t i. leaps_of t n.machine i))

pub fitting : {k : ℕ} (a b : ℕ) → a + b ≤ k → k < 18446744073709551616 → a + b < 18446744073709551616
fitting a b h g = omega arith

-- what the next night keeps of the bounds
pub next_size : (n : Night) (l : Leapt) (k : Kept) {r : Night} → r ≡ next_of n l k → k.length ≤ n.length → r.length ≤ n.length
next_size n l k d h = let z = ap (λ (x : Night). x.length) d in omega (arith, z, h)

pub next_sent : (n : Night) (l : Leapt) (k : Kept) {r : Night} {o : ℕ} → r ≡ next_of n l k → n.sent + l.ran.counts.sent.0 ≤ o → r.sent ≤ o
next_sent n l k d h = let z = ap (λ (x : Night). x.sent) d in omega (arith, z, h)

pub next_logged : (n : Night) (l : Leapt) (k : Kept) {r : Night} {o : ℕ} → r ≡ next_of n l k → n.logged + logged_bytes n.watch l.ran.counts.entries.0 ≤ o
    → r.logged ≤ o
next_logged n l k {r} {o} d h = subst (λ (j : ℕ). j ≤ o) (sym (ap (λ (x : Night). x.logged) d)) h
