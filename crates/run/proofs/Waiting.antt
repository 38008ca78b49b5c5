-- Waiting cycles in which nothing happens: passed one by one or at once, the run is the same. Assumes nothing.
use Rattle.std.specs.Prelude.{Option, None, Some}
use Prim.Native.Nat.{ℕ, suc, ◌+◌, ◌-◌, ◌≤◌, ◌<◌}
use native.Mathlib.Omega.{arith}
use mathlib.Core.Bool.{Bool, true, false, not, ◌&&◌, ◌||◌, cond, true≢false, false≢true}
use mathlib.Core.List.{List}
use mathlib.Core.Logic.{◌⊎◌, inl, inr}
use mathlib.Core.Path.{◌≡◌, refl, sym, ap, subst, ◌∙◌}
use lib.Dec.{leb, eqb}
use lib.ListN.{length}
use borrow.Author.Tests.{leb-true, leb-false, le-leb, lt-ltb, le-ltb, eq-eqb, ne_eqb}
use Rattle.laws.proofs.Bools.{neither, both}
use Rattle.turns.specs.Turn.{more}
use Rattle.timer.specs.Timer.{ticks}
use Rattle.timer.proofs.Closed.{ticks_untouched}
use Rattle.serial.specs.declared.Serial.{Serial as Transmitter}
use Rattle.serial.specs.Serial.{ticks_serial, serial_request, wants_to_send}
use Rattle.serial.proofs.Cycles.{ticks_request, ticks_closed}
use Rattle.registers.specs.Registers.{idles}
use Rattle.bus.specs.Units.{passed}
use Rattle.session.specs.Session.{time_at, due_at}
use Rattle.machine.specs.declared.Machine.{Machine}
use Rattle.machine.specs.declared.Cause.{Cause}
use Rattle.machine.specs.declared.Cause.TheVariants.{Nmi, Irq1, Icf, Ocf, Tof, Serial}
use Rattle.machine.specs.Machine.{passed_of}
use Rattle.machine.specs.Interrupts.{pending_of}
use Rattle.boundary.specs.declared.State.{State}
use Rattle.boundary.specs.World.{Lent, memories_in, Terms, world_of, grown, grown_to}
use Rattle.boundary.specs.Boundary.{waited_state, send_of, run_of}
use Rattle.boundary.specs.Counts.{Fine, Fits}
use Rattle.boundary.proofs.Feeding.{records_done}
use Rattle.boundary.proofs.Cases.{below_limit, send_rests, act_waits}
use Rattle.boundary.proofs.Runs.{run_leap}
use Rattle.run.specs.Leaps.{is_due, ends_leap, First, stirs, AfterLeap}

-- what decides whether an interrupt is accepted: a pending NMI; or, with I clear, a cause that is there now, OCF or TOF
abbrev pub accepts : Bool → Bool → Bool → Bool → Bool → Bool
accepts nmi i now ocf tof = nmi || (not i && (now || (ocf || tof)))

flat : (k0 k1 k2 k3 k4 k5 : Cause) (a i b c d e f : Bool)
    → is_due
    (cond a (Some k0) (cond (not i && b) (Some k1) (cond (not i && c) (Some k2)
    (cond (not i && d) (Some k3) (cond (not i && e) (Some k4) (cond (not i && f) (Some k5) None))))))
    ≡ accepts a i ((b || c) || f) d e
flat k0 k1 k2 k3 k4 k5 true i b c d e f = refl
flat k0 k1 k2 k3 k4 k5 false true b c d e f = refl
flat k0 k1 k2 k3 k4 k5 false false true c d e f = refl
flat k0 k1 k2 k3 k4 k5 false false false true d e f = refl
flat k0 k1 k2 k3 k4 k5 false false false false true e true = refl
flat k0 k1 k2 k3 k4 k5 false false false false true e false = refl
flat k0 k1 k2 k3 k4 k5 false false false false false true true = refl
flat k0 k1 k2 k3 k4 k5 false false false false false true false = refl
flat k0 k1 k2 k3 k4 k5 false false false false false false true = refl
flat k0 k1 k2 k3 k4 k5 false false false false false false false = refl

-- j cycles later only OCF and TOF can have come
pub later : (j : ℕ) (m : Machine) → is_due (pending_of (passed_of j m))
    ≡ accepts m.nmi m.chip.registers.codes.i
    ((not m.irq1 || (m.chip.bus.timer.icf.set && m.chip.bus.timer.eici)) || serial_request m.chip.bus.serial)
    ((ticks j m.chip.bus.timer).ocf.set && m.chip.bus.timer.eoci)
    ((ticks j m.chip.bus.timer).tof.set && m.chip.bus.timer.etoi)
unfolding pending_of passed
later j m =
    let t = m.chip.bus.timer in
    let u = ticks_untouched j t in
    flat Nmi Irq1 Icf Ocf Tof Serial m.nmi m.chip.registers.codes.i (not m.irq1)
    ((ticks j t).icf.set && (ticks j t).eici) ((ticks j t).ocf.set && (ticks j t).eoci) ((ticks j t).tof.set && (ticks j t).etoi)
    (serial_request (ticks_serial j m.chip.bus.serial))
    ∙ rw (u.eoci, u.etoi, u.eici, u.icf, ticks_request j m.chip.bus.serial)

-- the transmitter j cycles later
pub sends_later : (j : ℕ) (s : Transmitter) → wants_to_send (ticks_serial j s) ≡ (s.te && not s.tdre.set && eqb (s.busy - j) 0)
unfolding wants_to_send
sends_later j s = rw (ticks_closed j s)

-- the transmitter is free when busy has passed
pub free : (busy j : ℕ) → eqb (busy - j) 0 ≡ leb busy j
free busy j = by (leb busy j) refl
  where
    by : (t : Bool) → leb busy j ≡ t → eqb (busy - j) 0 ≡ t
    by true e = let h = leb-true busy j e in eq-eqb (busy - j) 0 (omega arith)
    by false e = let h = leb-false busy j e in ne_eqb (busy - j) 0 (λ (z : busy - j ≡ 0). omega arith)

module _ (session : List ℕ) (count at : ℕ) where
  pub no_record : length session ≤ at → (j : ℕ) → due_at session (count + j) at ≡ false
  unfolding due_at
  no_record h j = ap (λ (t : Bool). t && leb (time_at session at) (count + j)) (le-ltb at (length session) h)

  pub a_record : at < length session → (j : ℕ) → due_at session (count + j) at ≡ leb (time_at session at) (count + j)
  unfolding due_at
  a_record h j = ap (λ (t : Bool). t && leb (time_at session at) (count + j)) (lt-ltb at (length session) h)

pub not_due : (p : Option Cause) → is_due p ≡ false → p ≡ None
not_due None e = refl
not_due (Some k) e = absurd (true≢false e)

-- within a wait, as the code tells it
pub waits : (s : State) {idle b : Bool} → idle ≡ idles s.machine.chip.registers → (s.inside && idle) ≡ b → (s.inside && idles s.machine.chip.registers) ≡ b
waits s e f = ap (λ (i : Bool). s.inside && i) (sym e) ∙ f

-- j waiting cycles more
abbrev pub still : State → ℕ → State
still s j = grown_to s (passed_of j s.machine) (grown j 0 0 0) true

-- a state whose counts are these
abbrev counted : State → Machine → ℕ → ℕ → ℕ → ℕ → Bool → State
counted s m cycles instructions entries leaps inside =
    record {
      machine = m;
      place = s.place;
      used = s.used;
      cycles = record { 0 = cycles };
      instructions = record { 0 = instructions };
      entries = record { 0 = entries };
      sent = s.sent;
      leaps = record { 0 = leaps };
      inside = inside;
    }

pub same : (x : State) {m m' : Machine} {a a' b b' c c' d d' : ℕ} {f f' : Bool} → m ≡ m' → a ≡ a' → b ≡ b' → c ≡ c' → d ≡ d' → f ≡ f'
    → counted x m a b c d f ≡ counted x m' a' b' c' d' f'
same x l p q r s t = cc

still_zero : (s : State) → s.inside ≡ true → s ≡ still s 0
unfolding passed ticks ticks_serial
still_zero s e = same s refl (omega arith) (omega arith) (omega arith) (omega arith) e

still_suc : (s : State) (j : ℕ) → waited_state (still s j) ≡ still s (suc j)
unfolding waited_state passed ticks ticks_serial
still_suc s j = same s refl (omega arith) (omega arith) (omega arith) (omega arith) refl

module _ (t : Terms) (s : State) (ins : s.inside ≡ true) (wait : idles s.machine.chip.registers ≡ true) where
  -- as long as nothing stirs, the waiting cycles may be passed at once
  pub leap_law : (k : ℕ) → First (t.limit - s.cycles.0) k (stirs t.session s) → (l : Lent) → run_of t (world_of s l) ≡ run_of t (world_of (still s k) l)
  unfolding passed
  leap_law k h l =
      ap (λ (x : State). run_of t (world_of x l)) (still_zero s ins)
      ∙ run_leap t (λ j. world_of (still s j) l) k
      (λ j b.
      let w = h.within in
      let q = neither _ _ (h.before j b) in
      let p = neither _ _ q.0 in
      below_limit (still s j) l t (omega arith)
      ∙ ap (λ (x : State). send_of t.watch (world_of x l)) (records_done t.session (memories_in l) (still s j) p.0)
      ∙ send_rests (still s j) l t.watch p.1
      ∙ act_waits (still s j) l t.watch (not_due _ q.1) wait
      ∙ ap (λ (x : State). more (world_of x l)) (still_suc s j))

  -- and there the leap ends
  pub leap_ends : (k : ℕ) → First (t.limit - s.cycles.0) k (stirs t.session s) → ends_leap t (still s k) ≡ true
  unfolding passed
  leap_ends k h = by h.there
    where
      last : (a b c d : Bool) → ((b || c) || d) ≡ true → (((a || b) || c) || d) ≡ true
      last true b c d e = refl
      last false b c d e = e

      first : (a b c d : Bool) → a ≡ true → (((a || b) || c) || d) ≡ true
      first true b c d e = refl
      first false b c d e = absurd (false≢true e)

      by : (k ≡ t.limit - s.cycles.0) ⊎ (stirs t.session s k ≡ true) → ends_leap t (still s k) ≡ true
      by (inl e) = first _ _ _ _ (le-leb t.limit (s.cycles.0 + k) (omega arith))
      by (inr e) =
          last (leb t.limit (s.cycles.0 + k)) (due_at t.session (s.cycles.0 + k) s.place)
          (wants_to_send (ticks_serial k s.machine.chip.bus.serial))
          (is_due (pending_of (passed_of k s.machine))) e

pub still_fine : (s : State) (k : ℕ) → Fine s → Fine (still s k)
still_fine s k h =
    let i = h.instructions in
    let e = h.entries in
    let l = h.leaps in
    record { instructions = omega arith; entries = omega arith; leaps = omega arith; used = h.used }

pub limit_ends : (t : Terms) (s : State) → t.limit ≤ s.cycles.0 → ends_leap t s ≡ true
limit_ends t s h = by _ _ _ _ (le-leb t.limit s.cycles.0 h)
  where
    by : (a b c d : Bool) → a ≡ true → (((a || b) || c) || d) ≡ true
    by true b c d e = refl
    by false b c d e = absurd (false≢true e)

pub leapt : (t : Terms) (s : State) (k : ℕ) {r : State} {m : Machine} → (s.inside && idles s.machine.chip.registers) ≡ true
    → First (t.limit - s.cycles.0) k (stirs t.session s) → Fine s → m ≡ passed_of k s.machine → r ≡ grown_to s m (grown k 0 0 0) true
    → AfterLeap t s r
leapt t s k w h f p q =
    let e = both _ _ w in
    subst (AfterLeap t s) (sym (q ∙ ap (λ (x : Machine). grown_to s x (grown k 0 0 0) true) p))
    (still_fine s k f, omega arith, λ _. leap_ends t s e.0 e.1 k h, leap_law t s e.0 e.1 k h)

-- a leap's cycles are within the limit, so no count can pass its type
pub within_types : {s : State} {n k : ℕ} → Fine s → s.cycles.0 < n → n ≤ 1000000000 → k ≤ n - s.cycles.0 → Fits s (grown k 0 0 0)
within_types f l h p =
    let x = f.instructions in
    let y = f.entries in
    let z = f.leaps in
    (omega arith, omega arith, omega arith, omega arith)
