-- 01's table of replies, row by row, and 02's 11 and 12: each reply of a public run is given exactly when the table says. Assumes nothing.
use Prim.Native.Nat.{ℕ, ◌-◌, ◌≤◌, ◌<◌}
use native.Mathlib.Omega.{arith}
use mathlib.Core.Path.{◌≡◌, refl, sym, ap, subst, ◌∙◌}
use mathlib.Core.Bool.{Bool, true, false, true≢false}
use mathlib.Core.List.{[], ◌∷◌}
use mathlib.Core.Logic.{◌↔◌}
use mathlib.Core.Option.{none, some}
use lib.ListN.{length, get_or}
use Rattle.session.specs.Session.{check_of, fault_number}
use Rattle.session.specs.declared.Fault.{Fault}
use Rattle.session.specs.declared.Fault.TheVariants.{Length, Kind, Value, Time}
use Rattle.std.specs.Prelude.{Ok, Err}
use Rattle.session.proofs.Exactly.{Answered, exactly}
use Rattle.machine.specs.declared.Machine.{Machine}
use Rattle.machine.specs.Machine.{Ranges, ranges_of}
use Rattle.machine.proofs.Ranges.{ranges_say, say_ranges}
use Rattle.boundary.specs.declared.Stop.{Stop}
use Rattle.boundary.specs.declared.Stop.TheVariants.{Limit, Undefined, Full, LogFull}
use Rattle.boundary.specs.World.{Lent, Terms, stop_number}
use Rattle.boundary.specs.Start.{start_world, ran_of}
use Rattle.laws.proofs.Known.{known}
use Rattle.replies.specs.Replies.{Told, told, told_fault, told_check, stops}
use Rattle.replies.proofs.Known.{fault_known}
use Rattle.cabinet.specs.Answers.{told_stop, End, end_at, end_of, answer_at, answer_of}
use Rattle.cabinet.proofs.Ends.{Lengths, Passed, stop_stops, refuses_1, refuses_12, refuses_2, refuses_3, session_decides, end_refused, end_ran, end_cases}
use Rattle.cabinet_theorems.proofs.Stops.{Shows, shown_once, stop_shows}

-- the number of a refusal by the session is 4 to 7, and no refusal's number is a stop's
pub fault_number_lem : (f : Fault) → (4 ≤ fault_number f) × (fault_number f ≤ 7)
fault_number_lem (Length k) = (omega arith, omega arith)
fault_number_lem (Kind k) = (omega arith, omega arith)
fault_number_lem (Value k) = (omega arith, omega arith)
fault_number_lem (Time k) = (omega arith, omega arith)

fault_refuses : (f : Fault) → stops (fault_number f) ≡ false
fault_refuses (Length k) = refl
fault_refuses (Kind k) = refl
fault_refuses (Value k) = refl
fault_refuses (Time k) = refl

pub stop_number_lem : {R : Type 0} (s : Stop) {j : ℕ} → stop_number s ≡ j → stops j ≡ false → R
stop_number_lem s e h = absurd (true≢false (sym (stop_stops s) ∙ ap stops e ∙ h))

-- the number of a told reply
pub number : {t u : Told} → t ≡ u → t.number ≡ u.number
number e = ap (λ (t : Told). t.number) e

-- a stop is known by what it tells; 10 is none
abbrev stop_back : Told → Stop
stop_back t = get_or (Limit ∷ Undefined ∷ Full ∷ Limit ∷ LogFull ∷ []) (t.number - 7) Limit

pub stop_known : (a b : Stop) → told_stop a ≡ told_stop b → a ≡ b
stop_known = known told_stop stop_back back
  where
    back : (a : Stop) → stop_back (told_stop a) ≡ a
    back Limit = refl
    back Undefined = refl
    back Full = refl
    back LogFull = refl

-- the test of the ranges fails exactly where the machine is outside them
outside : (m : Machine) → (ranges_of m ≡ false) ↔ (Ranges m.chip.bus → ⊥)
outside m = ((λ f r. true≢false (sym (say_ranges m.chip.bus r) ∙ f)), by (ranges_of m) refl)
  where
    by : (b : Bool) → ranges_of m ≡ b → (Ranges m.chip.bus → ⊥) → ranges_of m ≡ false
    by true e h = absurd (h (ranges_say m.chip.bus e))
    by false e h = e

-- the image is right and the area is not
abbrev pub WrongArea : Lent → Type 0
WrongArea l = (length l.image ≡ 65536) × (length l.area ≡ 128 → ⊥)

module _ (asked : Terms) (m : Machine) (given : Lent) where
  -- the reply of both runs is this one
  abbrev Replies : Told → Type 0
  Replies t = (answer_of asked m given).reply ≡ t

  abbrev Passes : Type 0
  Passes = Passed asked m given

  -- the reply of a refused run
  refused_reply : {t : Told} → end_of asked m given ≡ end_at t (start_world m given) → Replies t
  refused_reply e = ap (λ (x : End). x.reply) e

  -- 1: "the image is not 65,536 bytes"
  pub reply_1 : Replies (told 1 none) ↔ (length given.image ≡ 65536 → ⊥)
  reply_1 = (
    (λ e.
        end_cases asked m given (λ x. x.reply.number ≡ 1 → length given.image ≡ 65536 → ⊥)
        (λ l d. l)
        (λ l k d. omega arith)
        (λ l r d. omega arith)
        (λ l r h d. omega arith)
        (λ p f e d. let b = fault_number_lem f in omega (arith, b.0))
        (λ p s d. stop_number_lem (ran_of asked m given).stop d refl)
        (number e)),
    (λ l. refused_reply (end_refused asked m given (refuses_1 asked m given l))),
  )

  -- 12: "that area is not 128 bytes, tested straight after 1"
  pub told_12 : (answer_of asked m given).reply.number ≡ 12 → WrongArea given
  told_12 =
      end_cases asked m given (λ x. x.reply.number ≡ 12 → WrongArea given)
      (λ l d. absurd (let z : ⊥ = omega arith in z))
      (λ l k d. (l, k))
      (λ l r d. absurd (let z : ⊥ = omega arith in z))
      (λ l r h d. absurd (let z : ⊥ = omega arith in z))
      (λ p f e d. absurd (let b = fault_number_lem f in let z : ⊥ = omega (arith, b.1) in z))
      (λ p s d. stop_number_lem (ran_of asked m given).stop d refl)

  pub reply_12 : Replies (told 12 none) ↔ WrongArea given
  reply_12 = ((λ e. told_12 (number e)), (λ h. refused_reply (end_refused asked m given (refuses_12 asked m given h.0 h.1))))

  -- 2: "the machine is outside its ranges"
  pub reply_2 : Replies (told 2 none) ↔ (Lengths given × (Ranges m.chip.bus → ⊥))
  reply_2 = (
    (λ e.
        end_cases asked m given (λ x. x.reply.number ≡ 2 → Lengths given × (Ranges m.chip.bus → ⊥))
        (λ l d. absurd (let z : ⊥ = omega arith in z))
        (λ l k d. absurd (let z : ⊥ = omega arith in z))
        (λ l r d. (l, (outside m).0 r))
        (λ l r h d. absurd (let z : ⊥ = omega arith in z))
        (λ p f e d. absurd (let b = fault_number_lem f in let z : ⊥ = omega (arith, b.0) in z))
        (λ p s d. stop_number_lem (ran_of asked m given).stop d refl)
        (number e)),
    (λ h. refused_reply (end_refused asked m given (refuses_2 asked m given h.0 ((outside m).1 h.1)))),
  )

  -- 3: "N is above 1,000,000,000"
  pub reply_3 : Replies (told 3 none) ↔ (Lengths given × Ranges m.chip.bus × (1000000000 < asked.limit))
  reply_3 = (
    (λ e.
        end_cases asked m given (λ x. x.reply.number ≡ 3 → Lengths given × Ranges m.chip.bus × (1000000000 < asked.limit))
        (λ l d. absurd (let z : ⊥ = omega arith in z))
        (λ l k d. absurd (let z : ⊥ = omega arith in z))
        (λ l r d. absurd (let z : ⊥ = omega arith in z))
        (λ l r h d. (l, ranges_say m.chip.bus r, h))
        (λ p f e d. absurd (let b = fault_number_lem f in let z : ⊥ = omega (arith, b.0) in z))
        (λ p s d. stop_number_lem (ran_of asked m given).stop d refl)
        (number e)),
    (λ h. refused_reply (end_refused asked m given (refuses_3 asked m given h.0 (say_ranges m.chip.bus h.1) h.2))),
  )

  -- 4 to 7, after these: the session's check says so, and names the record
  refused_by_lem : (f : Fault) → Replies (told_fault f) ↔ (Passes × Answered asked.session (Err f))
  refused_by_lem f =
      let b = fault_number_lem f in (
        (λ e.
            end_cases asked m given (λ x. x.reply ≡ told_fault f → Passes × Answered asked.session (Err f))
            (λ l d. absurd (let d = number d in let z : ⊥ = omega (arith, b.0) in z))
            (λ l k d. absurd (let d = number d in let z : ⊥ = omega (arith, b.1) in z))
            (λ l r d. absurd (let d = number d in let z : ⊥ = omega (arith, b.0) in z))
            (λ l r h d. absurd (let d = number d in let z : ⊥ = omega (arith, b.0) in z))
            (λ p g h d. (p, (exactly asked.session (Err f)).0 (h ∙ ap Err (fault_known g f d))))
            (λ p s d. stop_number_lem (ran_of asked m given).stop (number d) (fault_refuses f))
            e),
        (λ h.
            let p = h.0 in
            refused_reply
            (end_refused asked m given
            (session_decides asked m given p.lengths (say_ranges m.chip.bus p.in_ranges) p.within
            ∙ ap told_check ((exactly asked.session (Err f)).1 h.1)))),
      )

  -- 4: "a session record is cut short, or its length is wrong for its kind"
  pub reply_4 : (k : ℕ) → Replies (told 4 (some k)) ↔ (Passes × Answered asked.session (Err (Length k)))
  reply_4 k = refused_by_lem (Length k)

  -- 5: "a record's kind is unknown"
  pub reply_5 : (k : ℕ) → Replies (told 5 (some k)) ↔ (Passes × Answered asked.session (Err (Kind k)))
  reply_5 k = refused_by_lem (Kind k)

  -- 6: "a record's value is out of range"
  pub reply_6 : (k : ℕ) → Replies (told 6 (some k)) ↔ (Passes × Answered asked.session (Err (Value k)))
  reply_6 k = refused_by_lem (Value k)

  -- 7: "a record's time is before the previous record's"
  pub reply_7 : (k : ℕ) → Replies (told 7 (some k)) ↔ (Passes × Answered asked.session (Err (Time k)))
  reply_7 k = refused_by_lem (Time k)

  -- a run that is not refused
  abbrev pub Admitted : Type 0
  Admitted = Passes × (check_of asked.session ≡ Ok tt)

  pub admitted_end : Admitted → end_of asked m given ≡ (let e = ran_of asked m given in end_at (told_stop e.stop) e.world)
  admitted_end h =
      let p = h.0 in
      end_ran asked m given
      (session_decides asked m given p.lengths (say_ranges m.chip.bus p.in_ranges) p.within ∙ ap told_check h.1)
      (ran_of asked m given) refl

  stopped_by : (k : Stop) → Replies (told_stop k) ↔ (Admitted × Shows asked k (answer_of asked m given))
  stopped_by k =
      let e = ran_of asked m given in
      let shows = stop_shows asked (start_world m given) in (
        (λ d.
            end_cases asked m given (λ x. x.reply ≡ told_stop k → Admitted × Shows asked k (answer_at x))
            (λ l d. stop_number_lem k (sym (number d)) refl)
            (λ l a d. stop_number_lem k (sym (number d)) refl)
            (λ l r d. stop_number_lem k (sym (number d)) refl)
            (λ l r h d. stop_number_lem k (sym (number d)) refl)
            (λ p f e d. stop_number_lem k (sym (number d)) (fault_refuses f))
            (λ p f d. ((p, f), subst (λ (s : Stop). Shows asked s (answer_at (end_at (told_stop e.stop) e.world))) (stop_known e.stop k d) shows))
            d),
        (λ h.
            let q = admitted_end h.0 in
            let s = subst (λ (x : End). Shows asked k (answer_at x)) q h.1 in
            ap (λ (x : End). x.reply) q ∙ ap told_stop (shown_once asked (answer_at (end_at (told_stop e.stop) e.world)) e.stop k shows s)),
      )

  -- 0: "the cycle limit N is reached"
  pub reply_0 : Replies (told 0 none) ↔ (Admitted × Shows asked Limit (answer_of asked m given))
  reply_0 = stopped_by Limit

  -- 8: "the opcode to be executed is undefined"
  pub reply_8 : Replies (told 8 none) ↔ (Admitted × Shows asked Undefined (answer_of asked m given))
  reply_8 = stopped_by Undefined

  -- 9: "a byte is to be sent and the output has no room"
  pub reply_9 : Replies (told 9 none) ↔ (Admitted × Shows asked Full (answer_of asked m given))
  reply_9 = stopped_by Full

  -- 11: "no room for a log row"
  pub reply_11 : Replies (told 11 none) ↔ (Admitted × Shows asked LogFull (answer_of asked m given))
  reply_11 = stopped_by LogFull
