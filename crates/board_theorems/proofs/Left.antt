-- What power-on and the C runs leave: nothing written at 26 to 29, all but the record untouched at 1 to 7 and 12, a machine that the next
-- call loads, and two runs that agree. Assumes nothing.
use Prim.Native.Nat.{ℕ, ◌≤◌}
use native.Mathlib.Omega.{arith}
use mathlib.Core.Bool.{Bool, true, false, cond}
use mathlib.Core.List.{List, [], append_assoc}
use mathlib.Core.Option.{none, get_or}
use mathlib.Core.Path.{◌≡◌, refl, sym, ap, subst, ◌∙◌}
use lib.Dec.{eqb}
use lib.ListN.{length, take}
use lib.Seq.{take_at}
use borrow.Author.Tests.{eq-eqb, le-ltb}
use Rattle.laws.proofs.Conds.{picks, passes}
use Rattle.counts.specs.declared.Counts.{Counts}
use Rattle.numbers.specs.Numbers.{little_endian, over}
use Rattle.replies.specs.Replies.{Told, told, stops}
use Rattle.bus.specs.Access.{memories}
use Rattle.machine.specs.declared.Machine.{Machine}
use Rattle.machine.specs.Machine.{cold, reset_of}
use Rattle.machine.proofs.Ranges.{say_ranges}
use Rattle.power.proofs.Settled.{power_gives}
use Rattle.boundary.specs.World.{Terms}
use Rattle.cabinet.specs.Answers.{Answer, answer_of, leaps_of}
use Rattle.cabinet.proofs.Ends.{reply_most}
use Rattle.cabinet_theorems.proofs.Left.{refused_untouched, machine_left}
use Rattle.saved.specs.Layout.{saved_of}
use Rattle.asking.specs.Asking.{Given, gives, replies}
use Rattle.saved.specs.Answers.{load_of}
use Rattle.saved.proofs.Back.{Bytes, load_then_save}
use Rattle.saved.proofs.Kept.{save_then_load}
use Rattle.saved.proofs.Exactly.{loaded_ranges}
use Rattle.board_results.specs.Results.{no_counts, record_size, record_bytes, unfit_reply}
use Rattle.board_results.proofs.Laws.{result_long}
use Rattle.board_calls.specs.Calls.{wrote, on_power, power_call}
use Rattle.board.specs.Board.{Buffers, Called, called, counts_of, reported, on_load, run_call, single_call, leaping_call}
use Rattle.board_theorems.proofs.Ends.{unfit_most, call_cases}

-- power-on into 42 bytes, of a whole image and an R that fits: the saved machine is the one that reset makes, and a run loads it
pub power_done : (image : List ℕ) (r : ℕ) (machine : List ℕ) → length machine ≡ 42 → length image ≡ 65536 → r ≤ 65536
    → let m = reset_of (memories image []) (cold r) in (power_call image r machine ≡ wrote 0 (saved_of m)) × (load_of (saved_of m) ≡ gives m)
unfolding power_call
power_done image r machine h l b =
    let m = reset_of (memories image []) (cold r) in
    let p = power_gives image r l b in
    (picks _ _ (eq-eqb _ _ h) ∙ ap (on_power machine) p.0, save_then_load m (say_ranges m.chip.bus p.1))

module _ (leaping : Bool) (t : Terms) (b : Buffers) where
  abbrev pub call : Called
  call = run_call leaping t b

  -- "what is too short is refused by number, nothing written": and so are bytes that stand for no machine
  pub writes_nothing : 26 ≤ call.number → call.left ≡ b
  writes_nothing =
      call_cases leaping t b (λ c. 26 ≤ c.number → c.left ≡ b)
      (λ h p. refl)
      (λ h k low high e p. refl)
      (λ h e p. let u = unfit_most b.lent.image b.lent.area in absurd (let z : ⊥ = omega arith in z))
      (λ h m e p. let u = reply_most t m b.lent in absurd (let z : ⊥ = omega arith in z))

  abbrev tells : Told → Counts → ℕ → List ℕ
  tells reply c leaps = over (record_bytes leaping reply c leaps) b.result

  told_zero : (reply : Told) {a z : Answer} {leaps : ℕ} → a ≡ z → leaps ≡ 0 → tells reply (counts_of a) leaps ≡ tells reply (counts_of z) 0
  told_zero reply {a} {z} {leaps} e h =
      ap (λ (x : Answer). tells reply (counts_of x) leaps) e ∙ ap (tells reply (counts_of z)) h

  -- a refusal 1 to 7 or 12: image, area, machine, output and log are as they were, and the record tells zero counts
  pub record Refused (c : Called) : Type 0 where
    pub machine : c.left.machine ≡ b.machine
    pub lent : c.left.lent ≡ b.lent
    pub reply : Told
    pub number : reply.number ≡ c.number
    pub result : c.left.result ≡ tells reply no_counts 0

  pub refused_left : Bytes b.machine → stops call.number ≡ false → call.number ≤ 25 → Refused call
  refused_left bytes =
      call_cases leaping t b (λ c. stops c.number ≡ false → c.number ≤ 25 → Refused c)
      (λ h p q. absurd (let z : ⊥ = omega arith in z))
      (λ h k low high e p q. absurd (let z : ⊥ = omega arith in z))
      (λ h e p q. record { machine = refl; lent = refl; reply = told (unfit_reply b.lent.image b.lent.area) none; number = refl; result = refl })
      (λ h m e p q.
      let u = refused_untouched t m b.lent p in
      let reply = (answer_of t m b.lent).reply in
      record {
        machine = ap (λ (a : Answer). saved_of a.machine) u.0 ∙ load_then_save b.machine m bytes e;
        lent = ap (λ (a : Answer). a.lent) u.0;
        reply = reply;
        number = refl;
        result = told_zero reply u.0 u.1;
      })

  -- the machine that a run leaves is loaded by the next call
  pub goes_on_lem : (m : Machine) → record_size leaping ≤ length b.result → load_of b.machine ≡ gives m
      → load_of call.left.machine ≡ gives (answer_of t m b.lent).machine
  unfolding run_call
  goes_on_lem m h e =
      let a = answer_of t m b.lent in
      ap (λ (c : Called). load_of c.left.machine) (passes _ _ (le-ltb _ _ h) ∙ ap (on_load leaping t b) e)
      ∙ save_then_load a.machine (say_ranges a.machine.chip.bus (machine_left t m b.lent (loaded_ranges b.machine m e)))

-- the two records begin alike
records_alike : (t : Told) (c : Counts) (leaps : ℕ) (buffer : List ℕ)
    → take 40 (over (record_bytes false t c leaps) buffer) ≡ take 40 (over (record_bytes true t c leaps) buffer)
records_alike t c leaps buffer =
    let h = result_long t.number (get_or t.named 0) c in
    let bytes = record_bytes false t c leaps in
    take_at bytes _ 40 h ∙ sym (ap (take 40) (append_assoc bytes (little_endian 4 leaps) _) ∙ take_at bytes _ 40 h)

-- the same number, image, area, machine, output and log, and records that begin alike
abbrev pub Agree : Called → Called → Type 0
Agree s t =
    (s.number ≡ t.number)
    × (s.left.machine ≡ t.left.machine)
    × (s.left.lent ≡ t.left.lent)
    × (take 40 s.left.result ≡ take 40 t.left.result)

-- a refusal with its record, or a number alone
abbrev refused_as : Told → Bool → Buffers → Bool → ℕ → Called
refused_as u leaping b c k = cond c (reported leaping u no_counts 0 b) (called k b)

-- both runs return the same number and leave the same image, area, machine, output and log, and the same first 40 bytes of the result
pub runs_agree : (t : Terms) (b : Buffers) → 44 ≤ length b.result → Agree (single_call t b) (leaping_call t b)
unfolding run_call
runs_agree t b h =
    let g : 40 ≤ length b.result = omega arith in
    subst (λ (s : Called). Agree s (run_call true t b)) (sym (passes _ _ (le-ltb _ _ g)))
    (subst (Agree (on_load false t b (load_of b.machine))) (sym (passes _ _ (le-ltb _ _ h))) (alike (load_of b.machine)))
  where
    both_refused : (c : Bool) (k : ℕ) (u : Told) → Agree (refused_as u false b c k) (refused_as u true b c k)
    both_refused true k u = (refl, refl, refl, records_alike u no_counts 0 b.result)
    both_refused false k u = (refl, refl, refl, refl)

    alike : (g : Given Machine) → Agree (on_load false t b g) (on_load true t b g)
    alike (gives m) =
        let a = answer_of t m b.lent in
        (refl, refl, refl, records_alike a.reply (counts_of a) (leaps_of t m b.lent) b.result)
    alike (replies k) = both_refused (eqb k 2) k (told (unfit_reply b.lent.image b.lent.area) none)
