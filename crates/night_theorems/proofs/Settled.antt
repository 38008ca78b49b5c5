-- Any two results that the contract of `run_night` admits agree in the reply, the machine, the image, the area, the output, the log, the rest of
-- the session, the cycles that are left, what is watched and the sums. They may differ in the bytes of the session's buffer after the rest. Assumes nothing.
use Prim.Native.Nat.{ℕ, ◌≤◌, ◌<◌}
use native.Mathlib.Omega.{arith}
use mathlib.Core.List.{List}
use mathlib.Core.Path.{◌≡◌, refl, sym, ap, ◌∙◌}
use lib.ListN.{take}
use Rattle.replies.specs.Replies.{Told, told_reply}
use Rattle.replies.specs.declared.Reply.{Reply}
use Rattle.replies.specs.declared.Reply.TheVariants.{Limit, WrongImage, WrongMachine, WrongLimit, Length, Kind, Value, Time, Undefined, Full, LogFull, WrongArea}
use Rattle.replies.proofs.Known.{reply_known}
use Rattle.machine.specs.declared.Machine.{Machine}
use Rattle.boundary.specs.World.{Lent, Terms}
use Rattle.std.specs.Prelude.{Ok, Err}
use Rattle.night_slices.specs.declared.KeepRefusal.TheVariants.{TooFew, NoRoom}
use Rattle.night_slices.specs.declared.Night.{Night}
use Rattle.night_slices.specs.Slices.{Standing, SliceEnd, told_slice_end, standing, night_of}

-- how a slice ended is known by what it tells
run_number : (r : Reply) → (told_reply r).number < 30
run_number Limit = omega arith
run_number WrongImage = omega arith
run_number WrongMachine = omega arith
run_number WrongLimit = omega arith
run_number (Length k) = omega arith
run_number (Kind k) = omega arith
run_number (Value k) = omega arith
run_number (Time k) = omega arith
run_number Undefined = omega arith
run_number Full = omega arith
run_number LogFull = omega arith
run_number WrongArea = omega arith

apart : {R : Type 0} (a b : Told) → a ≡ b → a.number < 30 → 30 ≤ b.number → R
apart a b e l h = let n = ap (λ (t : Told). t.number) e in absurd (let z : ⊥ = omega arith in z)

end_known : (a b : SliceEnd) → told_slice_end a ≡ told_slice_end b → a ≡ b
end_known (Ok r) (Ok q) e = ap Ok (reply_known r q e)
end_known (Ok r) (Err TooFew) e = apart _ _ e (run_number r) (omega arith)
end_known (Ok r) (Err NoRoom) e = apart _ _ e (run_number r) (omega arith)
end_known (Err TooFew) (Ok r) e = apart _ _ (sym e) (run_number r) (omega arith)
end_known (Err TooFew) (Err TooFew) e = refl
end_known (Err TooFew) (Err NoRoom) e = absurd (let n = ap (λ (t : Told). t.number) e in let z : ⊥ = omega arith in z)
end_known (Err NoRoom) (Ok r) e = apart _ _ (sym e) (run_number r) (omega arith)
end_known (Err NoRoom) (Err TooFew) e = absurd (let n = ap (λ (t : Told). t.number) e in let z : ⊥ = omega arith in z)
end_known (Err NoRoom) (Err NoRoom) e = refl

-- a result, with what was lent and the session's buffer as they are left
pub record NightLeft : Type 0 where
  pub night : Night
  pub lent : Lent
  pub buffer : List ℕ

pub record NightsAgree (a b : NightLeft) : Type 0 where
  pub ended : a.night.ended ≡ b.night.ended
  pub machine : a.night.machine ≡ b.night.machine
  pub lent : a.lent ≡ b.lent
  pub rest : take a.night.length a.buffer ≡ take b.night.length b.buffer
  pub left : a.night.left ≡ b.night.left
  pub watch : a.night.watch ≡ b.night.watch
  pub slices : a.night.slices ≡ b.night.slices
  pub cycles : a.night.cycles ≡ b.night.cycles
  pub instructions : a.night.instructions ≡ b.night.instructions
  pub entries : a.night.entries ≡ b.night.entries
  pub used : a.night.used ≡ b.night.used
  pub sent : a.night.sent ≡ b.night.sent
  pub logged : a.night.logged ≡ b.night.logged
  pub leaps : a.night.leaps ≡ b.night.leaps

module _ (asked : Terms) (m : Machine) (given : Lent) (room : ℕ) where
  -- what the contract says of a result
  abbrev pub NightGives : NightLeft → Type 0
  NightGives a = standing a.night a.lent a.buffer ≡ night_of asked m given room

  pub night_settled : (a b : NightLeft) → NightGives a → NightGives b → NightsAgree a b
  night_settled a b p q =
      let e = p ∙ sym q in
      record {
        ended = end_known a.night.ended b.night.ended (ap (λ (s : Standing). s.told) e);
        machine = ap (λ (s : Standing). s.machine) e;
        lent = ap (λ (s : Standing). s.lent) e;
        rest = ap (λ (s : Standing). s.session) e;
        left = ap (λ (s : Standing). s.left) e;
        watch = ap (λ (s : Standing). s.watch) e;
        slices = λ k. record { 0 = (e k).slices };
        cycles = λ k. record { 0 = (e k).cycles };
        instructions = λ k. record { 0 = (e k).instructions };
        entries = λ k. record { 0 = (e k).entries };
        used = λ k. record { 0 = (e k).used };
        sent = ap (λ (s : Standing). s.sent) e;
        logged = ap (λ (s : Standing). s.logged) e;
        leaps = λ k. record { 0 = (e k).leaps };
      }
