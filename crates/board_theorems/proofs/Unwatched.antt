-- A run that is not asked for the log is the ordinary run, whatever log is lent and whatever cycles had passed, and leaves that log. Assumes nothing.
use Prim.Native.Nat.{ℕ}
use mathlib.Core.Bool.{false}
use mathlib.Core.List.{List}
use mathlib.Core.Option.{Option, none, some}
use mathlib.Core.Path.{◌≡◌, refl, ap, ◌∙◌}
use Rattle.replies.specs.Replies.{Told}
use Rattle.machine.specs.declared.Machine.{Machine}
use Rattle.boundary.specs.declared.Watch.{Watch}
use Rattle.boundary.specs.World.{Lent, lent, Terms, terms, watching, Ended}
use Rattle.boundary.specs.Start.{start_world, ran_of}
use Rattle.log_theorems.specs.Wakes.{relogged, ended_with}
use Rattle.log_theorems.proofs.Ordinary.{ordinary_run}
use Rattle.log_theorems.proofs.Watching.{log_unread}
use Rattle.cabinet.specs.Answers.{told_stop, refusal_of, End, end_at, on_refusal, end_of}

-- the log is not asked for, and so many cycles had passed
abbrev pub unlogged : ℕ → Watch
unlogged since = record { log = false; since = record { 0 = since } }

module _ (session : List ℕ) (n since : ℕ) where
  abbrev asked : Terms
  asked = watching session n (unlogged since)

  -- a public run, with the lent log put back
  abbrev pub end_with : List ℕ → End → End
  end_with log e = end_at e.reply (relogged log e.world)

  pub end_unwatched : (m : Machine) (l : Lent) → end_of asked m l ≡ end_with l.log (end_of (terms session n) m (lent l.image l.area l.output))
  unfolding end_of refusal_of
  end_unwatched m l = by (refusal_of asked m l)
    where
      less : Lent
      less = lent l.image l.area l.output

      ran : ran_of asked m l ≡ ended_with l.log (ran_of (terms session n) m less)
      ran = ordinary_run asked (start_world m l) ∙ log_unread (terms session n) m less l.log

      by : (o : Option Told) → on_refusal o (start_world m l) (ran_of asked m l) ≡ end_with l.log (on_refusal o (start_world m less) (ran_of (terms session n) m less))
      by (some r) = refl
      by none = ap (λ (e : Ended). end_at (told_stop e.stop) e.world) ran
