-- What every tree of accesses keeps, and so every instruction and every entry: the bus's ranges, R, and of the memories
-- what every write spares. Assumes nothing.
use Prim.Native.Nat.{ℕ, ◌-◌}
use mathlib.Core.List.{List, [], ◌∷◌}
use mathlib.Core.Path.{◌≡◌, refl, subst, ◌∙◌}
use mathlib.Core.Bool.{true}
use Rattle.bits.proofs.Flags.{Stays}
use Rattle.bus.specs.declared.Bus.{Bus}
use Rattle.bus.specs.Access.{Memories, read_of, write_of, store_of}
use Rattle.bus.specs.Units.{passed, bus_ranges}
use Rattle.bus.proofs.Ranges.{read_ranges, write_ranges, passed_ranges, read_r, write_r}
use Rattle.bus.proofs.Stores.{Spared, spared_all, spared_then, store_spared}
use Rattle.moments.specs.Moment.{Moment, begun, to_next, next, read_at, write_at, stored_at, ended}
use Rattle.chip.specs.Act.{Act, Act.done, Act.reading, Act.writing, run, timed}

-- what each cycle, each read and each write keeps, a tree keeps
module _ (P : Bus → Memories → Type 0)
    (passes : (k : ℕ) (b : Bus) (m : Memories) → P b m → P (passed k b) m)
    (reads : (at : ℕ) (b : Bus) (m : Memories) → P b m → P (read_of m at b).next m)
    (writes : (at v : ℕ) (b : Bus) (m : Memories) → P b m → P (write_of at v b) (store_of b at v m)) where
  next_keeps : (b : Bus) (c : ℕ) (ks : List ℕ) (m : Memories) → P b m → P (to_next b c ks).bus m
  unfolding to_next
  next_keeps b c [] m h = h
  next_keeps b c (k ∷ ks) m h = passes (k - 1 - c) b m h

  run_keeps : {A : Type 0} (t : Act A) (o : Moment) (m : Memories) → P o.bus m → P (run t o m).units.bus (run t o m).memory
  unfolding run read_at write_at stored_at
  run_keeps (done a) o m h = h
  run_keeps (reading at k) o m h =
      run_keeps (k (read_at m at o).value) (read_at m at o).next m (reads at (next o).bus m (next_keeps o.bus o.cycle o.ahead m h))
  run_keeps (writing at v t) o m h =
      run_keeps t (write_at at v o) (stored_at at v o m) (writes at v (next o).bus m (next_keeps o.bus o.cycle o.ahead m h))

  pub timed_keeps : {A : Type 0} (ks : List ℕ) (n : ℕ) (t : Act A) (b : Bus) (m : Memories) → P b m
      → P (timed ks n t b m).bus (timed ks n t b m).memory
  unfolding timed ended
  timed_keeps ks n t b m h = passes (n - (run t (begun ks b) m).units.cycle) _ _ (run_keeps t (begun ks b) m h)

pub timed_ranges : {A : Type 0} (ks : List ℕ) (n : ℕ) (t : Act A) (b : Bus) (m : Memories) → Stays (bus_ranges b) (bus_ranges (timed ks n t b m).bus)
timed_ranges =
    timed_keeps (λ (b : Bus) (m : Memories). bus_ranges b ≡ true)
    (λ k b m. passed_ranges k b) (λ at b m. read_ranges m at b) (λ at v b m. write_ranges at v b)

pub timed_r : {A : Type 0} (ks : List ℕ) (n : ℕ) (t : Act A) (b : Bus) (m : Memories) → (timed ks n t b m).bus.r ≡ b.r
unfolding passed
timed_r ks n t b m =
    timed_keeps (λ (c : Bus) (l : Memories). c.r ≡ b.r) (λ k c l h. h) (λ at c l h. read_r l at c ∙ h) (λ at v c l h. write_r at v c ∙ h)
    ks n t b m refl

pub timed_spared : {A : Type 0} (ks : List ℕ) (n : ℕ) (t : Act A) (b : Bus) (m : Memories) → Spared b.r m (timed ks n t b m).memory
unfolding passed
timed_spared ks n t b m =
    (timed_keeps (λ (c : Bus) (l : Memories). (c.r ≡ b.r) × Spared b.r m l)
    (λ k c l h. h)
    (λ at c l h. (read_r l at c ∙ h.0, h.1))
    (λ at v c l h. (write_r at v c ∙ h.0, spared_then h.1 (subst (λ (r : ℕ). Spared r l (store_of c at v l)) h.0 (store_spared c at v l))))
    ks n t b m (refl, spared_all b.r m)
    ).1
