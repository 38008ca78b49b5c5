-- Each access meets the units after k - 1 cycles, where k is its cycle in the table, and an instruction passes its own cycles, no more: for all 220, and
-- for an entry. Assumes nothing.
use Prim.Native.Nat.{ℕ, ◌+◌, ◌-◌, ◌≤◌}
use native.Mathlib.Omega.{arith}
use mathlib.Core.Bool.{Bool, cond}
use mathlib.Core.List.{List, [], ◌∷◌}
use mathlib.Core.Path.{◌≡◌}
use lib.Dec.{T, ltb, ltb→lt}
use Rattle.opcodes.specs.declared.Instruction.{Instruction}
use Rattle.std.specs.Prelude.{Some}
use Rattle.opcodes.specs.Opcodes.{decode_of}
use Rattle.opcodes.proofs.Table.{both}
use Rattle.timing.specs.Table.{access_cycles, entry_accesses}
use Rattle.timing.proofs.Rising.{rises, rising, entry_rising, Below, below}
use Rattle.bus.specs.declared.Bus.{Bus}
use Rattle.bus.specs.Access.{Memories, read_of, write_of}
use Rattle.bus.specs.Units.{passed}
use Rattle.moments.specs.Moment.{Moment, moment, begun, to_next, next, read_at, write_at, stored_at}
use Rattle.registers.specs.declared.Registers.{Registers}
use Rattle.chip.specs.Act.{Act, Act.done, Act.reading, Act.writing, run}
use Rattle.chip.specs.Instructions.{enter, execute}

-- the accesses of a tree from a moment on meet the units after one cycle less than each one's own
abbrev pub Meets : {A : Type 0} → List ℕ → Act A → Moment → Memories → Type 0
Meets [] t o m = Unit {0}
Meets (k ∷ ks) (done a) o m = Unit {0}
Meets (k ∷ ks) (reading at f) o m = ((next o).cycle ≡ k - 1) × Meets ks (f (read_at m at o).value) (read_at m at o).next m
Meets (k ∷ ks) (writing at v t) o m = ((next o).cycle ≡ k - 1) × Meets ks t (write_at at v o) (stored_at at v o m)

meets : {A : Type 0} (ks : List ℕ) (last n c : ℕ) (t : Act A) (b : Bus) (m : Memories) → T (rises last n ks) → c ≤ last → Meets ks t (moment b c ks) m
unfolding to_next read_at write_at stored_at
meets [] last n c t b m h l = tt
meets (k ∷ ks) last n c (done a) b m h l = tt
meets (k ∷ ks) last n c (reading at f) b m h l =
    let r = both (ltb last k) (rises k n ks) h in
    let p = ltb→lt last k r.0 in
    (omega arith, meets ks k n (c + (k - 1 - c)) (f (read_of m at (passed (k - 1 - c) b)).value) (read_of m at (passed (k - 1 - c) b)).next m r.1 (omega arith))
meets (k ∷ ks) last n c (writing at v t) b m h l =
    let r = both (ltb last k) (rises k n ks) h in
    let p = ltb→lt last k r.0 in
    (omega arith, meets ks k n (c + (k - 1 - c)) t (write_of at v (passed (k - 1 - c) b)) (stored_at at v (moment b c (k ∷ ks)) m) r.1 (omega arith))

-- no more than n cycles have passed where none is listed after them, so that `ended n` passes the rest of n
within : {A : Type 0} (n c : ℕ) (ks : List ℕ) (t : Act A) (b : Bus) (m : Memories) → Below n ks → c ≤ n → (run t (moment b c ks) m).units.cycle ≤ n
unfolding run to_next read_at write_at
within n c ks (done a) b m h l = l
within n c [] (reading at f) b m h l = within n c [] (f (read_of m at b).value) (read_of m at b).next m h l
within n c (k ∷ ks) (reading at f) b m h l =
    let p = h.0 in
    within n (c + (k - 1 - c)) ks (f (read_of m at (passed (k - 1 - c) b)).value) (read_of m at (passed (k - 1 - c) b)).next m h.1 (omega arith)
within n c [] (writing at v t) b m h l = within n c [] t (write_of at v b) (stored_at at v (moment b c []) m) h l
within n c (k ∷ ks) (writing at v t) b m h l =
    let p = h.0 in
    within n (c + (k - 1 - c)) ks t (write_of at v (passed (k - 1 - c) b)) (stored_at at v (moment b c (k ∷ ks)) m) h.1 (omega arith)

module _ (opcode : ℕ) (i : Instruction) (e : decode_of opcode ≡ Some i) (c : Registers) (b : Bus) (m : Memories) where
  pub instruction_meets : Meets (access_cycles i.operation i.place) (execute i c) (begun (access_cycles i.operation i.place) b) m
  instruction_meets = meets (access_cycles i.operation i.place) 0 i.cycles 0 (execute i c) b m (rising opcode i e) (omega arith)

  pub instruction_within : (run (execute i c) (begun (access_cycles i.operation i.place) b) m).units.cycle ≤ i.cycles
  instruction_within =
      within i.cycles 0 (access_cycles i.operation i.place) (execute i c) b m (below 0 i.cycles (access_cycles i.operation i.place) (rising opcode i e)) (omega arith)

module _ (vector : ℕ) (waiting : Bool) (c : Registers) (b : Bus) (m : Memories) where
  pub entry_meets : Meets (entry_accesses waiting) (enter vector c) (begun (entry_accesses waiting) b) m
  entry_meets = meets (entry_accesses waiting) 0 (cond waiting 4 12) 0 (enter vector c) b m (entry_rising waiting) (omega arith)

  pub entry_within : (run (enter vector c) (begun (entry_accesses waiting) b) m).units.cycle ≤ cond waiting 4 12
  entry_within = within (cond waiting 4 12) 0 (entry_accesses waiting) (enter vector c) b m (below 0 (cond waiting 4 12) (entry_accesses waiting) (entry_rising waiting)) (omega arith)
