-- The units in the middle of an instruction. 02: "Every memory read and write is now told which cycle of its instruction it stands in .. and sees timer
-- and flags as of that cycle": one in cycle k sees, and acts on, the state after k - 1 cycles, and the other cycles pass after it.
use Rattle.std.specs.Prelude.{ℕ, ◌+◌, ◌-◌, List, [], ◌∷◌}
use Rattle.bits.specs.declared.Read.{Read}
use Rattle.bus.specs.declared.Bus.{Bus}
use Rattle.bus.specs.Access.{Memories, read_of, write_of, store_of}
use Rattle.bus.specs.Units.{passed}

-- the units, how many cycles of the instruction have passed, and the cycle of each access to come
pub record Moment : Type 0 where
  pub bus : Bus
  pub cycle : ℕ
  pub ahead : List ℕ

abbrev pub moment : Bus → ℕ → List ℕ → Moment
moment b c ks = record { bus = b; cycle = c; ahead = ks }

-- an instruction begins, whose accesses stand in the cycles listed
abbrev pub begun : List ℕ → Bus → Moment
begun ks b = moment b 0 ks

-- the moment of the next access, in cycle k: k - 1 cycles have passed, as the cycles rise. Where none is listed, as at a reset, none passes.
unfoldable pub to_next : Bus → ℕ → List ℕ → Moment
to_next b c [] = moment b c []
to_next b c (k ∷ ks) = moment (passed (k - 1 - c) b) (c + (k - 1 - c)) ks

abbrev pub next : Moment → Moment
next o = to_next o.bus o.cycle o.ahead

-- a read, and the units after a write, at a moment
abbrev pub read_now : Memories → ℕ → Moment → Read ℕ Moment
read_now memory at o =
    record { value = (read_of memory at o.bus).value; next = moment (read_of memory at o.bus).next o.cycle o.ahead }

abbrev pub write_now : ℕ → ℕ → Moment → Moment
write_now at v o = moment (write_of at v o.bus) o.cycle o.ahead

-- the next access at its own moment; of a write also what it leaves in the memories
unfoldable pub read_at : Memories → ℕ → Moment → Read ℕ Moment
read_at memory at o = read_now memory at (next o)

unfoldable pub write_at : ℕ → ℕ → Moment → Moment
write_at at v o = write_now at v (next o)

unfoldable pub stored_at : ℕ → ℕ → Moment → Memories → Memories
stored_at at v o memory = store_of (next o).bus at v memory

-- the rest of an instruction of n cycles has passed
unfoldable pub ended : ℕ → Moment → Bus
ended n o = passed (n - o.cycle) o.bus
