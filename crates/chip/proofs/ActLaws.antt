-- How a tree's meaning follows its shape: one part after another, a read, a write, the end; and a whole instruction. Assumes nothing.
use Rattle.bits.specs.declared.Read.{Read}
use Prim.Native.Nat.{ℕ}
use mathlib.Core.List.{List}
use mathlib.Core.Path.{◌≡◌, refl, sym, ap, ◌∙◌, subst⁻¹}
use Rattle.bus.specs.declared.Bus.{Bus}
use Rattle.bus.specs.Access.{Memories}
use Rattle.moments.specs.Moment.{Moment, begun, read_at, write_at, stored_at, ended}
use Rattle.chip.specs.Act.{Act, Act.done, Act.reading, Act.writing, ◌>>=◌, read, write, Out, out, run, end, ending, timed}

pub run_then : {A B : Type 0} (t : Act A) (f : A → Act B) (o : Moment) (m : Memories)
    → run (t >>= f) o m ≡ run (f (run t o m).value) (run t o m).units (run t o m).memory
unfolding run ◌>>=◌
run_then (done a) f o m = refl
run_then (reading at k) f o m = run_then (k (read_at m at o).value) f (read_at m at o).next m
run_then (writing at v t) f o m = run_then t f (write_at at v o) (stored_at at v o m)

-- one part after another, by what the first comes to
pub after : {A B : Type 0} (t : Act A) (f : A → Act B) (b : Moment) (m : Memories) {o : Out A} {z : Out B}
    → run t b m ≡ o → run (f o.value) o.units o.memory ≡ z → run (t >>= f) b m ≡ z
after {A} t f b m {z} p q = run_then t f b m ∙ subst⁻¹ (λ (x : Out A). run (f x.value) x.units x.memory ≡ z) p q

-- the end
pub ends : {A : Type 0} (a : A) (o : Moment) (m : Memories) {c : A} → a ≡ c → run (done a) o m ≡ out c o m
unfolding run
ends a o m p = ap (λ x. out x o m) p

-- a read and a write, by the contracts of the functions that make them
pub by_read : (m : Memories) (at : ℕ) (o : Moment) {r : Read ℕ Moment} → r ≡ read_at m at o → run (read at) o m ≡ out r.value r.next m
unfolding run read
by_read m at o e = ap (λ (f : Read ℕ Moment). out f.value f.next m) (sym e)

pub by_write : (at v : ℕ) (o : Moment) (m : Memories) {c : Moment} {n : Memories}
    → c ≡ write_at at v o → n ≡ stored_at at v o m → run (write at v) o m ≡ out tt c n
unfolding run write
by_write at v o m e d = λ i. out tt (sym e i) (sym d i)

-- what shows a function that makes accesses
pub ruleset accesses = (after, ends, by_read, by_write)

-- a whole instruction, by what it begins with, what its tree comes to, and what the rest of its cycles leaves
pub whole : {A : Type 0} (ks : List ℕ) (n : ℕ) (t : Act A) (b : Bus) (m : Memories) {ls : List ℕ} {o : Moment} {p : Out A} {u : Bus}
    → ls ≡ ks → o ≡ begun ls b → run t o m ≡ p → u ≡ ended n p.units → timed ks n t b m ≡ end p.value u p.memory
unfolding timed
whole ks n t b m {p} l e r f =
    ap (λ (x : Moment). ending n (run t x m)) (sym (e ∙ ap (λ (x : List ℕ). begun x b) l))
    ∙ ap (ending n) r
    ∙ ap (λ (x : Bus). end p.value x p.memory) (sym f)
