-- A moment's laws: cycles pass in parts as at once, what is listed comes next, and an access from $20 on cannot tell by how much the units lag.
-- Assumes nothing.
use Rattle.std.specs.Prelude.{max}
use Prim.Native.Nat.{ℕ, ◌+◌, ◌-◌, ◌/◌, ◌%◌, ◌≤◌, ◌<◌}
use native.Mathlib.Omega.{arith}
use native.Mathlib.Decide.{ℕ_discrete}
use mathlib.Core.Path.{◌≡◌, refl, sym, ap, ◌∙◌}
use mathlib.Core.List.{List}
use Rattle.timer.specs.Timer.{ticks}
use Rattle.serial.specs.Serial.{ticks_serial}
use Rattle.bus.specs.declared.Bus.{Bus}
use Rattle.bits.specs.declared.Read.{Read}
use Rattle.bus.specs.Access.{Memories, held_at, read_of, write_of, store_of}
use Rattle.bus.specs.Units.{passed}
use Rattle.bus.proofs.Ranges.{passed_add}
use Rattle.bus.proofs.Stores.{plain_read, plain_write}
use Rattle.timing.specs.Digits.{listed}
use Rattle.timing.proofs.Digits.{power, listed_none, listed_more}
use Rattle.moments.specs.declared.Clocked.{Clocked}
use Rattle.moments.specs.Moment.{Moment, moment, to_next, next, read_now, write_now, read_at, write_at, ended}
use Rattle.moments.specs.Clocked.{lag, moment_of, read_on}

moment_same : {b c : Bus} {j k : ℕ} {l m : List ℕ} → b ≡ c → j ≡ k → l ≡ m → moment b j l ≡ moment c k m
moment_same p q r = λ i. moment (p i) (q i) (r i)

pub passed_none : (k : ℕ) (b : Bus) → k ≡ 0 → passed k b ≡ b
unfolding passed ticks ticks_serial
passed_none k b e = ap (λ (x : ℕ). passed x b) e

-- as many as j and then k
pub in_parts : (j k : ℕ) (b : Bus) {n : ℕ} → n ≡ j + k → passed n b ≡ passed k (passed j b)
in_parts j k b e = ap (λ (x : ℕ). passed x b) e ∙ passed_add j k b

-- the cycle that an instruction has come to moves on: by k at least
pub advance_law : (c : Clocked) {k w : ℕ} → c.ahead < power 16 → k ≡ c.ahead % 16 - 1 → w ≡ k - c.cycle
    → moment (passed (c.cycle + w - c.shown) c.bus) (c.shown + (c.cycle + w - c.shown)) (listed (c.ahead / 16)) ≡ next (moment_of c)
unfolding to_next
advance_law c {k} {w} h p q = by (ℕ_discrete c.ahead 0)
  where
    by : Dec (c.ahead ≡ 0)
        → moment (passed (c.cycle + w - c.shown) c.bus) (c.shown + (c.cycle + w - c.shown)) (listed (c.ahead / 16))
        ≡ to_next (passed (lag c) c.bus) (c.shown + lag c) (listed c.ahead)
    by (yes z) =
        let n : c.cycle + w - c.shown ≡ lag c = omega arith in
        rw (listed_none c.ahead z)
        (moment_same (ap (λ (x : ℕ). passed x c.bus) n) (omega arith) (listed_none (c.ahead / 16) (omega arith)))
    by (no z) =
        rw (listed_more c.ahead h z)
        (moment_same (in_parts (lag c) (c.ahead % 16 - 1 - (c.shown + lag c)) c.bus (omega arith)) (omega arith) refl)

-- below $20: the units do not lag when the access is made
abbrev on : Clocked → Bus → Clocked
on c b = record { bus = b; shown = c.shown; cycle = c.cycle; ahead = c.ahead }

shown_all : (c : Clocked) (b : Bus) → lag c ≡ 0 → moment_of (on c b) ≡ moment b (c.shown + lag c) (listed c.ahead)
shown_all c b e = ap (λ (x : Bus). moment x (c.shown + lag c) (listed c.ahead)) (passed_none (lag c) b e)

pub read_low_law : (m : Memories) (at : ℕ) (o : Moment) (c : Clocked) {n : Clocked} {f : Read ℕ Bus} → moment_of c ≡ o → lag c ≡ 0
    → f ≡ read_of m at c.bus → n ≡ on c f.next → read_on (record { value = f.value; next = n }) ≡ read_now m at o
read_low_law m at o c {n} {f} e z p q =
    ap (λ (x : Clocked). read_on (record { value = f.value; next = x })) q
    ∙ ap (λ (x : Read ℕ Bus). read_on (record { value = x.value; next = on c x.next })) p
    ∙ ap (λ (x : Moment). record { value = (read_of m at c.bus).value; next = x }) (shown_all c (read_of m at c.bus).next z)
    ∙ ap (λ (x : Moment). record { value = (read_of m at x.bus).value; next = moment (read_of m at x.bus).next x.cycle x.ahead })
    (sym (shown_all c c.bus z) ∙ e)

pub write_low_law : (at v : ℕ) (o : Moment) (c : Clocked) {n : Clocked} {b : Bus} → moment_of c ≡ o → lag c ≡ 0
    → b ≡ write_of at v c.bus → n ≡ on c b → moment_of n ≡ write_now at v o
write_low_law at v o c e z p q =
    ap moment_of (q ∙ ap (on c) p)
    ∙ shown_all c (write_of at v c.bus) z
    ∙ ap (λ (x : Moment). moment (write_of at v x.bus) x.cycle x.ahead) (sym (shown_all c c.bus z) ∙ e)

-- from $20 on the units stay as they are, and what memory holds sees no time
pub read_high_law : (m : Memories) (at : ℕ) (o : Moment) (c : Clocked) {v : ℕ} → moment_of c ≡ next o → 32 ≤ at → v ≡ held_at m c.bus.rame at
    → read_on (record { value = v; next = c }) ≡ read_at m at o
unfolding read_at passed
read_high_law m at o c e l p =
    ap (λ (x : ℕ). read_on (record { value = x; next = c })) p
    ∙ ap (λ (f : Read ℕ Bus). record { value = f.value; next = moment f.next (moment_of c).cycle (moment_of c).ahead }) (sym (plain_read m at (moment_of c).bus l))
    ∙ ap (read_now m at) e

pub fetch_high_law : (m : Memories) (at : ℕ) (o : Moment) (c : Clocked) → moment_of c ≡ next o → 32 ≤ at → moment_of c ≡ (read_at m at o).next
unfolding read_at
fetch_high_law m at o c e l =
    e ∙ ap (λ (f : Read ℕ Bus). moment f.next (next o).cycle (next o).ahead) (sym (plain_read m at (next o).bus l))

pub write_high_law : (at v : ℕ) (o : Moment) (c : Clocked) → moment_of c ≡ next o → 32 ≤ at → moment_of c ≡ write_at at v o
unfolding write_at
write_high_law at v o c e l =
    e ∙ ap (λ (b : Bus). moment b (next o).cycle (next o).ahead) (sym (plain_write at v (next o).bus l))

-- what is stored sees no time either
pub store_law : (at v : ℕ) (o : Moment) (m : Memories) (c : Clocked) {n : Memories} → moment_of c ≡ o → n ≡ store_of c.bus at v m → n ≡ store_of o.bus at v m
unfolding passed store_of
store_law at v o m c e p = p ∙ ap (λ (x : Moment). store_of x.bus at v m) e

-- the rest of n cycles, in one part with those that the units lag by
pub finish_law : (c : Clocked) (n : ℕ) {w k : ℕ} {b : Bus} → w ≡ max c.cycle n → k ≡ w - c.shown → b ≡ passed k c.bus → b ≡ ended n (moment_of c)
unfolding ended
finish_law c n p q e = e ∙ in_parts (lag c) (n - (c.shown + lag c)) c.bus (omega arith)

-- the units are shown what they lag by
pub catch_up_law : (c : Clocked) {k : ℕ} {b : Bus} → k ≡ lag c → b ≡ passed k c.bus
    → moment (passed (c.cycle - (c.shown + k)) b) (c.shown + k + (c.cycle - (c.shown + k))) (listed c.ahead) ≡ moment_of c
catch_up_law c {k} {b} p e =
    moment_same (passed_none _ b (omega arith) ∙ e ∙ ap (λ (x : ℕ). passed x c.bus) p) (omega arith) refl
