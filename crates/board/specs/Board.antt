-- What each C run leaves, for all inputs: the number that it returns, and every byte of what it is lent to write.
-- Beside 01's replies and 02's: 26 a saved machine that is not 42 bytes, 27 its version is another, 28 its bytes stand for no machine (crates/saved);
-- 29 a buffer for a record is too short; 36 a watched run is asked for what there is not. A call that returns 26 or above writes nothing.
-- The other C calls: crates/board_calls.
use Rattle.std.specs.Prelude.{ℕ, Bool, true, false, cond, List, eqb, ltb, length}
use Rattle.std.proofs.Math.Option.{none}
use Rattle.numbers.specs.Numbers.{over}
use Rattle.replies.specs.Replies.{Told, told}
use Rattle.counts.specs.declared.Counts.{Counts}
use Rattle.machine.specs.declared.Machine.{Machine}
use Rattle.boundary.specs.declared.Watch.{Watch}
use Rattle.boundary.specs.World.{Lent, Terms, watching}
use Rattle.cabinet.specs.Answers.{Answer, answer_of, leaps_of}
use Rattle.asking.specs.Asking.{Given, gives, replies}
use Rattle.saved.specs.Layout.{saved_of}
use Rattle.saved.specs.Answers.{load_of}
use Rattle.board_numbers.specs.Watch.{asks_log, unknown_bits}
use Rattle.board_results.specs.Results.{counts, no_counts, record_size, record_bytes, unfit_reply}

-- what a run is lent to write: the saved machine, what it runs on, and the result
pub record Buffers : Type 0 where
  pub machine : List ℕ
  pub lent : Lent
  pub result : List ℕ

abbrev pub buffers : List ℕ → Lent → List ℕ → Buffers
buffers machine lent result = record { machine = machine; lent = lent; result = result }

-- what a run returns, and what it leaves there
pub record Called : Type 0 where
  pub number : ℕ
  pub left : Buffers

abbrev pub called : ℕ → Buffers → Called
called number left = record { number = number; left = left }

-- the counts that an answer reports
abbrev pub counts_of : Answer → Counts
counts_of a = counts a.cycles a.instructions a.entries a.used a.sent

-- a reply with its record in the lent buffer
abbrev pub reported : Bool → Told → Counts → ℕ → Buffers → Called
reported leaping t c leaps b = called t.number (buffers b.machine b.lent (over (record_bytes leaping t c leaps) b.result))

-- the machine is run, and saved where it was
abbrev pub ran_call : Bool → Terms → Buffers → Machine → Called
ran_call leaping t b m =
    let a = answer_of t m b.lent in
    reported leaping a.reply (counts_of a) (leaps_of t m b.lent) (buffers (saved_of a.machine) a.lent b.result)

-- a refusal to load: 2 is refused as a run refuses it; any other writes nothing
abbrev pub refused_call : Bool → Buffers → ℕ → Called
refused_call leaping b k = cond (eqb k 2) (reported leaping (told (unfit_reply b.lent.image b.lent.area) none) no_counts 0 b) (called k b)

abbrev pub on_load : Bool → Terms → Buffers → Given Machine → Called
on_load leaping t b (gives m) = ran_call leaping t b m
on_load leaping t b (replies k) = refused_call leaping b k

-- a run: 29; then 26, 27, 28; then a run's replies in their own order
unfoldable pub run_call : Bool → Terms → Buffers → Called
run_call leaping t b =
    cond (ltb (length b.result) (record_size leaping)) (called 29 b) (on_load leaping t b (load_of b.machine))

-- both runs: the leaping run's record tells the leaps besides
abbrev pub single_call : Terms → Buffers → Called
single_call = run_call false

abbrev pub leaping_call : Terms → Buffers → Called
leaping_call = run_call true

-- what the bits ask for, of a run before which so many cycles had passed
abbrev pub watch_of : ℕ → ℕ → Watch
watch_of bits since = record { log = asks_log bits; since = record { 0 = since } }

-- a watched run: 36; then as a run
unfoldable pub watch_call : Bool → List ℕ → ℕ → ℕ → ℕ → Buffers → Called
watch_call leaping session limit bits since b =
    cond (unknown_bits bits) (called 36 b) (run_call leaping (watching session limit (watch_of bits since)) b)
