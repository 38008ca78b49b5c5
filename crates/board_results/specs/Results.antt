-- The result record of a run: its reply and its counts as bytes, as board/pliruzza.h lays them out.
use Rattle.std.specs.Prelude.{ℕ, Bool, not, cond, List, ◌++◌, eqb, length}
use Rattle.std.proofs.Math.Option.{get_or}
use Rattle.numbers.specs.Numbers.{little_endian}
use Rattle.replies.specs.Replies.{Told}
use Rattle.counts.specs.declared.Counts.{Counts}

-- the counts that both runs report
abbrev pub counts : ℕ → ℕ → ℕ → ℕ → ℕ → Counts
counts cycles instructions entries used sent =
    record {
      cycles = record { 0 = cycles };
      instructions = record { 0 = instructions };
      entries = record { 0 = entries };
      used = record { 0 = used };
      sent = record { 0 = sent };
    }

-- "Replies 1 to 7 have all counts zero", and 12 leaves "what 1 leaves"
abbrev pub no_counts : Counts
no_counts = counts 0 0 0 0 0

-- the first 16 bytes: at 0 the reply, at 4 cycles, at 8 instructions, at 12 interrupt entries
unfoldable pub head_bytes : ℕ → Counts → List ℕ
head_bytes reply c =
    little_endian 4 reply ++ little_endian 4 c.cycles.0 ++ little_endian 4 c.instructions.0 ++ little_endian 4 c.entries.0

-- 40 bytes: these, at 16 records used, at 24 bytes sent, at 32 a record's number
unfoldable pub result_bytes : ℕ → ℕ → Counts → List ℕ
result_bytes reply named c =
    head_bytes reply c ++ little_endian 8 c.used.0 ++ little_endian 8 c.sent.0 ++ little_endian 8 named

-- the single run's record; "4 to 7 name the record", other replies 0
abbrev pub single_bytes : Told → Counts → List ℕ
single_bytes t c = result_bytes t.number (get_or t.named 0) c

-- the leaping run's record: the same, and at 40 the leaps
abbrev pub record_size : Bool → ℕ
record_size leaping = cond leaping 44 40

abbrev pub with_leaps : Bool → ℕ → List ℕ → List ℕ
with_leaps leaping leaps bytes = cond leaping (bytes ++ little_endian 4 leaps) bytes

abbrev pub record_bytes : Bool → Told → Counts → ℕ → List ℕ
record_bytes leaping t c leaps = with_leaps leaping leaps (single_bytes t c)

-- a machine outside its ranges: 2, and "1, 2, 3 are tested in that order", 12 "straight after 1"
abbrev pub unfit_reply : List ℕ → List ℕ → ℕ
unfit_reply image area = cond (not (eqb (length image) 65536)) 1 (cond (not (eqb (length area) 128)) 12 2)
