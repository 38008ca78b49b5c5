-- The rest of a session: what is left of it for a second run after a run that used its first records and passed some cycles.
use Rattle.std.specs.Prelude.{ℕ, zero, suc, ◌+◌, ◌-◌, Bool, cond, List, [], ◌++◌, ltb, length, take, drop, Option, Some, None}
use Rattle.numbers.specs.Numbers.{four_bytes}
use Rattle.turns.specs.Turn.{Turn, more, done, loop_of}
use Rattle.session.specs.Session.{time_at, next_at}

-- where record k begins, counted from 0: where the k records before it end
unfoldable pub place_of : List ℕ → ℕ → ℕ
place_of session zero = 0
place_of session (suc k) = next_at session (place_of session k)

-- the session has fewer than k records: so many would end past its end
unfoldable pub has_fewer : List ℕ → ℕ → Bool
has_fewer session k = ltb (length session) (place_of session k)

-- where the records after the first k begin, where it has so many
unfoldable pub skip_of : List ℕ → ℕ → Option ℕ
skip_of session k = cond (has_fewer session k) None (Some (place_of session k))

-- the record at a place, its time less the cycles that have passed, and 0 where that would be below 0: length and kind, the time, the payload
unfoldable pub shifted_at : List ℕ → ℕ → ℕ → List ℕ
shifted_at session cycles at =
    take 4 (drop at session) ++ four_bytes (time_at session at - cycles) ++ take (next_at session at - (at + 8)) (drop (at + 8) session)

-- the records from a place on, each so shifted, one after another behind those before them
pub record Copied : Type 0 where
  pub at : ℕ
  pub rest : List ℕ

abbrev pub copy_turn : List ℕ → ℕ → Copied → Turn Copied (List ℕ)
copy_turn session cycles c =
    cond (ltb c.at (length session))
    (more (record { at = next_at session c.at; rest = c.rest ++ shifted_at session cycles c.at }))
    (done c.rest)

unfoldable pub rest_from : List ℕ → ℕ → ℕ → List ℕ → List ℕ
rest_from session cycles at rest =
    loop_of (copy_turn session cycles) (λ (c : Copied). c.rest) (λ (c : Copied). length session - c.at) (record { at = at; rest = rest })

-- the rest of a session, of which so many records were used in so many cycles
unfoldable pub rest_of : List ℕ → ℕ → ℕ → List ℕ
rest_of session used cycles = rest_from session cycles (place_of session used) []
