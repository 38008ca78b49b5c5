-- What the copying of records asks of a place: the session is sound from there on. For the code's bounds alone.
use Rattle.std.specs.Prelude.{ℕ, ◌≤◌, List, ◌≡◌, length, Ok}
use Rattle.session.specs.Session.{check_from}

pub record SoundFrom (session : List ℕ) (at : ℕ) : Type 0 where
  pub number : ℕ
  pub before : ℕ
  pub sound : check_from session number before at ≡ Ok tt
  pub within : at ≤ length session
