-- `rest::skip` meets its contract: each turn is at the place after one record more. Assumes nothing.
use mathlib.Core.Path.{◌≡◌}
use Rattle.rest.specs.Rest.{place_of}
use Rattle.rest.specs.Ahead.{SoundFrom}
use Rattle.rest.proofs.skip.Given as goal

abbrev pub invariant-loop : goal.invariant-loop
invariant-loop l = (place_of l.session l.counter ≡ l.at) × SoundFrom l.session l.at
