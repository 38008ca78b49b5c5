-- Something is not nothing. Assumes nothing.
use mathlib.Core.Option.{none, some}
use mathlib.Core.Path.{◌≡◌}
use Rattle.laws.proofs.Apart.{apart}

pub some_none : {A R : Type 0} {a : A} → some a ≡ none → R
some_none e = apart cc
