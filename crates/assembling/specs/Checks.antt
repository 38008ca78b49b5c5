-- What the private functions of src are proved against: what the first pass answers. Nobody needs to believe this file: `assemble` promises the answers
-- of Assembling.antt.
use Rattle.std.specs.Prelude.{ℕ, ◌+◌, length, Result, Ok, Err}
use Rattle.assembling.specs.Assembling.{Outcome, bad, good}
use Rattle.assembling.specs.declared.Fault.{Fault}
use Rattle.assembling.specs.declared.Fault.TheVariants.{Malformed, TooFar}
use Rattle.assembling.specs.declared.AssembleRefusal.{AssembleRefusal}
use Rattle.assembling.specs.declared.AssembleRefusal.TheVariants as refusal

abbrev pub refusal_of : Fault → ℕ → AssembleRefusal
refusal_of Malformed line = refusal.Malformed line
refusal_of TooFar line = refusal.TooFar line

-- the first bad line, or how many bytes a text has after n
abbrev pub checked_of : ℕ → Outcome → Result ℕ AssembleRefusal
checked_of n (bad fault line) = Err (refusal_of fault line)
checked_of n (good bytes) = Ok (n + length bytes)
