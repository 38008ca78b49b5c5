-- A text line by line, as 02 speaks of it: good lines, then the first bad one or the end. proofs/Assembled.antt: each answer is given exactly so.
use Rattle.std.specs.Prelude.{ℕ, suc, ◌<◌, ◌≡◌, ◌⊎◌, true, false, List, [], ◌++◌, length, drop, Option, Ok, Err}
use Rattle.listing_codes.specs.declared.Line.{Line}
use Rattle.listing_codes.specs.declared.Unread.TheVariants.{Bad, Far}
use Rattle.listing_reading.specs.Reading.{address_in, line_in}
use Rattle.assembling.specs.declared.Fault.{Fault}
use Rattle.assembling.specs.declared.Fault.TheVariants.{Malformed, TooFar}
use Rattle.assembling.specs.Assembling.{piece_bytes, follows, due_next}

-- the first k lines of a text are each of the published form and follow on: their bytes, the text after them, and where its first line has to be
pub data GoesOn : List ℕ → Option ℕ → ℕ → List ℕ → List ℕ → Option ℕ → Type 0 where
  here : {text : List ℕ} {due : Option ℕ} → GoesOn text due 0 [] text due
  onward : {text bytes rest : List ℕ} {due due' : Option ℕ} {k : ℕ} (l : Line) → line_in text ≡ Ok l → follows due l.piece.address ≡ true
      → GoesOn (drop l.size text) (due_next l.piece) k bytes rest due' → GoesOn text due (suc k) (piece_bytes l.piece ++ bytes) rest due'

-- "13, a line not of the published form or not following on; 14, a branch target beyond its offset", of one that follows on
abbrev pub Faulty : Fault → List ℕ → Option ℕ → Type 0
Faulty Malformed text due = (line_in text ≡ Err Bad) ⊎ (follows due (address_in text) ≡ false)
Faulty TooFar text due = (line_in text ≡ Err (Far (address_in text))) × (follows due (address_in text) ≡ true)

-- k good lines and then a faulty one
pub record Stopped (text : List ℕ) (due : Option ℕ) (fault : Fault) (k : ℕ) : Type 0 where
  pub bytes : List ℕ
  pub rest : List ℕ
  pub due' : Option ℕ
  pub goes : GoesOn text due k bytes rest due'
  pub some : 0 < length rest
  pub faulty : Faulty fault rest due'

-- good lines to the end
pub record Through (text : List ℕ) (due : Option ℕ) (bytes : List ℕ) : Type 0 where
  pub lines : ℕ
  pub due' : Option ℕ
  pub goes : GoesOn text due lines bytes [] due'
