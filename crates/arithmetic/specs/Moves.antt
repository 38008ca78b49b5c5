-- Not to be believed, but proved: the law of the trait `Width`, whose proofs the check lets stand nowhere else. A byte and a word that are moved: the
-- definitions that the units cite are the one over the weight of the top bit. Assumes nothing.
use Rattle.std.specs.Prelude.{◌≡◌, ℕ, false, refl}
use Rattle.arithmetic.specs.Results.{after, moved_of, moved16_of}
use Rattle.arithmetic.specs.declared.Codes.{Codes}

pub byte_moves : (r : ℕ) (k : Codes) → after 128 r false k.c k ≡ moved_of r k
unfolding moved_of
byte_moves r k = refl

pub word_moves : (r : ℕ) (k : Codes) → after 32768 r false k.c k ≡ moved16_of r k
unfolding moved16_of
word_moves r k = refl
