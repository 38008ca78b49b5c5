-- The columns of the table fit each other: a length is the opcode and the bytes of the place, and an operation stands only at its
-- own places. One test computed over the table. Assumes nothing.
use Rattle.std.proofs.Common.{◌≡◌, ℕ, ◌+◌, Bool, true, false, ◌&&◌, ◌||◌, T, eqb, ◌⊎◌, List, [], ◌∷◌, get_or, sym, refl, ap, ◌∙◌, subst, inl, inr, ⊎_elim, eqb→eq, Option, None, Some}
use Rattle.opcodes.specs.Opcodes.{decode_of}
use Rattle.opcodes.specs.Fits.{operand_bytes, places_of, Among}
use Rattle.opcodes.specs.declared.Instruction.{Instruction}
use Rattle.opcodes.specs.declared.Place.{Place}
use Rattle.opcodes.specs.declared.Place.TheVariants.{Inherent, AccumulatorA, AccumulatorB, ImmediateByte, ImmediateWord}
use Rattle.opcodes.specs.declared.Place.TheVariants.{Direct, Indexed, Extended, Relative}
use Rattle.opcodes.proofs.Table.{both, passes}

-- two places are told apart by their numbers
abbrev places : List Place
places = Inherent ∷ AccumulatorA ∷ AccumulatorB ∷ ImmediateByte ∷ ImmediateWord ∷ Direct ∷ Indexed ∷ Extended ∷ Relative ∷ []

abbrev number : Place → ℕ
number Inherent = 0
number AccumulatorA = 1
number AccumulatorB = 2
number ImmediateByte = 3
number ImmediateWord = 4
number Direct = 5
number Indexed = 6
number Extended = 7
number Relative = 8

numbered : (p : Place) → get_or places (number p) Inherent ≡ p
numbered Inherent = refl
numbered AccumulatorA = refl
numbered AccumulatorB = refl
numbered ImmediateByte = refl
numbered ImmediateWord = refl
numbered Direct = refl
numbered Indexed = refl
numbered Extended = refl
numbered Relative = refl

same : (p q : Place) → T (eqb (number p) (number q)) → p ≡ q
same p q t = sym (numbered p) ∙ ap (λ (k : ℕ). get_or places k Inherent) (eqb→eq (number p) (number q) t) ∙ numbered q

either : (a b : Bool) → T (a || b) → T a ⊎ T b
either true b t = inl tt
either false b t = inr t

abbrev is_among : Place → List Place → Bool
is_among p [] = false
is_among p (q ∷ qs) = eqb (number p) (number q) || is_among p qs

among : (p : Place) (qs : List Place) → T (is_among p qs) → Among p qs
among p [] t = absurd t
among p (q ∷ qs) t = ⊎_elim (λ h. inl (same p q h)) (λ h. inr (among p qs h)) (either (eqb (number p) (number q)) (is_among p qs) t)

abbrev fit : Option Instruction → Bool
fit None = true
fit (Some i) = eqb i.length (1 + operand_bytes i.place) && is_among i.place (places_of i.operation)

pub fits : (n : ℕ) (i : Instruction) → decode_of n ≡ Some i
    → (i.length ≡ 1 + operand_bytes i.place) × Among i.place (places_of i.operation)
fits n i e =
    let b = both (eqb i.length (1 + operand_bytes i.place)) (is_among i.place (places_of i.operation))
    (subst (λ (d : Option Instruction). T (fit d)) e (passes fit tt tt n)) in
    (eqb→eq i.length (1 + operand_bytes i.place) b.0, among i.place (places_of i.operation) b.1)
