-- What a place says by itself: how many bytes of the instruction it takes, and whose operand it can be.
-- proofs/Fits.antt: every defined opcode's length and place are these.
use Rattle.std.specs.Prelude.{◌≡◌, ℕ, ◌⊎◌, List, [], ◌∷◌}
use Rattle.opcodes.specs.declared.Operation.{Operation}
use Rattle.opcodes.specs.declared.Operation.TheVariants.{Internal, Dyadic, Monadic, Tst, Sta, Wide, WideStore, Psh, Pul, Pshx, Pulx}
use Rattle.opcodes.specs.declared.Operation.TheVariants.{Branch, Jmp, Jsr, Bsr, Rts, Rti, Swi, Wai}
use Rattle.opcodes.specs.declared.Place.{Place}
use Rattle.opcodes.specs.declared.Place.TheVariants.{Inherent, AccumulatorA, AccumulatorB, ImmediateByte, ImmediateWord}
use Rattle.opcodes.specs.declared.Place.TheVariants.{Direct, Indexed, Extended, Relative}

-- the bytes after the opcode
abbrev pub operand_bytes : Place → ℕ
operand_bytes Inherent = 0
operand_bytes AccumulatorA = 0
operand_bytes AccumulatorB = 0
operand_bytes ImmediateByte = 1
operand_bytes ImmediateWord = 2
operand_bytes Direct = 1
operand_bytes Indexed = 1
operand_bytes Extended = 2
operand_bytes Relative = 1

-- where an operation's operand can be: its columns in tables 7 to 10 of 004
abbrev pub places_of : Operation → List Place
places_of (Internal op) = Inherent ∷ []
places_of (Dyadic op acc) = ImmediateByte ∷ Direct ∷ Indexed ∷ Extended ∷ []
places_of (Monadic op) = AccumulatorA ∷ AccumulatorB ∷ Indexed ∷ Extended ∷ []
places_of Tst = AccumulatorA ∷ AccumulatorB ∷ Indexed ∷ Extended ∷ []
places_of (Sta acc) = Direct ∷ Indexed ∷ Extended ∷ []
places_of (Wide op) = ImmediateWord ∷ Direct ∷ Indexed ∷ Extended ∷ []
places_of (WideStore op) = Direct ∷ Indexed ∷ Extended ∷ []
places_of (Psh acc) = Inherent ∷ []
places_of (Pul acc) = Inherent ∷ []
places_of Pshx = Inherent ∷ []
places_of Pulx = Inherent ∷ []
places_of (Branch test) = Relative ∷ []
places_of Jmp = Indexed ∷ Extended ∷ []
places_of Jsr = Direct ∷ Indexed ∷ Extended ∷ []
places_of Bsr = Relative ∷ []
places_of Rts = Inherent ∷ []
places_of Rti = Inherent ∷ []
places_of Swi = Inherent ∷ []
places_of Wai = Inherent ∷ []

-- x is one of a list
abbrev pub Among : {A : Type 0} → A → List A → Type 0
Among x [] = ⊥
Among x (y ∷ ys) = (x ≡ y) ⊎ Among x ys
