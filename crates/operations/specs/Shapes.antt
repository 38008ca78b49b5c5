-- Which accesses each operation makes. Every operation but RTI, SWI and WAI has one of seven shapes: no access, a load or a store of a byte or
-- a word, a byte that is modified in its place, a word that is pushed.
use Rattle.std.specs.Prelude.{Option, None, Some}
use Rattle.opcodes.specs.declared.Accumulator.{Accumulator}
use Rattle.opcodes.specs.declared.Accumulator.TheVariants.{A, B}
use Rattle.opcodes.specs.declared.Monadic.{Monadic}
use Rattle.opcodes.specs.declared.Operation.{Operation}
use Rattle.opcodes.specs.declared.Operation.TheVariants as operations
use Rattle.opcodes.specs.declared.Place.{Place}
use Rattle.opcodes.specs.declared.Place.TheVariants.{Inherent, AccumulatorA, AccumulatorB, ImmediateByte, ImmediateWord, Direct, Indexed, Extended, Relative}
use Rattle.operations.specs.declared.Quiet.TheVariants as quiet
use Rattle.operations.specs.declared.Loading.TheVariants as loading
use Rattle.operations.specs.declared.LoadingWord.TheVariants as loadingWord
use Rattle.operations.specs.declared.Storing.TheVariants as storing
use Rattle.operations.specs.declared.Pushing.TheVariants as pushing
use Rattle.operations.specs.declared.Shape.{Shape}
use Rattle.operations.specs.declared.Shape.TheVariants.{Nothing, Load, LoadWord, Store, StoreWord, Modify, PushWord, Rti, Swi, Wai}

-- The accumulator that an operation on one byte is for: none where it is for memory. Such an operation stands at A, at B, indexed or extended, and at no other
-- of these places (`places_of` of opcodes, proved of the whole table).
abbrev pub target_of : Place → Option Accumulator
target_of Inherent = None
target_of AccumulatorA = Some A
target_of AccumulatorB = Some B
target_of ImmediateByte = None
target_of ImmediateWord = None
target_of Direct = None
target_of Indexed = None
target_of Extended = None
target_of Relative = None

abbrev pub monadic_shape : Monadic → Option Accumulator → Shape
monadic_shape op (Some acc) = Nothing (quiet.Monadic op acc)
monadic_shape op None = Modify op

abbrev pub tst_shape : Option Accumulator → Shape
tst_shape (Some acc) = Nothing (quiet.Tst acc)
tst_shape None = Load loading.Tst

unfoldable pub shape_of : Operation → Place → Shape
shape_of (operations.Internal op) place = Nothing (quiet.Internal op)
shape_of (operations.Dyadic op acc) place = Load (loading.Dyadic op acc)
shape_of (operations.Monadic op) place = monadic_shape op (target_of place)
shape_of operations.Tst place = tst_shape (target_of place)
shape_of (operations.Sta acc) place = Store (storing.Sta acc)
shape_of (operations.Wide op) place = LoadWord (loadingWord.Wide op)
shape_of (operations.WideStore op) place = StoreWord op
shape_of (operations.Psh acc) place = Store (storing.Psh acc)
shape_of (operations.Pul acc) place = Load (loading.Pul acc)
shape_of operations.Pshx place = PushWord pushing.Pshx
shape_of operations.Pulx place = LoadWord loadingWord.Pulx
shape_of (operations.Branch test) place = Nothing (quiet.Branch test)
shape_of operations.Jmp place = Nothing quiet.Jmp
shape_of operations.Jsr place = PushWord pushing.Jsr
shape_of operations.Bsr place = PushWord pushing.Jsr
shape_of operations.Rts place = LoadWord loadingWord.Rts
shape_of operations.Rti place = Rti
shape_of operations.Swi place = Swi
shape_of operations.Wai place = Wai
