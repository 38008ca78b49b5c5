-- What the operations of each shape do around their accesses: the address, what is stored, and the registers with what came.
-- `at` is the operand's address; c has PC past the instruction.
use Rattle.std.specs.Prelude.{ℕ, cond}
use Rattle.bits.specs.Words.{up, down}
use Rattle.opcodes.specs.declared.Branch.{Branch}
use Rattle.opcodes.specs.declared.WideStore.{WideStore}
use Rattle.arithmetic.specs.Results.{dyadic_of, monadic_of, tested_of, moved_of, moved16_of}
use Rattle.arithmetic.specs.Branches.{taken_of}
use Rattle.registers.specs.declared.Registers.{Registers}
use Rattle.registers.specs.Registers.{with_x, with_sp, with_pc, with_codes, accumulator, with_accumulator, result_in, internal_of, wide_of, stored_of}
use Rattle.operations.specs.declared.Quiet.{Quiet}
use Rattle.operations.specs.declared.Quiet.TheVariants as quiet
use Rattle.operations.specs.declared.Loading.{Loading}
use Rattle.operations.specs.declared.Loading.TheVariants as loading
use Rattle.operations.specs.declared.LoadingWord.{LoadingWord}
use Rattle.operations.specs.declared.LoadingWord.TheVariants as loadingWord
use Rattle.operations.specs.declared.Storing.{Storing}
use Rattle.operations.specs.declared.Storing.TheVariants as storing
use Rattle.operations.specs.declared.Pushing.{Pushing}
use Rattle.operations.specs.declared.Pushing.TheVariants as pushing

-- no access
abbrev pub branch : Branch → ℕ → Registers → Registers
branch test at c = cond (taken_of test c.codes) (with_pc c at) c

unfoldable pub quiet_of : Quiet → ℕ → Registers → Registers
quiet_of (quiet.Internal op) at c = internal_of op c
quiet_of (quiet.Monadic op acc) at c = result_in acc c (monadic_of op (accumulator acc c) c.codes)
quiet_of (quiet.Tst acc) at c = with_codes c (tested_of (accumulator acc c) c.codes)
quiet_of (quiet.Branch test) at c = branch test at c
quiet_of quiet.Jmp at c = with_pc c at

-- a byte is loaded; a pull's is above SP
unfoldable pub load_at : Loading → ℕ → Registers → ℕ
load_at (loading.Dyadic op acc) at c = at
load_at loading.Tst at c = at
load_at (loading.Pul acc) at c = up c.sp 1

unfoldable pub loaded_of : Loading → ℕ → Registers → Registers
loaded_of (loading.Dyadic op acc) v c = result_in acc c (dyadic_of op (accumulator acc c) v c.codes)
loaded_of loading.Tst v c = with_codes c (tested_of v c.codes)
loaded_of (loading.Pul acc) v c = with_accumulator acc (with_sp c (up c.sp 1)) v

-- a word is loaded
unfoldable pub load_word_at : LoadingWord → ℕ → Registers → ℕ
load_word_at (loadingWord.Wide op) at c = at
load_word_at loadingWord.Pulx at c = up c.sp 1
load_word_at loadingWord.Rts at c = up c.sp 1

unfoldable pub loaded_word_of : LoadingWord → ℕ → Registers → Registers
loaded_word_of (loadingWord.Wide op) w c = wide_of op w c
loaded_word_of loadingWord.Pulx w c = with_x (with_sp c (up (up c.sp 1) 1)) w
loaded_word_of loadingWord.Rts w c = with_pc (with_sp c (up (up c.sp 1) 1)) w

-- a byte is stored; a push's goes to SP
unfoldable pub store_at : Storing → ℕ → Registers → ℕ
store_at (storing.Sta acc) at c = at
store_at (storing.Psh acc) at c = c.sp

unfoldable pub store_byte : Storing → Registers → ℕ
store_byte (storing.Sta acc) c = accumulator acc c
store_byte (storing.Psh acc) c = accumulator acc c

unfoldable pub stored_then : Storing → Registers → Registers
stored_then (storing.Sta acc) c = with_codes c (moved_of (accumulator acc c) c.codes)
stored_then (storing.Psh acc) c = with_sp c (down c.sp 1)

-- a word is stored
unfoldable pub stored_word_then : WideStore → Registers → Registers
stored_word_then op c = with_codes c (moved16_of (stored_of op c) c.codes)

-- a word is pushed; then c has SP below it
unfoldable pub word_of : Pushing → Registers → ℕ
word_of pushing.Pshx c = c.x
word_of pushing.Jsr c = c.pc

unfoldable pub pushed_then : Pushing → ℕ → Registers → Registers
pushed_then pushing.Pshx at c = c
pushed_then pushing.Jsr at c = with_pc c at
