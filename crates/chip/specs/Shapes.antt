-- The trees of the shapes: the accesses, around what `operations` says of addresses, bytes and registers.
-- proofs/Shapes.antt: the tree of every operation is that of its shape.
use Rattle.std.specs.Prelude.{ℕ}
use Rattle.opcodes.specs.declared.Monadic.{Monadic}
use Rattle.opcodes.specs.declared.WideStore.{WideStore}
use Rattle.arithmetic.specs.Results.{monadic_of}
use Rattle.registers.specs.declared.Registers.{Registers}
use Rattle.registers.specs.Registers.{with_codes, stored_of}
use Rattle.operations.specs.declared.Loading.{Loading}
use Rattle.operations.specs.declared.LoadingWord.{LoadingWord}
use Rattle.operations.specs.declared.Storing.{Storing}
use Rattle.operations.specs.declared.Pushing.{Pushing}
use Rattle.operations.specs.declared.Shape.{Shape}
use Rattle.operations.specs.declared.Shape.TheVariants.{Nothing, Load, LoadWord, Store, StoreWord, Modify, PushWord, Rti, Swi, Wai}
use Rattle.operations.specs.Operations.{quiet_of, load_at, loaded_of, load_word_at, loaded_word_of}
use Rattle.operations.specs.Operations.{store_at, store_byte, stored_then, stored_word_then, word_of, pushed_then}
use Rattle.chip.specs.Act.{Act, Act.done, read, write, ◌>>=◌, ◌>>◌}
use Rattle.chip.specs.Instructions.{read2, write2, push2, rti, swi, wai}

unfoldable pub loads : Loading → ℕ → Registers → Act Registers
loads op at c = do
  v ← read (load_at op at c)
  done (loaded_of op v c)

unfoldable pub loads_word : LoadingWord → ℕ → Registers → Act Registers
loads_word op at c = do
  w ← read2 (load_word_at op at c)
  done (loaded_word_of op w c)

unfoldable pub stores : Storing → ℕ → Registers → Act Registers
stores op at c = do
  write (store_at op at c) (store_byte op c)
  done (stored_then op c)

unfoldable pub stores_word : WideStore → ℕ → Registers → Act Registers
stores_word op at c = do
  write2 at (stored_of op c)
  done (stored_word_then op c)

unfoldable pub modifies : Monadic → ℕ → Registers → Act Registers
modifies op at c = do
  v ← read at
  write at (monadic_of op v c.codes).value
  done (with_codes c (monadic_of op v c.codes).codes)

unfoldable pub pushes_word : Pushing → ℕ → Registers → Act Registers
pushes_word op at c = do
  e ← push2 (word_of op c) c
  done (pushed_then op at e)

unfoldable pub shaped : Shape → ℕ → Registers → Act Registers
shaped (Nothing op) at c = done (quiet_of op at c)
shaped (Load op) at c = loads op at c
shaped (LoadWord op) at c = loads_word op at c
shaped (Store op) at c = stores op at c
shaped (StoreWord op) at c = stores_word op at c
shaped (Modify op) at c = modifies op at c
shaped (PushWord op) at c = pushes_word op at c
shaped Rti at c = rti c
shaped Swi at c = swi c
shaped Wai at c = wai c
