-- Each access of an instruction has its cycle in the table, and each cycle of the table its access: for all 220, whatever the registers hold and
-- whatever is read; and so has an interrupt's entry. Assumes nothing.
use Prim.Native.Nat.{ℕ}
use mathlib.Core.Bool.{Bool, true, false, cond}
use mathlib.Core.List.{List, [], ◌∷◌}
use mathlib.Core.Logic.{inl, inr}
use mathlib.Core.Path.{◌≡◌, subst⁻¹}
use Rattle.opcodes.specs.declared.Operation.{Operation}
use Rattle.opcodes.specs.declared.Operation.TheVariants as operations
use Rattle.opcodes.specs.declared.Instruction.{Instruction}
use Rattle.std.specs.Prelude.{Some}
use Rattle.opcodes.specs.declared.Place.{Place}
use Rattle.opcodes.specs.Opcodes.{decode_of}
use Rattle.opcodes.specs.Fits.{places_of, Among}
use Rattle.opcodes.proofs.Fits.{fits}
use Rattle.timing.specs.Table.{access_cycles, entry_accesses}
use Rattle.registers.specs.declared.Registers.{Registers}
use Rattle.chip.specs.Act.{Act, Act.done, Act.reading, Act.writing, read, write, ◌>>=◌}
use Rattle.chip.specs.Instructions.{read2, write2, operand, dyadic, monadic, tst, sta, wide, wide_store, push, push2, pull, pull2, psh, pul, pshx, pulx}
use Rattle.chip.specs.Instructions.{jsr, rts, stack_all, rti, vectored, swi, wai, enter, operate, execute}

-- a tree makes as many accesses as cycles are listed, whatever is read
abbrev pub Makes : {A : Type 0} → List ℕ → Act A → Type 0
Makes [] (done a) = Unit {0}
Makes [] (reading at f) = ⊥
Makes [] (writing at v t) = ⊥
Makes (k ∷ ks) (done a) = ⊥
Makes (k ∷ ks) (reading at f) = (v : ℕ) → Makes ks (f v)
Makes (k ∷ ks) (writing at v t) = Makes ks t

-- an operation at a place, whatever its length and its cycles
abbrev At : Operation → Place → Type 0
At op place = (c : Registers) (l n : ℕ) → Makes (access_cycles op place) (execute (record { operation = op; place = place; length = l; cycles = n }) c)

at : (op : Operation) {place own : Place} → place ≡ own → At op own → At op place
at op e h = subst⁻¹ (At op) e h

each : (op : Operation) (place : Place) → Among place (places_of op) → At op place
unfolding access_cycles execute operand operate read write read2 write2 ◌>>=◌ dyadic monadic tst sta wide wide_store push push2 pull pull2 psh pul pshx pulx
    jsr rts stack_all rti vectored swi wai
each (operations.Internal op) place (inl e) = at (operations.Internal op) e (λ c l n _. tt)
each (operations.Internal op) place (inr h) = absurd h
each (operations.Dyadic op acc) place (inl e) = at (operations.Dyadic op acc) e (λ c l n _ _. tt)
each (operations.Dyadic op acc) place (inr (inl e)) = at (operations.Dyadic op acc) e (λ c l n _ _ _. tt)
each (operations.Dyadic op acc) place (inr (inr (inl e))) = at (operations.Dyadic op acc) e (λ c l n _ _ _. tt)
each (operations.Dyadic op acc) place (inr (inr (inr (inl e)))) = at (operations.Dyadic op acc) e (λ c l n _ _ _ _. tt)
each (operations.Dyadic op acc) place (inr (inr (inr (inr h)))) = absurd h
each (operations.Monadic op) place (inl e) = at (operations.Monadic op) e (λ c l n _. tt)
each (operations.Monadic op) place (inr (inl e)) = at (operations.Monadic op) e (λ c l n _. tt)
each (operations.Monadic op) place (inr (inr (inl e))) = at (operations.Monadic op) e (λ c l n _ _ _. tt)
each (operations.Monadic op) place (inr (inr (inr (inl e)))) = at (operations.Monadic op) e (λ c l n _ _ _ _. tt)
each (operations.Monadic op) place (inr (inr (inr (inr h)))) = absurd h
each operations.Tst place (inl e) = at operations.Tst e (λ c l n _. tt)
each operations.Tst place (inr (inl e)) = at operations.Tst e (λ c l n _. tt)
each operations.Tst place (inr (inr (inl e))) = at operations.Tst e (λ c l n _ _ _. tt)
each operations.Tst place (inr (inr (inr (inl e)))) = at operations.Tst e (λ c l n _ _ _ _. tt)
each operations.Tst place (inr (inr (inr (inr h)))) = absurd h
each (operations.Sta acc) place (inl e) = at (operations.Sta acc) e (λ c l n _ _. tt)
each (operations.Sta acc) place (inr (inl e)) = at (operations.Sta acc) e (λ c l n _ _. tt)
each (operations.Sta acc) place (inr (inr (inl e))) = at (operations.Sta acc) e (λ c l n _ _ _. tt)
each (operations.Sta acc) place (inr (inr (inr h))) = absurd h
each (operations.Wide op) place (inl e) = at (operations.Wide op) e (λ c l n _ _ _. tt)
each (operations.Wide op) place (inr (inl e)) = at (operations.Wide op) e (λ c l n _ _ _ _. tt)
each (operations.Wide op) place (inr (inr (inl e))) = at (operations.Wide op) e (λ c l n _ _ _ _. tt)
each (operations.Wide op) place (inr (inr (inr (inl e)))) = at (operations.Wide op) e (λ c l n _ _ _ _ _. tt)
each (operations.Wide op) place (inr (inr (inr (inr h)))) = absurd h
each (operations.WideStore op) place (inl e) = at (operations.WideStore op) e (λ c l n _ _. tt)
each (operations.WideStore op) place (inr (inl e)) = at (operations.WideStore op) e (λ c l n _ _. tt)
each (operations.WideStore op) place (inr (inr (inl e))) = at (operations.WideStore op) e (λ c l n _ _ _. tt)
each (operations.WideStore op) place (inr (inr (inr h))) = absurd h
each (operations.Psh acc) place (inl e) = at (operations.Psh acc) e (λ c l n _. tt)
each (operations.Psh acc) place (inr h) = absurd h
each (operations.Pul acc) place (inl e) = at (operations.Pul acc) e (λ c l n _ _. tt)
each (operations.Pul acc) place (inr h) = absurd h
each operations.Pshx place (inl e) = at operations.Pshx e (λ c l n _. tt)
each operations.Pshx place (inr h) = absurd h
each operations.Pulx place (inl e) = at operations.Pulx e (λ c l n _ _ _. tt)
each operations.Pulx place (inr h) = absurd h
each (operations.Branch test) place (inl e) = at (operations.Branch test) e (λ c l n _ _. tt)
each (operations.Branch test) place (inr h) = absurd h
each operations.Jmp place (inl e) = at operations.Jmp e (λ c l n _ _. tt)
each operations.Jmp place (inr (inl e)) = at operations.Jmp e (λ c l n _ _ _. tt)
each operations.Jmp place (inr (inr h)) = absurd h
each operations.Jsr place (inl e) = at operations.Jsr e (λ c l n _ _. tt)
each operations.Jsr place (inr (inl e)) = at operations.Jsr e (λ c l n _ _. tt)
each operations.Jsr place (inr (inr (inl e))) = at operations.Jsr e (λ c l n _ _ _. tt)
each operations.Jsr place (inr (inr (inr h))) = absurd h
each operations.Bsr place (inl e) = at operations.Bsr e (λ c l n _ _. tt)
each operations.Bsr place (inr h) = absurd h
each operations.Rts place (inl e) = at operations.Rts e (λ c l n _ _ _. tt)
each operations.Rts place (inr h) = absurd h
each operations.Rti place (inl e) = at operations.Rti e (λ c l n _ _ _ _ _ _ _ _. tt)
each operations.Rti place (inr h) = absurd h
each operations.Swi place (inl e) = at operations.Swi e (λ c l n _ _ _. tt)
each operations.Swi place (inr h) = absurd h
each operations.Wai place (inl e) = at operations.Wai e (λ c l n _. tt)
each operations.Wai place (inr h) = absurd h

pub instruction_listed : (opcode : ℕ) (i : Instruction) → decode_of opcode ≡ Some i → (c : Registers)
    → Makes (access_cycles i.operation i.place) (execute i c)
instruction_listed opcode i e c = each i.operation i.place (fits opcode i e).1 c i.length i.cycles

pub entry_listed : (vector : ℕ) (c : Registers) → Makes (entry_accesses c.waiting) (enter vector c)
unfolding enter read write read2 ◌>>=◌ push push2 stack_all vectored
entry_listed vector c = by c.waiting
  where
    by : (waiting : Bool) → Makes (entry_accesses waiting) (cond waiting (done c) (stack_all c) >>= (λ d. vectored vector d))
    by true = λ _ _. tt
    by false = λ _ _. tt
