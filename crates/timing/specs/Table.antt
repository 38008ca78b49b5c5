-- In which cycle of its instruction each access stands: 004's table 12, "Cycle by Cycle Operation", the accesses in their order. The opcode is
-- fetched in cycle 1, then come the operand's bytes, then the data. The dummy reads of table 12 are no accesses, and stand nowhere.
-- Misprints of table 12: in direct JSR cycle 2 is "Irrelevant Data" (it is the address byte) and cycle 5 "Stack Pointer + 1" (- 1); ADDD is "ADD" beside CPX
-- and SUBD; BGT, BVS and BRN stand in BSR's rows (they are branches of 3 cycles).
use Rattle.std.specs.Prelude.{ℕ, Bool, cond, List, [], ◌∷◌}
use Rattle.opcodes.specs.declared.Operation.{Operation}
use Rattle.opcodes.specs.declared.Operation.TheVariants.{Internal, Dyadic, Monadic, Tst, Sta, Wide, WideStore, Psh, Pul, Pshx, Pulx}
use Rattle.opcodes.specs.declared.Operation.TheVariants.{Branch, Jmp, Jsr, Bsr, Rts, Rti, Swi, Wai}
use Rattle.opcodes.specs.declared.Place.{Place}
use Rattle.opcodes.specs.declared.Place.TheVariants.{Inherent, AccumulatorA, AccumulatorB, ImmediateByte, ImmediateWord}
use Rattle.opcodes.specs.declared.Place.TheVariants.{Direct, Indexed, Extended, Relative}

-- by the place: its own column, direct, indexed or extended; at every other place the instruction's own bytes are all that is read
abbrev pub placed : List ℕ → List ℕ → List ℕ → Place → List ℕ
placed direct indexed extended Inherent = 1 ∷ []
placed direct indexed extended AccumulatorA = 1 ∷ []
placed direct indexed extended AccumulatorB = 1 ∷ []
placed direct indexed extended ImmediateByte = 1 ∷ 2 ∷ []
placed direct indexed extended ImmediateWord = 1 ∷ 2 ∷ 3 ∷ []
placed direct indexed extended Direct = direct
placed direct indexed extended Indexed = indexed
placed direct indexed extended Extended = extended
placed direct indexed extended Relative = 1 ∷ 2 ∷ []

-- all seven bytes of the registers are pushed in cycles 3 to 9
abbrev pub stacking : List ℕ → List ℕ
stacking rest = 3 ∷ 4 ∷ 5 ∷ 6 ∷ 7 ∷ 8 ∷ 9 ∷ rest

-- for each operation the direct, the indexed and the extended column, [] where table 12 has no such row; one list where it stands at one place
unfoldable pub access_cycles : Operation → Place → List ℕ
-- ADC ADD AND BIT CMP EOR LDA ORA SBC SUB, and STA
access_cycles (Dyadic op acc) place = placed (1 ∷ 2 ∷ 3 ∷ []) (1 ∷ 2 ∷ 4 ∷ []) (1 ∷ 2 ∷ 3 ∷ 4 ∷ []) place
access_cycles (Sta acc) place = placed (1 ∷ 2 ∷ 3 ∷ []) (1 ∷ 2 ∷ 4 ∷ []) (1 ∷ 2 ∷ 3 ∷ 4 ∷ []) place
-- LDS LDX LDD, CPX SUBD ADDD (whose last cycle makes no access), and STS STX STD
access_cycles (Wide op) place = placed (1 ∷ 2 ∷ 3 ∷ 4 ∷ []) (1 ∷ 2 ∷ 4 ∷ 5 ∷ []) (1 ∷ 2 ∷ 3 ∷ 4 ∷ 5 ∷ []) place
access_cycles (WideStore op) place = placed (1 ∷ 2 ∷ 3 ∷ 4 ∷ []) (1 ∷ 2 ∷ 4 ∷ 5 ∷ []) (1 ∷ 2 ∷ 3 ∷ 4 ∷ 5 ∷ []) place
-- ASL ASR CLR COM DEC INC LSR NEG ROL ROR, read in 4 and written in 6; TST: "R/W line of the sixth cycle is "1" level"
access_cycles (Monadic op) place = placed [] (1 ∷ 2 ∷ 4 ∷ 6 ∷ []) (1 ∷ 2 ∷ 3 ∷ 4 ∷ 6 ∷ []) place
access_cycles Tst place = placed [] (1 ∷ 2 ∷ 4 ∷ []) (1 ∷ 2 ∷ 3 ∷ 4 ∷ []) place
-- JMP; JSR, which pushes in its last two cycles, and BSR
access_cycles Jmp place = placed [] (1 ∷ 2 ∷ []) (1 ∷ 2 ∷ 3 ∷ []) place
access_cycles Jsr place = placed (1 ∷ 2 ∷ 4 ∷ 5 ∷ []) (1 ∷ 2 ∷ 5 ∷ 6 ∷ []) (1 ∷ 2 ∷ 3 ∷ 5 ∷ 6 ∷ []) place
access_cycles Bsr place = 1 ∷ 2 ∷ 5 ∷ 6 ∷ []
-- the branches; what works on the registers alone
access_cycles (Branch test) place = 1 ∷ 2 ∷ []
access_cycles (Internal op) place = 1 ∷ []
-- PSHA PSHB, PULA PULB, PSHX, PULX, RTS; WAI, RTI, SWI with its vector
access_cycles (Psh acc) place = 1 ∷ 3 ∷ []
access_cycles (Pul acc) place = 1 ∷ 4 ∷ []
access_cycles Pshx place = 1 ∷ 3 ∷ 4 ∷ []
access_cycles Pulx place = 1 ∷ 4 ∷ 5 ∷ []
access_cycles Rts place = 1 ∷ 4 ∷ 5 ∷ []
access_cycles Wai place = 1 ∷ stacking []
access_cycles Rti place = 1 ∷ 4 ∷ 5 ∷ 6 ∷ 7 ∷ 8 ∷ 9 ∷ 10 ∷ []
access_cycles Swi place = 1 ∷ stacking (11 ∷ 12 ∷ [])

-- An interrupt's entry has no row. It stacks and loads its vector in SWI's twelve cycles, and out of a wait in the last four of them.
abbrev pub entry_accesses : Bool → List ℕ
entry_accesses waiting = cond waiting (3 ∷ 4 ∷ []) (stacking (11 ∷ 12 ∷ []))
