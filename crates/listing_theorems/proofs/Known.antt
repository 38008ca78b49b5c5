-- What is computed over the table: each defined opcode is the first that has its mnemonic and form, which are not those of a data byte. Assumes nothing.
use Prim.Native.Nat.{ℕ, zero, suc, ◌+◌, ◌<◌}
use native.Mathlib.Nat.{add-zero}
use native.Mathlib.Omega.{arith}
use mathlib.Core.Path.{◌≡◌, refl, sym, ap, subst, ◌∙◌}
use mathlib.Core.Logic.{◌⊎◌, inl, inr, ⊎_elim}
use mathlib.Core.Bool.{Bool, true, false, cond, not, ◌&&◌}
use mathlib.Core.List.{List}
use lib.Dec.{eqb}
use lib.ListN.{get_or, length}
use borrow.Author.Tests.{eqb-true, not-true}
use Rattle.laws.proofs.Apart.{apart}
use Rattle.laws.proofs.Bools.{both}
use Rattle.tables.proofs.Rows.{from, agree}
use Rattle.opcodes.specs.Opcodes.{decode_of}
use Rattle.opcodes.specs.declared.Instruction.{Instruction}
use Rattle.std.specs.Prelude.{Option, None, Some}
use Rattle.mnemonics.specs.Mnemonics.{mnemonic_of}
use Rattle.listing_lines.specs.Lines.{form_of}
use Rattle.listing_lines.specs.declared.Form.{Form}
use Rattle.listing_codes.specs.Codes.{is_written, first_from, code_for, is_data}
use Rattle.listing_codes.proofs.Laws.{table_ends}

abbrev pub name_of : Instruction → List ℕ
name_of i = mnemonic_of i.operation i.place

abbrev known : ℕ → Option Instruction → Bool
known op None = true
known op (Some i) =
    eqb (code_for (name_of i) (form_of i.place)) op
    && (not (is_data (name_of i) (form_of i.place)) && (not (eqb (get_or (name_of i) 3 0) 10) && eqb (length (name_of i)) 4))

table : from (λ (op : ℕ). known op (decode_of op)) 0 256 ≡ from (λ (op : ℕ). true) 0 256
unfolding decode_of code_for mnemonic_of
table = refl

pub record Known (op : ℕ) (i : Instruction) : Type 0 where
  pub code : code_for (name_of i) (form_of i.place) ≡ op
  pub no_data : is_data (name_of i) (form_of i.place) ≡ false
  pub no_end_lem : eqb (get_or (name_of i) 3 0) 10 ≡ false
  pub four : length (name_of i) ≡ 4

pub known_at : (op : ℕ) (i : Instruction) → op < 256 → decode_of op ≡ Some i → Known op i
known_at op i h e =
    let t = subst (λ (d : Option Instruction). known op d ≡ true) e (agree (λ (op : ℕ). known op (decode_of op)) (λ (op : ℕ). true) 256 table op h) in
    let b = both (eqb (code_for (name_of i) (form_of i.place)) op) _ t in
    let c = both (not (is_data (name_of i) (form_of i.place))) _ b.1 in
    let d = both (not (eqb (get_or (name_of i) 3 0) 10)) _ c.1 in
    record { code = eqb-true _ _ b.0; no_data = not-true _ c.0; no_end_lem = not-true _ d.0; four = eqb-true _ _ d.1 }

-- what a search finds passes its test
abbrev Found : (ℕ → Bool) → ℕ → ℕ → Type 0
Found test end m = (m ≡ end) ⊎ ((test m ≡ true) × (m < end))

first_found : (test : ℕ → Bool) (k n : ℕ) → Found test (k + n) (first_from test k n)
first_found test k zero = inl (sym (add-zero k))
first_found test k (suc n) = by (test k) refl (first_from test (suc k) n) (first_found test (suc k) n)
  where
    by : (t : Bool) → test k ≡ t → (m : ℕ) → Found test (suc k + n) m → Found test (k + suc n) (cond t k m)
    by true e m f = inr (e, omega arith)
    by false e m (inl f) = inl (omega arith)
    by false e m (inr f) = inr (f.0, omega arith)

-- a mnemonic and form for which an opcode is found are those of that opcode
pub found_at : (name : List ℕ) (form : Form) (i : Instruction) → decode_of (code_for name form) ≡ Some i
    → (is_written name form (Some i) ≡ true) × (code_for name form < 256)
unfolding code_for
found_at name form i e =
    ⊎_elim (λ n. let z : None ≡ Some i = sym table_ends ∙ ap decode_of (sym n) ∙ e in apart cc)
    (λ f. (subst (λ (d : Option Instruction). is_written name form d ≡ true) e f.0, f.1))
    (first_found (λ (op : ℕ). is_written name form (decode_of op)) 0 256)
