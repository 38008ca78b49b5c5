-- The laws that the functions of src cite: equal keys are equal characters and forms, a table of keys, and the search. Assumes nothing.
use Prim.Native.Nat.{ℕ, zero, suc, ◌+◌, ◌-◌, ◌*◌, ◌≤◌, ◌<◌}
use native.Mathlib.Numerals.{add-one}
use native.Mathlib.Omega.{arith}
use mathlib.Core.Path.{◌≡◌, refl, sym, ap, ◌∙◌}
use mathlib.Core.Bool.{Bool, true, false, ◌&&◌}
use mathlib.Core.List.{List}
use lib.Dec.{T, eqb, ltb, ltb→lt}
use lib.ListN.{get_or, length, set}
use lib.Seq.{get_or-set_same, get_or-set_other}
use borrow.Author.Tests.{eqb-true, eqb-false, eq-eqb, ne_eqb}
use Rattle.bits.specs.Words.{low, paired, up, down}
use Rattle.laws.proofs.Bools.{both}
use Rattle.laws.proofs.Conds.{picks, passes as passes-by}
use Rattle.opcodes.specs.Opcodes.{decode_of}
use Rattle.opcodes.specs.declared.Place.TheVariants.{Inherent, Relative}
use Rattle.std.specs.Prelude.{Option, None, Some, Err}
use Rattle.opcodes.specs.declared.Instruction.{Instruction}
use Rattle.opcodes.proofs.Table.{passes, both as both-pass}
use Rattle.mnemonics.specs.Mnemonics.{mnemonic_of}
use Rattle.listing_lines.specs.Lines.{form_of, data_name}
use Rattle.listing_lines.specs.declared.Form.{Form}
use Rattle.listing_lines.specs.declared.Form.TheVariants.{Bare, HashByte, HashWord, Byte, Word, Indexed}
use Rattle.listing_codes.specs.Codes.{form_number, same_name, same_form, is_written, first_from, code_for, branch_to, placed_at, coded_as, is_data, coded_of}
use Rattle.listing_codes.specs.Keys.{key_of, Named, decoded_key, key_at}
use Rattle.listing_codes.specs.declared.Unread.TheVariants.{Bad}

-- a key is put together of two numbers of two characters and a form's number
pub key_joined : (name : List ℕ) (form : Form) (h l f : ℕ) → h ≡ paired (get_or name 0 0) (get_or name 1 0) → l ≡ paired (get_or name 2 0) (get_or name 3 0)
    → f ≡ form_number form → (h * 65536 + l) * 8 + f ≡ key_of name form
unfolding key_of
key_joined name form h l f eh el ef = omega arith

small : (form : Form) → form_number form < 8
small Bare = omega arith
small HashByte = omega arith
small HashWord = omega arith
small Byte = omega arith
small Word = omega arith
small Indexed = omega arith

-- four characters and a form as one number, and two such numbers
abbrev sum : ℕ → ℕ → ℕ → ℕ → ℕ → ℕ
sum a b c d f = (((a * 256 + b) * 256 + c) * 256 + d) * 8 + f

module _ (a b c d f p q r s g : ℕ) where
  abbrev alike : Bool
  alike = eqb a p && eqb b q && eqb c r && eqb d s && eqb f g

  sum_same : (a < 256) × (b < 256) × (c < 256) × (d < 256) → f < 8 → (p < 256) × (q < 256) × (r < 256) × (s < 256) → g < 8
      → sum a b c d f ≡ sum p q r s g → alike ≡ true
  sum_same (a256, b256, c256, d256) f8 (p256, q256, r256, s256) g8 e =
      let ea : a ≡ p = omega arith in
      let eb : b ≡ q = omega arith in
      let ec : c ≡ r = omega arith in
      let ed : d ≡ s = omega arith in
      let ef : f ≡ g = omega arith in
      rw (eq-eqb a p ea, eq-eqb b q eb, eq-eqb c r ec, eq-eqb d s ed, eq-eqb f g ef)

  alike_same : alike ≡ true → sum a b c d f ≡ sum p q r s g
  alike_same e =
      let x = both (eqb a p && eqb b q && eqb c r && eqb d s) (eqb f g) e in
      let y = both (eqb a p && eqb b q && eqb c r) (eqb d s) x.0 in
      let z = both (eqb a p && eqb b q) (eqb c r) y.0 in
      let w = both (eqb a p) (eqb b q) z.0 in
      let ea = eqb-true a p w.0 in
      let eb = eqb-true b q w.1 in
      let ec = eqb-true c r z.1 in
      let ed = eqb-true d s y.1 in
      let ef = eqb-true f g x.1 in
      omega arith

-- two tests that follow from each other
agree : (t u : Bool) → (t ≡ true → u ≡ true) → (u ≡ true → t ≡ true) → t ≡ u
agree true u f g = sym (f refl)
agree false true f g = g refl
agree false false f g = refl

-- equal keys are equal characters and equal forms
pub same_key : (x y : List ℕ) (f g : Form) → Named x → Named y → eqb (key_of x f) (key_of y g) ≡ (same_name y x && same_form g f)
unfolding key_of
same_key x y f g h k =
    agree _ _ (λ e. sum_same _ _ _ _ (form_number g) _ _ _ _ (form_number f) k (small g) h (small f) (sym (eqb-true _ _ e)))
    (λ e. eq-eqb _ _ (sym (alike_same _ _ _ _ (form_number g) _ _ _ _ (form_number f) e)))

-- every mnemonic has such characters: one test computed over the table
abbrev named : Option Instruction → Bool
named None = true
named (Some i) =
    let name = mnemonic_of i.operation i.place in
    ltb (get_or name 0 0) 256 && ltb (get_or name 1 0) 256 && ltb (get_or name 2 0) 256 && ltb (get_or name 3 0) 256

table_named : (op : ℕ) → T (named (decode_of op))
unfolding mnemonic_of
table_named op = passes named tt tt op

tests_named : (a b c d : ℕ) → T (ltb a 256 && ltb b 256 && ltb c 256 && ltb d 256) → (a < 256) × (b < 256) × (c < 256) × (d < 256)
tests_named a b c d t =
    let x = both-pass (ltb a 256 && ltb b 256 && ltb c 256) (ltb d 256) t in
    let y = both-pass (ltb a 256 && ltb b 256) (ltb c 256) x.0 in
    let z = both-pass (ltb a 256) (ltb b 256) y.0 in
    (ltb→lt a 256 z.0, ltb→lt b 256 z.1, ltb→lt c 256 y.1, ltb→lt d 256 x.1)

-- a key is below the number of an undefined opcode
key_below : (name : List ℕ) (form : Form) → Named name → key_of name form < 1099511627776
unfolding key_of
key_below name form (h0, h1, h2, h3) = let f8 = small form in omega arith

key_written : (name : List ℕ) (form : Form) → Named name → (d : Option Instruction) → T (named d) → eqb (decoded_key d) (key_of name form) ≡ is_written name form d
key_written name form h None t = let l = key_below name form h in ne_eqb 1099511627776 (key_of name form) (λ e. omega arith)
key_written name form h (Some i) t =
    same_key (mnemonic_of i.operation i.place) name (form_of i.place) form (tests_named _ _ _ _ t) h

-- a table of keys, one more
pub key_at_lem : (op : ℕ) (d : Option Instruction) (r : ℕ) → d ≡ decode_of op → r ≡ decoded_key d → r ≡ key_at op
unfolding key_at
key_at_lem op d r e f = f ∙ ap decoded_key e

pub keys_more : (keys : List ℕ) (op x : ℕ) → op < length keys → ((k : ℕ) → k < op → get_or keys k 0 ≡ key_at k) → x ≡ key_at op
    → (k : ℕ) → k < op + 1 → get_or (set keys op x) k 0 ≡ key_at k
keys_more keys op x h below e k l = by (eqb k op) refl
  where
    by : (t : Bool) → eqb k op ≡ t → get_or (set keys op x) k 0 ≡ key_at k
    by true t = rw (eqb-true k op t) (get_or-set_same keys op x 0 h ∙ e)
    by false t = let n = eqb-false k op t in get_or-set_other keys op k x 0 n ∙ below k (omega arith)

-- two tests that agree find the same
first_agree : (f g : ℕ → Bool) → ((k : ℕ) → f k ≡ g k) → (n i : ℕ) → first_from f i n ≡ first_from g i n
first_agree f g e zero i = refl
first_agree f g e (suc n) i = rw (e i, first_agree f g e n (suc i))

-- what is left of the search for a key from an opcode on
abbrev pub searched : ℕ → ℕ → ℕ
searched wanted i = first_from (λ (op : ℕ). eqb (key_at op) wanted) i (256 - i)

pub code_searched : (name : List ℕ) (form : Form) → Named name → searched (key_of name form) 0 ≡ code_for name form
unfolding code_for key_at
code_searched name form h =
    first_agree (λ (op : ℕ). eqb (key_at op) (key_of name form)) (λ (op : ℕ). is_written name form (decode_of op))
    (λ op. key_written name form h (decode_of op) (table_named op)) 256 0

module _ (wanted i : ℕ) where
  pub code_hit : i < 256 → key_at i ≡ wanted → searched wanted i ≡ i
  code_hit h e = let n : 256 - i ≡ suc (255 - i) = omega arith in rw (n, eq-eqb (key_at i) wanted e)

  pub code_more : i < 256 → (key_at i ≡ wanted → ⊥) → searched wanted i ≡ searched wanted (i + 1)
  code_more h e =
      let n : 256 - i ≡ suc (255 - i) = omega arith in
      let m : 256 - (i + 1) ≡ 255 - i = omega arith in
      rw (n, m, ne_eqb (key_at i) wanted e, add-one i)

  pub code_none : 256 ≤ i → searched wanted i ≡ i
  code_none h = let n : 256 - i ≡ 0 = omega arith in rw n

-- a branch's distance counts from the end of its two bytes
pub branch_placed : (address op v size next distance : ℕ) → next ≡ up address 2 → distance ≡ down v next
    → branch_to address op distance size ≡ placed_at address op Relative v size
branch_placed address op v size next distance e f = rw (f, e)

-- past the table nothing is defined
pub table_ends : decode_of 256 ≡ None
unfolding decode_of
table_ends = refl

pub past_table : (address op v size : ℕ) → op ≡ 256 → Err Bad ≡ coded_as address op (decode_of op) v size
past_table address op v size e = rw (e, table_ends)

-- a line is data where its key is that of FCB with a byte, and else an opcode that is searched
module _ (address : ℕ) (name : List ℕ) (form : Form) (v size k l : ℕ) (this : (k ≡ key_of name form) × Named name)
    (fcb : (l ≡ key_of data_name Byte) × Named data_name) where
  data_tested : eqb l k ≡ is_data name form
  data_tested = rw (this.0, fcb.0) (same_key data_name name Byte form fcb.1 this.1)

  pub coded_data : (op : ℕ) → op ≡ low v → k ≡ l → placed_at address op Inherent 0 size ≡ coded_of address name form v size
  unfolding coded_of
  coded_data op e f = rw e (sym (picks _ _ (sym data_tested ∙ eq-eqb l k (sym f))))

  pub coded_code : (op : ℕ) (d : Option Instruction) → op ≡ code_for name form → d ≡ decode_of op → (k ≡ l → ⊥)
      → coded_as address op d v size ≡ coded_of address name form v size
  unfolding coded_of
  coded_code op d e f n = rw (f, e) (sym (passes-by _ _ (sym data_tested ∙ ne_eqb l k (λ q. n (sym q)))))
