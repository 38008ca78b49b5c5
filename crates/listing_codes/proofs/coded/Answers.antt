-- `listing_codes::coded` meets its contract: data, no opcode, or the opcode that was found. Assumes nothing.
use mathlib.Core.Path.{refl, sym, ◌∙◌}
use Rattle.listing_codes.proofs.Laws.{coded_data, coded_code, past_table}
use Rattle.listing_codes.proofs.coded.Goals as goal

pub returns-then-key : goal.returns-then-key
returns-then-key c =
    let this = c.key.ensures in
    let fcb = c.key-2.ensures in
    c.one_byte.ensures ∙ coded_data _ _ _ _ _ _ _ this fcb _ c.lower.ensures c.if-key.true

pub returns-in-None : goal.returns-in-None
returns-in-None c =
    let this = c.key.ensures in
    let fcb = c.key-2.ensures in
    past_table _ _ _ _ c.in-None.ensures ∙ coded_code _ _ _ _ _ _ _ this fcb _ _ refl refl c.if-key.false

pub returns-in-Some : goal.returns-in-Some
returns-in-Some c =
    let this = c.key.ensures in
    let fcb = c.key-2.ensures in
    c.coded_as.ensures ∙ coded_code _ _ _ _ _ _ _ this fcb _ _ (sym c.in-Some.ensures) c.decode.ensures c.if-key.false
