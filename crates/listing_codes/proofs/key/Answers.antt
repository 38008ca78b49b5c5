-- `listing_codes::key` meets its contract: five numbers put together, each with room for the next. Assumes nothing.
use Rattle.listing_codes.proofs.Laws.{key_joined}
use Rattle.listing_codes.proofs.key.Goals as goal

pub returns : goal.returns
returns c = let h = c.packed-high.ensures in
    let l = c.packed-low.ensures in
    (key_joined _ _ _ _ _ h.0 l.0 c.form_number.ensures.0, (h.1, h.2, l.1, l.2))
