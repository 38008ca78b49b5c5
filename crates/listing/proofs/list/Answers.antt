-- `listing::list` meets its contract: each return is one of the ways that it can end. Assumes nothing.
use mathlib.Core.Path.{sym, ◌∙◌}
use Rattle.listing.proofs.Laws.{wrong_image, wrong_range, no_room, wrote}
use Rattle.listing.proofs.list.Goals as goal

pub returns-then-image-ne65536 : goal.returns-then-image-ne65536
returns-then-image-ne65536 c = let a = c.args in
    wrong_image a.image.now a.first a.last a.buffer.now c.if-image-ne65536.true

pub returns-then-is_bad_range : goal.returns-then-is_bad_range
returns-then-is_bad_range c = let a = c.args in
    wrong_range a.image.now a.first a.last a.buffer.now c.if-image-ne65536.false (sym c.is_bad_range.ensures ∙ c.if-is_bad_range.true)

pub returns-then-buffer-n : goal.returns-then-buffer-n
returns-then-buffer-n c = let a = c.args in
    no_room a.image.now a.first a.last a.buffer.now c.if-image-ne65536.false (sym c.is_bad_range.ensures ∙ c.if-is_bad_range.false)
    c.measure-n.ensures c.if-buffer-n.true

pub returns : goal.returns
returns c = let a = c.args in
    wrote a.image.now a.first a.last a.buffer.now c.if-image-ne65536.false (sym c.is_bad_range.ensures ∙ c.if-is_bad_range.false)
    c.measure-n.ensures c.if-buffer-n.false c.write.ensures
