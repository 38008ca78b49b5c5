-- `listing_marks::list_marked` meets its contract: each return is one of the ways that it can end. Assumes nothing.
use mathlib.Core.Path.{sym, ◌∙◌}
use Rattle.listing_marks.proofs.Laws.{wrong_image, wrong_range, wrong_map, no_room, wrote}
use Rattle.listing_marks.proofs.list_marked.Goals as goal

pub returns-then-image-ne65536 : goal.returns-then-image-ne65536
returns-then-image-ne65536 c = let a = c.args in
    wrong_image a.image.now a.first a.last a.file.now a.buffer.now c.if-image-ne65536.true

pub returns-then-is_bad_range : goal.returns-then-is_bad_range
returns-then-is_bad_range c = let a = c.args in
    wrong_range a.image.now a.first a.last a.file.now a.buffer.now c.if-image-ne65536.false (sym c.is_bad_range.ensures ∙ c.if-is_bad_range.true)

pub returns-then-not-is_map : goal.returns-then-not-is_map
returns-then-not-is_map c = let a = c.args in
    wrong_map a.image.now a.first a.last a.file.now a.buffer.now c.if-image-ne65536.false (sym c.is_bad_range.ensures ∙ c.if-is_bad_range.false)
    (sym c.is_map.ensures ∙ c.if-not-is_map.true)

pub returns-then-buffer-last : goal.returns-then-buffer-last
returns-then-buffer-last c = let a = c.args in
    no_room a.image.now a.first a.last a.file.now a.buffer.now c.if-image-ne65536.false (sym c.is_bad_range.ensures ∙ c.if-is_bad_range.false)
    (sym c.is_map.ensures ∙ c.if-not-is_map.false) c.if-buffer-last.true

pub returns : goal.returns
returns c = let a = c.args in
    wrote a.image.now a.first a.last a.file.now a.buffer.now c.if-image-ne65536.false (sym c.is_bad_range.ensures ∙ c.if-is_bad_range.false)
    (sym c.is_map.ensures ∙ c.if-not-is_map.false) c.if-buffer-last.false c.filled.ensures
    c.write-n.ensures
