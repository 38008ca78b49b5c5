use mathlib.Core.Path.{sym, ◌∙◌}
use Rattle.bus.proofs.Stores.{plain_takes, area_store}
use Rattle.bus.proofs.Bus.write_high.Goals as goal

pub returns-then-is_in_area : goal.returns-then-is_in_area
returns-then-is_in_area c = let a = c.args in
    let h = c.requires in
    area_store a.self a.at a.v a.image.now a.area.now _ c.is_writable.result c.store.ensures
    (c.is_writable.ensures ∙ sym (plain_takes a.self.rame a.self.r a.at h)) (sym c.is_in_area.ensures
    ∙ c.if-is_in_area.true)
