use mathlib.Core.Path.{sym, ◌∙◌}
use Rattle.plain.proofs.Accesses.{ends}
use Rattle.plain.proofs.Hopping.{is_made, is_left, by_shape}
use Rattle.chip.specs.Shapes.{shaped}
use Rattle.plain.proofs.operate.Goals as goal

pub returns-in-Nothing : goal.returns-in-Nothing
unfolding shaped
returns-in-Nothing c = by_shape _ _ _ _ _ _ _ _ _
    (sym c.in-Nothing.is ∙ c.shape_of.ensures)
    (is_made _ _ _ _ _ _ (ends _ _ _ (sym c.quiet.ensures)))

pub returns-in-Load : goal.returns-in-Load
unfolding shaped
returns-in-Load c = by_shape _ _ _ _ _ _ _ _ _
    (sym c.in-Load.is ∙ c.shape_of.ensures)
    (c.load.ensures c.args.start)

pub returns-in-LoadWord : goal.returns-in-LoadWord
unfolding shaped
returns-in-LoadWord c = by_shape _ _ _ _ _ _ _ _ _
    (sym c.in-LoadWord.is ∙ c.shape_of.ensures)
    (c.load_word.ensures c.args.start)

pub returns-in-Store : goal.returns-in-Store
unfolding shaped
returns-in-Store c = by_shape _ _ _ _ _ _ _ _ _
    (sym c.in-Store.is ∙ c.shape_of.ensures)
    c.store.ensures

pub returns-in-StoreWord : goal.returns-in-StoreWord
unfolding shaped
returns-in-StoreWord c = by_shape _ _ _ _ _ _ _ _ _
    (sym c.in-StoreWord.is ∙ c.shape_of.ensures)
    c.store_word.ensures

pub returns-in-Modify : goal.returns-in-Modify
unfolding shaped
returns-in-Modify c = by_shape _ _ _ _ _ _ _ _ _
    (sym c.in-Modify.is ∙ c.shape_of.ensures)
    c.modify.ensures

pub returns-in-PushWord : goal.returns-in-PushWord
unfolding shaped
returns-in-PushWord c = by_shape _ _ _ _ _ _ _ _ _
    (sym c.in-PushWord.is ∙ c.shape_of.ensures)
    c.push_word.ensures

pub returns-in-Rti : goal.returns-in-Rti
unfolding shaped
returns-in-Rti c = is_left _ _ _ _
