use Rattle.operations.specs.Operations.{loaded_word_of}
use Rattle.plain.proofs.loaded_word.Goals as goal

pub returns-in-Wide : goal.returns-in-Wide
unfolding loaded_word_of
returns-in-Wide c = rw (c.in-Wide.is, c.wide.ensures)

pub returns-in-Pulx : goal.returns-in-Pulx
unfolding loaded_word_of
returns-in-Pulx c = rw (
  c.in-Pulx.is,
  c.with_x.ensures,
  c.with_sp.ensures,
  c.plus-in-Pulx.ensures,
  c.plus.ensures,
)

pub returns-in-Rts : goal.returns-in-Rts
unfolding loaded_word_of
returns-in-Rts c = rw (
  c.in-Rts.is,
  c.with_pc.ensures,
  c.with_sp-in-Rts.ensures,
  c.plus-in-Rts-2.ensures,
  c.plus-in-Rts.ensures,
)
