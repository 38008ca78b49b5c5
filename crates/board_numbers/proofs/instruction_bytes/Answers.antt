-- `board_numbers::instruction_bytes` meets its contract: three bytes of the operation, then the others. Assumes nothing.
use Rattle.board_numbers.specs.Numbers.{instruction_bytes}
use Rattle.board_numbers.proofs.Laws.{three_then_lem}
use Rattle.board_numbers.proofs.instruction_bytes.Goals as goal

pub returns : goal.returns
unfolding instruction_bytes
returns c = rw (c.operation_bytes.ensures, c.place_number-place.ensures) (three_then_lem _ _)
