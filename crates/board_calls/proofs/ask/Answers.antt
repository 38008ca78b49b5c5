-- `board_calls::ask` meets its contract: each way that the call can end is a law of Calls. Assumes nothing.
use Rattle.std.proofs.Common.{arith, length}
use Rattle.std.proofs.Math.Seq.{take_all}
use Rattle.board_calls.proofs.Calls.{ask_short, asked, asked_copied}
use Rattle.board_calls.proofs.ask.Goals as goal

pub returns-then-answer-lt6 : goal.returns-then-answer-lt6
returns-then-answer-lt6 c = ask_short c.args.opcode c.args.answer.now c.if-answer-lt6.true

pub returns-in-None : goal.returns-in-None
returns-in-None c = let a = c.args in
    asked a.opcode a.answer.now _ c.if-answer-lt6.false c.ask.ensures c.in-None.is

pub returns-in-Some : goal.returns-in-Some
returns-in-Some c = let a = c.args in
    let six = c.instruction_bytes-six.result in
    asked_copied a.opcode a.answer.now _ c.if-answer-lt6.false c.ask.ensures c.in-Some.is
    c.instruction_bytes-six.ensures (rw (take_all (length six) six (omega arith)) c.copy.ensures)
