-- `message_line` meets its contract.
use native.Mathlib.Omega.{arith}
use mathlib.Core.Path.{◌∙◌, sym}
use Rattle.system_file.proofs.MessageLine.{no_numbers, said_numbers, no_message, line_yes}
use Rattle.system_file.proofs.messages.message_line.Goals as goal

pub returns-in_err-numbers : goal.returns-in_err-numbers
returns-in_err-numbers c =
    let a = c.args in
    c.from_residual.ensures ∙ no_numbers a.s a.l.now a.at c.ranges-2.ensures (sym c.in_err-numbers.was ∙ c.read_numbers.ensures)

pub returns-then-not-is_bytes : goal.returns-then-not-is_bytes
returns-then-not-is_bytes c =
    let a = c.args in
    no_message a.s a.l.now a.at c.ranges-2.ensures c.in_ok-numbers.ensures
    c.tail-message.ensures c.message_length-len.ensures c.is_bytes.ensures c.if-not-is_bytes.true

pub overflow_add-result : goal.overflow_add-result
overflow_add-result c =
    let a = c.args in
    omega (
      arith,
      (said_numbers a.s a.l.now a.at c.ranges-2.ensures c.in_ok-numbers.ensures
          c.tail-message.ensures c.message_length-len.ensures c.is_bytes.ensures).end,
    )

pub returns : goal.returns
returns c =
    let a = c.args in
    line_yes a.s a.l.now a.at c.ranges-2.ensures c.in_ok-numbers.ensures
    c.tail-message.ensures c.message_length-len.ensures c.is_bytes.ensures c.if-not-is_bytes.false
