-- `lines::read_numbers` meets its contract.
use Rattle.std.proofs.Common.{arith, ◌∙◌}
use Rattle.text.proofs.LineNumbers.{numbers-many, sofar_start, sofar_stop, sofar_within, sofar_more, sofar_end}
use Rattle.text.proofs.lines.read_numbers.Goals as goal

pub returns-then-count-gt4 : goal.returns-then-count-gt4
returns-then-count-gt4 c = numbers-many c.args.ranges.now c.args.l.now (omega arith)

pub loop-i-init : goal.loop-i-init
loop-i-init c = sofar_start c.args.ranges.now c.args.l.now

pub returns-in_err-x : goal.returns-in_err-x
returns-in_err-x c =
    c.from_residual.ensures ∙ sofar_stop c.loop-i.invariant c.until-f.ensures c.read_number.ensures c.in_err-x.was (omega arith)

pub overflow_add-at-in-loop-i : goal.overflow_add-at-in-loop-i
overflow_add-at-in-loop-i c = omega (arith, sofar_within c.loop-i.invariant c.until-f.ensures c.read_number.ensures c.in_ok-x.was)

pub loop-i-preserved : goal.loop-i-preserved
loop-i-preserved c = sofar_more c.loop-i.invariant c.until-f.ensures c.read_number.ensures c.in_ok-x.was (omega arith)

pub returns : goal.returns
returns c = sofar_end c.loop-i.invariant (omega arith) (omega arith) c.tail-rest.ensures
