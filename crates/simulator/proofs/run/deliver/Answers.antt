-- `deliver` meets its contract.
use Rattle.std.proofs.Common.{arith, ap, ◌∙◌, [], take}
use Rattle.simulator.proofs.Writing.{get_or_inside}
use Rattle.simulator.proofs.Turns.{copied_start, copied_turn}
use Rattle.simulator.proofs.run.deliver.Goals as goal

pub loop-i-init : goal.loop-i-init
loop-i-init c = copied_start c.args.o c.args.sending.now c.args.sent.now c.told-sent

pub loop-i-preserved : goal.loop-i-preserved
loop-i-preserved c = copied_turn c.loop-i.invariant (omega arith) c.copy_front.new.to
    (c.copy_front.ensures ∙ ap (take c.args.o) (get_or_inside c.args.sending.now c.loop-i.i _ [] (omega (arith, c.told-sending))))

pub returns : goal.returns
returns c = λ x l. c.loop-i.invariant.each x (omega arith)
