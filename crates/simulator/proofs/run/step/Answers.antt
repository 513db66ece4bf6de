-- `step` meets its contract: the front of the block's array is lent.
use Rattle.std.proofs.Common.{arith, length, ◌≡◌, ap, ◌∙◌, take}
use lib.ListN.{length-take}
use Rattle.protocol.specs.Step.{step_of}
use Rattle.simulator.specs.Steps.{taken}
use Rattle.simulator.proofs.Plays.{held_front, playing}
use Rattle.simulator.proofs.run.step.Goals as goal

pub returns : goal.returns
returns c =
    let a = c.args in
    let v = c.step-answer.new.block in
    let y = c.step-answer.new.outbox in
    let lv : length v ≡ a.b = omega (arith, length-take a.b a.before.block) in
    held_front _ y lv ∙ ap (playing v y) c.state_of.ensures
    ∙ ap taken (c.step-answer.ensures ∙ ap (step_of a.before.state (take a.b a.before.block) a.inbox.now) c.silence.ensures)
