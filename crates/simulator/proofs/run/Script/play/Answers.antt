-- `play` meets its contract.
use Rattle.std.proofs.Common.{arith, ◌+◌}
use Rattle.simulator.specs.Play.{given}
use Rattle.simulator.proofs.Running.{outbox_le}
use Rattle.simulator.proofs.Plays.{held_next, held_last}
use Rattle.simulator.proofs.run.Script.play.Goals as goal

pub loop-c-init : goal.loop-c-init
loop-c-init c = c.start_all-controllers.ensures _

pub deliver-requires : goal.deliver-requires
deliver-requires c =
    let v = c.args.self.now.playable.small in
    (v.coded.quorum.n_most, omega (arith, c.outbox_length.ensures, outbox_le v (c.loop-c.c + 1) (omega arith) (omega arith)))

pub loop-c-preserved : goal.loop-c-preserved
loop-c-preserved c =
    let f = c.args.self.now.file.now in
    held_next c.args.self.now.input.now f c.args.self.now.playable.small (given f) _ _ (omega arith) c.loop-c.invariant c.call_all.ensures
    c.outbox_length.ensures _ c.deliver.ensures

pub returns : goal.returns
returns c = held_last c.loop-c.invariant (omega arith)
