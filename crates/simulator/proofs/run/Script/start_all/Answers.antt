-- `start_all` meets its contract.
use Rattle.std.proofs.Common.{arith}
use Rattle.simulator.proofs.Plays.{start_first, start_end}
use Rattle.simulator.proofs.run.Script.start_all.Goals as goal

pub loop-i-init : goal.loop-i-init
loop-i-init c = start_first c.args.self.now.input.now c.args.self.now.file.now _ c.start-all.ensures

pub returns : goal.returns
returns c = start_end c.loop-i.invariant (omega arith)
