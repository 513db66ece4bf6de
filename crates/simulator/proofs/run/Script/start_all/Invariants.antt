-- `start_all` meets its contract: the loop starts one controller after the other.
use Rattle.simulator.proofs.Plays.{StartedTo}
use Rattle.simulator.proofs.run.Script.start_all.Given as goal

abbrev pub invariant-loop-i : goal.invariant-loop-i
invariant-loop-i l = StartedTo l.self.input.now l.self.file.now l.i l.all
