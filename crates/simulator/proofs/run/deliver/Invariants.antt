-- `deliver` meets its contract: the loop copies one outbox after the other.
use Rattle.simulator.proofs.Turns.{Copied}
use Rattle.simulator.proofs.run.deliver.Given as goal

abbrev pub invariant-loop-i : goal.invariant-loop-i
invariant-loop-i l = Copied l.o l.i l.sending l.sent
