-- `call_all` meets its contract: the loop makes one controller's call after the other.
use Rattle.simulator.proofs.Turns.{Turned}
use Rattle.simulator.proofs.run.Script.call_all.Given as goal

abbrev pub invariant-loop-i : goal.invariant-loop-i
invariant-loop-i l = Turned l.self.input.now l.self.file.now l.c l.i l.initial.controllers l.sent l.initial.sending l.controllers l.sending
