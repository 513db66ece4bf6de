-- `fill_inbox` meets its contract: the loop fills slot after slot.
use Rattle.std.proofs.Common.{◌≡◌}
use Rattle.simulator.proofs.Running.{filled_to}
use Rattle.simulator.proofs.run.Script.fill_inbox.Given as goal

abbrev pub invariant-loop-j : goal.invariant-loop-j
invariant-loop-j l = l.inbox ≡ filled_to l.self.input.now l.self.file.now l.sent l.c l.i l.j
