-- `read_messages` meets its contract. The invariant says what was read before the line at `at`.
use Prim.Native.Nat.{◌-◌}
use lib.ListN.{length}
use Rattle.system_file.proofs.Entries.{Sofar}
use Rattle.system_file.proofs.messages.read_messages.Given as goal

abbrev pub invariant-loop-at : goal.invariant-loop-at
invariant-loop-at l = Sofar l.input l.s l.start l.places l.at l.line l.faulty

abbrev pub decreases-loop-at : goal.decreases-loop-at
decreases-loop-at l = length l.input - l.at
