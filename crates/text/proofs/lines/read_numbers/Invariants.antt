-- `lines::read_numbers` meets its contract. The invariant says what was read before field i.
use Rattle.text.proofs.LineNumbers.{Sofar}
use Rattle.text.proofs.lines.read_numbers.Given as goal

abbrev pub invariant-loop-i : goal.invariant-loop-i
invariant-loop-i l = Sofar l.ranges l.l l.values l.at l.i
