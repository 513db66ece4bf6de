-- `append_results` meets its contract. The invariant: the lines of the first i controllers are written.
use Rattle.std.proofs.Common.{◌≡◌}
use Rattle.simulator.specs.Steps.{Wrote}
use Rattle.simulator.proofs.Writing.{lines}
use Rattle.simulator.proofs.lines.append_results.Given as goal

abbrev pub invariant-loop-i : goal.invariant-loop-i
invariant-loop-i l = record {
  same : l.w.out.ghost_name ≡ l.initial.w.out.ghost_name;
  wrote : Wrote l.initial.w.out.now l.initial.w.end (lines l.file.faulty l.controllers l.b l.i) l.w.out.now l.w.end;
}
