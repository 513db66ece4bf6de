-- `fill` meets its contract. The invariant: the entries before j are filled, the others as they were.
use Rattle.std.proofs.Common.{◌≡◌, ◌+◌, cond, get_or}
use Rattle.lists.specs.Fill.{filled}
use Rattle.system_file.specs.Steps.{is_to}
use Rattle.system_file.proofs.table.fill.Given as goal

abbrev pub invariant-loop-j : goal.invariant-loop-j
invariant-loop-j l = l.row ≡ filled (λ i. cond (is_to l.to (i + 1)) l.place (get_or l.initial.row i 0)) l.j l.initial.row
