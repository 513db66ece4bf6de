-- `phase_king::one_bit::count_bit` meets its contract: the loop counts.
use Rattle.lists.specs.Sum.{count}
use Rattle.phase_king.specs.Matrix.{cell}
use mathlib.Core.Path.{◌≡◌}
use Rattle.phase_king.proofs.one_bit.count_bit.Given as goal

abbrev pub invariant-loop-i : goal.invariant-loop-i
invariant-loop-i l = l.count ≡ count l.i (λ i. cell l.rows i l.j)
