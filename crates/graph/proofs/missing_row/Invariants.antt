-- `graph::missing_row` meets its contract: the loop makes the set of a test, digit after digit.
use Rattle.graph.specs.Bits.{adjacent}
use Rattle.bitset.specs.Set.{set_of}
use mathlib.Core.Bool.{not}
use mathlib.Core.Path.{◌≡◌}
use Rattle.graph.proofs.missing_row.Given as goal

abbrev pub invariant-loop-j : goal.invariant-loop-j
invariant-loop-j l = l.s ≡ set_of l.j (λ x. not (adjacent l.bits l.i x))
