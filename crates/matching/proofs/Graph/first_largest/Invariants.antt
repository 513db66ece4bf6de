-- `matching::Graph::first_largest` meets its contract: no matching is longer than the sizes that are left.
use Rattle.matching.specs.Steps.{AtMost, Within}
use Prim.Native.Nat.{◌-◌}
use Rattle.matching.proofs.Graph.first_largest.Given as goal

abbrev pub invariant-loop-k : goal.invariant-loop-k
invariant-loop-k l = AtMost (Within l.self.rows l.s) (l.k - 1)
