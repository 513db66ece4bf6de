-- `matching::Graph::halves` meets its contract: one component after the other.
use Rattle.matching.proofs.Steps.{Halving}
use Rattle.bitset.specs.Set.{size_of}
use Rattle.matching.proofs.Graph.halves.Given as goal

abbrev pub invariant-loop-v : goal.invariant-loop-v
invariant-loop-v l = Halving l.self.rows l.s l.left l.sum

abbrev pub decreases-loop-v : goal.decreases-loop-v
decreases-loop-v l = size_of l.left
