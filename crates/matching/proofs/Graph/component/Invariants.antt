-- `matching::Graph::component` meets its contract: the reached set grows until nobody in it is unseen.
use Rattle.matching.proofs.Steps.{Growing}
use Rattle.bitset.specs.Set.{size_of}
use Rattle.matching.proofs.Graph.component.Given as goal

abbrev pub invariant-loop-x : goal.invariant-loop-x
invariant-loop-x l = Growing l.self.rows l.s l.v l.c l.unseen l.next

abbrev pub decreases-loop-x : goal.decreases-loop-x
decreases-loop-x l = size_of l.unseen
