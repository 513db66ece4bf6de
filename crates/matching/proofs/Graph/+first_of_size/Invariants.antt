-- The measure is the number of remaining controllers. The loop's invariant: no partner of v below w leaves k - 1 pairs among the others.
use Rattle.bitset.specs.Set.{size_of}
use Rattle.matching.proofs.Steps.{Trying}
use Rattle.matching.proofs.Graph.+first_of_size.Given as goal

abbrev pub decreases-first_of_size : goal.decreases-first_of_size
decreases-first_of_size l = size_of l.s

abbrev pub invariant-loop-w : goal.invariant-loop-w
invariant-loop-w l = Trying l.self.rows l.s l.k l.v l.rest l.partners l.w
