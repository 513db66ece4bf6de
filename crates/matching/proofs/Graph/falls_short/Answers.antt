-- `Graph::falls_short` meets its contract.
use Rattle.matching.proofs.Steps.{shrink_more, shrink_short}
use Rattle.matching.proofs.Graph.falls_short.Goals as goal

pub returns-then-halves-x : goal.returns-then-halves-x
returns-then-halves-x g c = λ _. shrink_short _ _ _ _ _ _ c.loop-x.invariant.1 c.halves.ensures.1 c.if-halves-x.true

pub loop-x-preserved : goal.loop-x-preserved
loop-x-preserved g c = (c.loop-x.invariant.0, shrink_more _ _ _ _ _ _ c.loop-x.invariant.1 c.remove-left.ensures)
