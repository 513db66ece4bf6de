-- `matching::Graph::falls_short` meets its contract: each member taken out costs at most one pair.
use Rattle.matching.proofs.Steps.{Shrinking}
use Rattle.matching.proofs.Graph.falls_short.Given as goal

abbrev pub invariant-loop-x : goal.invariant-loop-x
invariant-loop-x g l = goal.F-IsAlwaysCallable g l.hub × Shrinking l.self.rows l.s l.left l.x
