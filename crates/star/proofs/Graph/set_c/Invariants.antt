-- `star::Graph::set_c` meets its contract: pair after pair, the last one first.
use Rattle.std.specs.Prelude.{◌≡◌, reverse, take}
use Rattle.graph.specs.Bits.{adjacent}
use Rattle.star.specs.Star.{set_C}
use Rattle.star.proofs.Graph.set_c.Given as goal

abbrev pub invariant-loop-p : goal.invariant-loop-p
invariant-loop-p l = l.c ≡ set_C l.self.n (adjacent l.self.bits) (reverse (take l.p-index l.pairs))
