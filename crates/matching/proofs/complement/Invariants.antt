-- `matching::complement` meets its contract: the loop fills the rows from the front.
use Rattle.graph.specs.Neighbour.{missing}
use Rattle.graph.specs.Bits.{adjacent}
use Rattle.lists.specs.Fill.{filled}
use lib.ListN.{replicate}
use mathlib.Core.Path.{◌≡◌}
use Prim.Native.Nat.{min}
use Rattle.matching.proofs.complement.Given as goal

abbrev pub invariant-loop-i : goal.invariant-loop-i
invariant-loop-i l = l.row-items ≡ filled (missing (min l.n 16) (adjacent l.bits)) l.i (replicate 16 0)
