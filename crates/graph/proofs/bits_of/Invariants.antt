-- `graph::bits_of` meets its contract: the loops go through the pairs in their order, and each makes the next place's bit.
use Rattle.graph.proofs.Making.{bits_to}
use Rattle.graph.specs.Neighbour.{neighbour}
use Rattle.graph.specs.Pairs.{place}
use mathlib.Core.Path.{◌≡◌}
use Prim.Native.Nat.{◌+◌}
use Rattle.graph.proofs.bits_of.Given as goal

-- the pairs before (i, j) have their bits
abbrev pub invariant-loop-j : goal.invariant-loop-j
invariant-loop-j l = l.bits ≡ bits_to l.n (neighbour l.rows) (place l.i l.j)

abbrev pub invariant-loop-i : goal.invariant-loop-i
invariant-loop-i l = l.bits ≡ bits_to l.n (neighbour l.rows) (place l.i (l.i + 1))
