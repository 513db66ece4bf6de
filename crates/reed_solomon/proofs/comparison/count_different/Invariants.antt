-- `count_different` meets its contract. The invariant: the first s counts are made.
use mathlib.Core.Path.{◌≡◌}
use mathlib.Core.Bool.{not}
use Prim.Native.Nat.{◌+◌}
use lib.Dec.{eqb}
use lib.ListN.{get_or}
use Rattle.lists.specs.Fill.{filled}
use Rattle.lists.specs.Sum.{ind}
use Rattle.reed_solomon.proofs.comparison.count_different.Given as goal

abbrev pub invariant-loop-s : goal.invariant-loop-s
invariant-loop-s l =
    l.counts ≡ filled (λ i. get_or l.initial.counts i 0 + ind (not (eqb (get_or l.piece i 0) (get_or l.m i 0)))) l.s l.initial.counts
