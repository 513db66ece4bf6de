-- `Pair::reduce` meets its contract. The invariant: the first i places are done.
use Rattle.lists.specs.Fill.{filled}
use Rattle.gf256.specs.Field.{gadd, gmul}
use lib.ListN.{get_or}
use Prim.Native.Nat.{suc}
use mathlib.Core.Path.{◌≡◌}
use Rattle.interpolation.proofs.Pair.reduce.Given as goal

abbrev pub invariant-loop-i : goal.invariant-loop-i
invariant-loop-i l =
    (l.self.e.now ≡ l.initial.self.e.now)
    × (l.self.q.now ≡ filled (λ j. gadd (get_or l.initial.self.q.now (suc j) 0) (gmul l.c (get_or l.initial.self.e.now (suc j) 0))) l.i l.initial.self.q.now)
