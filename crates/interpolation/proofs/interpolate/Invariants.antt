-- `interpolate` meets its contract. The invariant: the state after the first i points.
use Rattle.interpolation.specs.Steps.{ratios_of, Alike}
use Rattle.interpolation.specs.Interpolation.{run}
use lib.ListN.{length}
use Prim.Native.Nat.{◌+◌}
use mathlib.Core.Path.{◌≡◌}
use Rattle.interpolation.proofs.interpolate.Given as goal

abbrev pub invariant-loop-i : goal.invariant-loop-i
invariant-loop-i l =
    (l.first.weight + l.second.weight ≡ l.i + l.fn.second.weight) × Alike l.first l.second
    × (length l.first.q.now ≡ length l.xs + l.fn.second.weight + 1)
    × (ratios_of l.first l.second ≡ run l.fn.second.weight l.xs l.ys l.i)
