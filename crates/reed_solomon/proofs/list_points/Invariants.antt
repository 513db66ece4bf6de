-- `list_points` meets its contract. The invariant: the points of the present ones of the first i slots are written.
use Rattle.reed_solomon.specs.Steps.{points}
use mathlib.Core.List.{◌++◌}
use lib.ListN.{length, drop}
use Prim.Native.Nat.{◌≤◌}
use mathlib.Core.Path.{◌≡◌}
use Rattle.reed_solomon.proofs.list_points.Given as goal

abbrev pub invariant-loop-i : goal.invariant-loop-i
invariant-loop-i l =
    (l.count ≤ l.i) × (l.count ≡ length (points l.i l.layout l.slots)) × (l.xs ≡ points l.i l.layout l.slots ++ drop l.count l.initial.xs)
