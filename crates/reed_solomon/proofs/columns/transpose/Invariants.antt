-- `transpose` meets its contract. The invariant: the first j columns are written.
use mathlib.Core.Path.{◌≡◌}
use mathlib.Core.List.{◌++◌}
use Prim.Native.Nat.{◌*◌}
use lib.ListN.{drop}
use Rattle.lists.specs.Join.{joined}
use Rattle.reed_solomon.specs.Steps.{every}
use Rattle.reed_solomon.proofs.columns.transpose.Given as goal

abbrev pub invariant-loop-j : goal.invariant-loop-j
invariant-loop-j l = l.out ≡ joined (λ i. every l.w l.l i l.h) l.j ++ drop (l.j * l.h) l.initial.out
