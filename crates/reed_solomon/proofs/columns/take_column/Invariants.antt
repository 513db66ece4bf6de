-- `take_column` meets its contract. The invariant: the first s bytes are taken.
use mathlib.Core.Path.{◌≡◌}
use Prim.Native.Nat.{◌+◌, ◌*◌}
use lib.ListN.{get_or}
use Rattle.lists.specs.Fill.{filled}
use Rattle.reed_solomon.proofs.columns.take_column.Given as goal

abbrev pub invariant-loop-s : goal.invariant-loop-s
invariant-loop-s l = l.out ≡ filled (λ i. get_or l.l (i * l.w + l.j) 0) l.s l.initial.out
