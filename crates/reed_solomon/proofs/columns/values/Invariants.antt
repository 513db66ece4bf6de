-- `columns::values` meets its contract. The invariant: a is a multiple of the number of rows, j of them, and the values of the coefficients from j on
-- are there.
use mathlib.Core.Path.{◌≡◌}
use Prim.Native.Nat.{ℕ, ◌*◌, ◌≤◌}
use lib.ListN.{length}
use Rattle.reed_solomon.proofs.Rows.{rows_from, standing}
use Rattle.reed_solomon.proofs.columns.values.Given as goal

abbrev pub invariant-loop-a : goal.invariant-loop-a
invariant-loop-a l = (j : ℕ) × (length l.out ≡ l.rows) × (l.a ≡ j * l.rows) × (j ≤ l.t) × (l.out ≡ rows_from l.rows (standing l.rows l.t l.cols l.x) l.x j)

abbrev pub decreases-loop-a : goal.decreases-loop-a
decreases-loop-a l = l.a
