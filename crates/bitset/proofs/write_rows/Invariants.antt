-- `bitset::write_rows` meets its contract: the loop fills the bytes from the front.
use Rattle.bitset.specs.Row.{row_byte}
use Rattle.lists.specs.Fill.{filled}
use mathlib.Core.Path.{◌≡◌}
use Rattle.bitset.proofs.write_rows.Given as goal

abbrev pub invariant-loop-b : goal.invariant-loop-b
invariant-loop-b l = l.out ≡ filled (row_byte l.n l.rows) l.b l.initial.out
