-- `state_bytes::get_rows` meets its contract: the loop reads row after row.
use Rattle.lists.specs.Fill.{filled}
use Rattle.bitset.specs.Row.{row_of}
use lib.ListN.{replicate}
use mathlib.Core.Path.{◌≡◌}
use Rattle.state_bytes.proofs.get_rows.Given as goal

abbrev pub invariant-loop-i : goal.invariant-loop-i
invariant-loop-i l = l.rows ≡ filled (row_of 16 l.bytes) l.i (replicate 16 0)
