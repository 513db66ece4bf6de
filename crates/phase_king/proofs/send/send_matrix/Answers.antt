-- `phase_king::send::send_matrix` meets its contract: the rows are written, and their message is sent.
use Rattle.phase_king.proofs.Writes.{rows_front, is_to_all}
use Rattle.bitset.specs.Row.{rows_of}
use lib.Seq.{length-take-le}
use lib.ListN.{take, replicate}
use native.Mathlib.Omega.{arith}
use Prim.Native.Nat.{ℕ}
use mathlib.Core.List.{List}
use mathlib.Core.Path.{sym}
use Rattle.phase_king.proofs.send.send_matrix.Goals as goal

pub slice_bounds-send_all-end : goal.slice_bounds-send_all-end
slice_bounds-send_all-end c =
    sym (length-take-le c.rows_length-end.result c.write_rows.new.out (omega arith))

pub returns : goal.returns
returns c =
    let a = c.args in
    let o : List ℕ = replicate 32 0 in
    let end = c.rows_length-end.result in
    is_to_all a.layout a.n c.min.result (rows_of a.n a.rows.now) (take end c.write_rows.new.out) a.outbox.now c.send_all.new.outbox
    c.min.ensures (rows_front a.n end a.rows.now c.write_rows.new.out o c.rows_length-end.ensures (omega arith) c.write_rows.ensures)
    c.send_all.ensures
