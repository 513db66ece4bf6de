-- `phase_king::send::send_seen` meets its contract: the matrices are written, and their message is sent.
use Rattle.phase_king.proofs.Writes.{front_of, length_seen, is_to_all}
use Rattle.bitset.specs.Row.{rows_length}
use Rattle.phase_king.specs.Matrix.{seen_message}
use lib.Seq.{length-take-le}
use lib.ListN.{take, drop, replicate}
use native.Mathlib.Omega.{arith}
use Prim.Native.Nat.{ℕ, ◌*◌}
use mathlib.Core.List.{List}
use mathlib.Core.Path.{sym, ◌∙◌}
use Rattle.phase_king.proofs.send.send_seen.Goals as goal

pub slice_bounds-send_all-end : goal.slice_bounds-send_all-end
slice_bounds-send_all-end c =
    sym (length-take-le (2 * c.rows_length-end.result) c.write_seen.new.m (omega arith))

pub returns : goal.returns
returns c =
    let a = c.args in
    let o : List ℕ = replicate 64 0 in
    let m : List ℕ = seen_message a.n a.zeros.now a.ones.now in
    let end = 2 * c.rows_length-end.result in
    is_to_all a.layout a.n c.min.result m (take end c.write_seen.new.m) a.outbox.now c.send_all.new.outbox
    c.min.ensures
    (front_of m c.write_seen.new.m (drop (2 * rows_length a.n) o) end c.write_seen.ensures
    (length_seen a.n a.zeros.now a.ones.now ∙ omega arith))
    c.send_all.ensures
