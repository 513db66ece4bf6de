-- `write_rows` meets its contract.
use Rattle.bitset.specs.Row.{row_byte}
use Rattle.lists.proofs.Fills.{fill_more, fill_least, filled_none}
use native.Mathlib.Omega.{arith}
use mathlib.Core.Path.{sym}
use Prim.Native.Nat.{◌*◌, min}
use Rattle.bitset.proofs.write_rows.Goals as goal

pub loop-b-init : goal.loop-b-init
loop-b-init c = sym (filled_none _ _)

pub loop-b-preserved : goal.loop-b-preserved
loop-b-preserved c =
    fill_more (row_byte c.args.n c.args.rows.now) c.loop-b.b c.args.out.now c.loop-b.out c.row_byte.result (omega arith) c.loop-b.invariant
    c.row_byte.ensures

pub returns : goal.returns
returns c =
    fill_least (row_byte c.args.n c.args.rows.now) c.loop-b.b (2 * min c.args.n 16) c.args.out.now c.loop-b.out c.loop-b.invariant (omega arith)
