-- `bitset::row_byte` meets its contract.
use Rattle.bitset.proofs.Rows.{byte_of}
use Rattle.bitset.specs.Row.{row_byte}
use native.Mathlib.Omega.{arith}
use Prim.Native.Nat.{◌%◌}
use Rattle.bitset.proofs.row_byte.Goals as goal

pub returns : goal.returns
unfolding row_byte
returns c = rw (c.to_le_bytes.ensures, byte_of c.restrict.result (c.args.b % 2) c.restrict.type_inv (omega arith), c.restrict.ensures)
