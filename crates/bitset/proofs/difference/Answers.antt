-- `bitset::difference` meets its contract: `^` with a part takes it out.
use Rattle.bitset.proofs.Operations.{xor_is}
use native.Mathlib.Omega.{arith}
use Rattle.bitset.proofs.difference.Goals as goal

pub returns : goal.returns
returns c = xor_is c.args.a c.args.b (omega arith) (omega arith)
