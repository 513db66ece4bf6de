-- `bitset::union` meets its contract: `|` digit by digit.
use Rattle.bitset.proofs.Operations.{or_is}
use native.Mathlib.Omega.{arith}
use Rattle.bitset.proofs.union.Goals as goal

pub returns : goal.returns
returns c = or_is c.args.a c.args.b (omega arith) (omega arith)
