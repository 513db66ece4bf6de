-- `bitset::intersection` meets its contract: `&` digit by digit.
use Rattle.bitset.proofs.Operations.{and_is}
use native.Mathlib.Omega.{arith}
use Rattle.bitset.proofs.intersection.Goals as goal

pub returns : goal.returns
returns c = and_is c.args.a c.args.b (omega arith) (omega arith)
