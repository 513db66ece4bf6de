-- `double` meets its contract.
use native.Mathlib.Omega.{arith}
use Rattle.gf256.specs.Field.{gadd}
use Rattle.gf256.proofs.Bitwise.{double_is}
use Rattle.gf256.proofs.double.Goals as goal

pub returns : goal.returns
unfolding gadd
returns c = double_is _ (omega arith)
