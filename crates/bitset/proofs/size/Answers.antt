-- `bitset::size` meets its contract: the machine's count of set digits is the count of members.
use native.Mathlib.Omega.{arith}
use Rattle.bitset.proofs.Digits.{ones-count}
use Rattle.bitset.specs.Set.{size_of}
use Rattle.bitset.proofs.size.Goals as goal

pub returns : goal.returns
unfolding size_of
returns c = ones-count 16 c.args.s (omega arith)
