-- `bitset::lowest` meets its contract: the machine's count of trailing zeros is the least member.
use native.Mathlib.Omega.{arith}
use Rattle.bitset.proofs.Digits.{trailing_first}
use Rattle.bitset.proofs.Sets.{lowest_some}
use Rattle.bitset.specs.Set.{lowest_of}
use Rattle.bitset.proofs.lowest.Goals as goal

pub returns-else-s-eq0 : goal.returns-else-s-eq0
unfolding lowest_of
returns-else-s-eq0 c =
    let s = c.args.s in
    (trailing_first 16 s, rw (trailing_first 16 s) (lowest_some s (omega arith) (omega arith)))
