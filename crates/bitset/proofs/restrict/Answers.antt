-- `bitset::restrict` meets its contract: the members below n are the remainder by 2 to the n.
use lib.Dec.{lit<}
use lib.Pow.{pow_mono, shl_exact}
use native.Mathlib.Omega.{arith}
use native.Mathlib.Nat.{one-mul}
use Rattle.bitset.proofs.Sets.{restrict_mod, restrict_below}
use mathlib.Core.Path.{sym}
use Rattle.bitset.proofs.restrict.Goals as goal

pub returns-then-n-lt16 : goal.returns-then-n-lt16
returns-then-n-lt16 c = rw (restrict_mod c.args.s c.args.n, shl_exact 1 c.args.n 16 (lit< tt) (omega arith), one-mul)

pub returns-else-n-lt16 : goal.returns-else-n-lt16
returns-else-n-lt16 c =
    sym (restrict_below c.args.s c.args.n (omega (arith, pow_mono {i = 16} {j = c.args.n} (omega arith))))
