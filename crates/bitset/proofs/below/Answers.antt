-- `bitset::below` meets its contract: all digits below n are set.
use native.Mathlib.Omega.{arith}
use lib.Dec.{lit<}
use lib.Pow.{shl_exact}
use Rattle.bitset.proofs.Sets.{set_all}
use Prim.Native.Nat.{min}
use mathlib.Core.Path.{◌≡◌}
use Rattle.bitset.proofs.below.Goals as goal

pub returns-then-n-lt16 : goal.returns-then-n-lt16
returns-then-n-lt16 c =
    let n = c.args.n in
    let e : min n 16 ≡ n = omega arith in
    rw (e, shl_exact 1 n 16 (lit< tt) (omega arith)) (omega (arith, set_all n))

pub returns-else-n-lt16 : goal.returns-else-n-lt16
returns-else-n-lt16 c =
    let e : min c.args.n 16 ≡ 16 = omega arith in
    rw e (omega (arith, set_all 16))
