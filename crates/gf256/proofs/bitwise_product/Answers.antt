-- `bitwise_product` meets its contract.
use mathlib.Core.Path.{◌≡◌, refl}
use Prim.Native.Nat.{◌/◌, ◌-◌, ◌+◌}
use native.Mathlib.Omega.{arith}
use lib.Pow.{shr-shr}
use Rattle.gf256.proofs.Laws.{gmul-zero_l}
use Rattle.gf256.proofs.bitwise_product.Goals as goal

pub loop-k-init : goal.loop-k-init
loop-k-init c =
    let none : c.args.a / 256 ≡ 0 = omega arith in
    rw (none, gmul-zero_l c.args.b) refl

pub bitwise_step-p-requires : goal.bitwise_step-p-requires
bitwise_step-p-requires c =
    let e : c.loop-k.k - 1 + 1 ≡ c.loop-k.k = omega arith in
    rw (shr-shr c.args.a (c.loop-k.k - 1) 1, e) c.loop-k.invariant
