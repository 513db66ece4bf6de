-- `bitwise_step` meets its contract.
use mathlib.Core.Path.{ap, ◌∙◌}
use Prim.Native.Nat.{◌*◌}
use lib.Bits.{bit_and}
use native.Mathlib.Omega.{arith}
use Rattle.gf256.specs.Field.{gadd, gmul}
use Rattle.gf256.proofs.Bitwise.{gmul-bit}
use Rattle.gf256.proofs.bitwise_step.Goals as goal

pub returns : goal.returns
unfolding gadd
returns c =
    let a = c.args in
    ap (λ x. gadd x (bit_and a.a 1 * a.b)) (c.double.ensures ∙ ap (gmul 2) c.requires) ∙ gmul-bit a.a a.b (omega arith) (omega arith)
