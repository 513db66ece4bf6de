-- `inv` meets its contract: the inverse of a power of 02 is the power of 255 less its exponent.
use mathlib.Core.Path.{ap, sym, ◌∙◌}
use Prim.Native.Nat.{◌-◌}
use native.Mathlib.Omega.{arith}
use Rattle.gf256.specs.Field.{ginv, gpow}
use Rattle.gf256.proofs.Laws.{ginv-zero, ginv-glog}
use Rattle.gf256.proofs.inv.Goals as goal

pub returns-then-a-eq0 : goal.returns-then-a-eq0
returns-then-a-eq0 c = sym (ap ginv c.if-a-eq0.true ∙ ginv-zero)

pub returns-else-a-eq0 : goal.returns-else-a-eq0
returns-else-a-eq0 c =
    c.power.ensures
    ∙ ap (λ x. gpow 2 (255 - x)) c.log.ensures
    ∙ sym (ginv-glog c.args.a (omega arith) (omega arith))
