-- `mul` meets its contract: the product of two powers of 02 is the power of the sum of their exponents, which counts modulo 255.
use mathlib.Core.Path.{◌≡◌, refl, ap, sym, ◌∙◌}
use Prim.Native.Nat.{ℕ, ◌+◌, ◌%◌, ◌<◌}
use native.Mathlib.Omega.{arith}
use Rattle.gf256.specs.Field.{gmul, gpow, glog}
use Rattle.gf256.proofs.Laws.{gmul-zero_l, gmul-zero_r, gpow-mod, glog_lt, gmul-glog}
use Rattle.gf256.proofs.mul.Goals as goal
use Rattle.gf256.proofs.mul.Goals.{then-a-eq0-via-then-a-eq0, then-a-eq0-via-else-a-eq0+then-b-eq0}

-- a power of 02 whose exponent is, modulo 255, the sum of the exponents of the factors, which are below 255, is their product
product :
    (a b e r : ℕ) → r ≡ gpow 2 e → 0 < a → a < 256 → 0 < b → b < 256
    → (glog a < 255 → glog b < 255 → e % 255 ≡ (glog a + glog b) % 255) → r ≡ gmul a b
product a b e r p pa ha pb hb h =
    p
    ∙ sym (gpow-mod e)
    ∙ ap (gpow 2) (h (glog_lt a) (glog_lt b))
    ∙ gpow-mod (glog a + glog b)
    ∙ sym (gmul-glog a b pa ha pb hb)

pub returns-then-a-eq0 : goal.returns-then-a-eq0
returns-then-a-eq0 c =
    elim c.then-a-eq0.branch [
      | then-a-eq0-via-then-a-eq0 w ↦ rw (w.if-a-eq0.true, gmul-zero_l c.args.b) refl
      | then-a-eq0-via-else-a-eq0+then-b-eq0 w ↦ rw (w.if-b-eq0.true, gmul-zero_r c.args.a) refl
    ]

pub returns-then-e-lt255 : goal.returns-then-e-lt255
returns-then-e-lt255 c =
    let args = c.args in
    product args.a args.b _ _ c.power.ensures (omega arith) (omega arith) (omega arith) (omega arith) (omega arith)

pub returns-else-e-lt255 : goal.returns-else-e-lt255
returns-else-e-lt255 c =
    let args = c.args in
    product args.a args.b _ _ c.power-else-e-lt255.ensures (omega arith) (omega arith) (omega arith) (omega arith) (omega arith)
