-- `is_block` meets its contract.
use mathlib.Core.Path.{ap, ◌∙◌}
use Prim.Native.Nat.{ℕ, ◌<◌, ◌+◌, ◌-◌, ◌^◌, min}
use native.Mathlib.Omega.{arith}
use lib.Dec.{eqb}
use lib.ListN.{length}
use Rattle.reed_solomon.proofs.Sizes.{whole_block}
use Rattle.reed_solomon.proofs.is_block.Goals as goal

pub returns : goal.returns
returns c =
    let a = c.args in
    let len = length a.block.now in
    let short : len < 2 ^ 64 - 1 = omega arith in
    ap (eqb len) (c.saturating_add.ensures ∙ ap (λ (x : ℕ). min (x + a.k) (2 ^ 64 - 1)) c.saturating_mul.ensures) ∙ whole_block len a.k a.t (2 ^ 64 - 1) short
