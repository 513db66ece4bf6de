-- `values` meets its contract.
use mathlib.Core.Path.{◌≡◌, ap, ◌∙◌}
use Prim.Native.Nat.{◌+◌, ◌-◌}
use native.Mathlib.Omega.{arith}
use lib.ListN.{replicate}
use Rattle.reed_solomon.proofs.Right.{values_from, values_none, values_step, values_all}
use Rattle.reed_solomon.proofs.settling.values.Goals as goal

pub loop-j-init : goal.loop-j-init
loop-j-init c = let a = c.args in c.fill.ensures.after (λ y e. e) ∙ ap (λ n. replicate n 0) c.requires ∙ values_none a.m.now a.xs.now

pub loop-j-preserved : goal.loop-j-preserved
loop-j-preserved c =
    let a = c.args in
    let l = c.loop-j in
    let j = l.j - 1 in
    let next : l.j ≡ j + 1 = omega arith in
    c.horner_at_points.ensures ∙ values_step a.m.now a.xs.now l.out j (omega arith) (l.invariant ∙ ap (values_from a.m.now a.xs.now) next)

pub returns : goal.returns
returns c =
    let a = c.args in
    let l = c.loop-j in
    let none : l.j ≡ 0 = omega arith in
    l.invariant ∙ ap (values_from a.m.now a.xs.now) none ∙ values_all a.m.now a.xs.now (λ i. omega (arith, c.type_inv.m i))
