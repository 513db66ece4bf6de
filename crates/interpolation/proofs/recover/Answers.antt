-- `recover` meets its contract.
use Rattle.interpolation.specs.Steps.{ratio_of, ratios_of}
use Rattle.interpolation.specs.Interpolation.{smaller, series}
use Rattle.interpolation.proofs.Laws.{smaller_first, smaller-second, candidate-series}
use native.Mathlib.Omega.{arith}
use mathlib.Core.Path.{refl, sym, ap, ◌∙◌}
use Rattle.lists.proofs.Zeros.{take-zeros}
use lib.ListN.{length}
use Prim.Native.Nat.{◌+◌}
use Rattle.interpolation.proofs.recover.Goals as goal

pub interpolate-requires : goal.interpolate-requires
interpolate-requires c =
    let w = length c.args.xs.now + c.args.t + 1 in
    let z = take-zeros 22 w c.requires.1 in
    record { values = c.requires.0; few = omega arith; least = refl; zero_q = z; zero_e = z; zero_q' = z; zero_e' = z }

pub divide-requires : goal.divide-requires
divide-requires c =
    let s = c.interpolate.ensures.alike in (s.size_q' ∙ sym s.size_e', omega (arith, s.size_q', c.interpolate.ensures.some))

pub divide-requires-else-second-first : goal.divide-requires-else-second-first
divide-requires-else-second-first c = (sym c.interpolate.ensures.alike.size_e, c.interpolate.ensures.some)

pub returns-then-second-first : goal.returns-then-second-first
returns-then-second-first c =
    let a = c.args in
    let p = c.interpolate.new.first in
    let r = c.interpolate.new.second in
    c.divide.ensures ∙ ap (λ n. series n r.q.now r.e.now) c.requires.2
    ∙ sym (candidate-series a.t a.xs.now a.ys.now (ratio_of r)
    (ap smaller (sym c.interpolate.ensures.state) ∙ smaller-second (ratios_of p r) c.if-second-first.true))

pub returns-else-second-first : goal.returns-else-second-first
returns-else-second-first c =
    let a = c.args in
    let p = c.interpolate.new.first in
    let r = c.interpolate.new.second in
    c.divide-else-second-first.ensures ∙ ap (λ n. series n p.q.now p.e.now) c.requires.2
    ∙ sym (candidate-series a.t a.xs.now a.ys.now (ratio_of p)
    (ap smaller (sym c.interpolate.ensures.state) ∙ smaller_first (ratios_of p r) c.if-second-first.false))
