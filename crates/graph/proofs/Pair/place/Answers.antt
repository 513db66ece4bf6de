-- `graph::Pair::place` meets its contract.
use Rattle.graph.proofs.Order.{pair_place}
use Rattle.graph.specs.Pairs.{place}
use Prim.Native.Nat.{ℕ, ◌+◌, ◌-◌}
use native.Mathlib.Omega.{arith}
use mathlib.Core.Path.{ap}
use Rattle.graph.proofs.Pair.place.Goals as goal

pub returns : goal.returns
unfolding place
returns c =
    let P = c.args.self in
    let e = ap (λ (x : ℕ). x + (P.large - P.small - 1)) c.first_place.ensures.0 in
    (e, omega (arith, e, (pair_place P.small P.large P.order P.below).0))
