-- `graph::first_place` meets its contract: the formula is the sum.
use Rattle.graph.proofs.Order.{first_formula}
use native.Mathlib.Omega.{arith}
use Rattle.graph.proofs.first_place.Goals as goal

pub returns : goal.returns
returns c =
    let f = first_formula c.args.i c.requires in
    (f.0, omega (arith, f.1))
