-- `Graph::first_largest` meets its contract.
use Rattle.matching.proofs.Steps.{at_most_8, at_most_less, largest-found, largest_none}
use Rattle.matching.specs.Steps.{AtMost, Within}
use native.Mathlib.Omega.{arith}
use mathlib.Core.Path.{◌≡◌, subst}
use Prim.Native.Nat.{◌-◌}
use Rattle.matching.proofs.Graph.first_largest.Goals as goal

pub loop-k-init : goal.loop-k-init
loop-k-init c = at_most_8 c.args.self.now.rows c.args.s c.ranges.s.fits

pub returns-in-Some : goal.returns-in-Some
returns-in-Some c = largest-found _ _ _ _ c.loop-k.invariant c.in-Some.ensures

pub loop-k-preserved : goal.loop-k-preserved
loop-k-preserved c = at_most_less _ _ _ (omega arith) c.loop-k.invariant c.in_default.ensures

pub returns : goal.returns
returns c =
    let e : c.loop-k.k - 1 ≡ 0 = omega arith in
    largest_none _ _ _ (subst (AtMost (Within c.args.self.now.rows c.args.s)) e c.loop-k.invariant) c.empty.ensures
