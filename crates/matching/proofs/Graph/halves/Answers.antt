-- `Graph::halves` meets its contract.
use Rattle.matching.proofs.Steps.{least_in, halve_start, halve_less, halve_more, halve_done}
use Rattle.bitset.proofs.Laws.{size_le}
use Rattle.bitset.specs.Set.{size_of}
use native.Mathlib.Omega.{arith}
use mathlib.Core.Path.{ap}
use Prim.Native.Nat.{ℕ, ◌+◌, ◌/◌}
use Rattle.matching.proofs.Graph.halves.Goals as goal

pub loop-v-init : goal.loop-v-init
loop-v-init c = halve_start _ c.args.self.now.symmetric _ c.ranges.s.fits

pub component-c-requires : goal.component-c-requires
component-c-requires c = least_in _ _ c.in-Some.ensures

pub overflow_add-sum : goal.overflow_add-sum
overflow_add-sum c =
    omega (arith, c.loop-v.invariant.fits, c.size.ensures, size_le c.component-c.result)

pub loop-v-smaller : goal.loop-v-smaller
loop-v-smaller c =
    omega (
      arith,
      halve_less _ c.args.self.now.symmetric _ _ _ _ _ c.loop-v.invariant c.in-Some.ensures c.component-c.ensures.0 c.component-c.ensures.1 (omega arith),
      ap size_of c.difference-left.ensures,
    )

pub loop-v-preserved : goal.loop-v-preserved
loop-v-preserved c =
    halve_more _ c.args.self.now.symmetric _ _ _ _ _ c.loop-v.invariant c.in-Some.ensures c.component-c.ensures.0 c.component-c.ensures.1 (omega arith) _ _
    c.difference-left.ensures
    (ap (λ (x : ℕ). c.loop-v.sum + x / 2) c.size.ensures)

pub returns : goal.returns
returns c = halve_done _ c.args.self.now.symmetric _ _ _ c.loop-v.invariant c.in_default.ensures
