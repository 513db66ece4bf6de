-- `matching::largest` meets its contract: the edges that the search goes along are the missing pairs.
use Rattle.matching.proofs.Rows.{complement_sym, answer_is}
use Rattle.graph.specs.Bits.{adjacent}
use Rattle.graph.proofs.Laws.{adjacent_sym}
use Rattle.matching.specs.Steps.{Symmetric}
use native.Mathlib.Omega.{arith}
use mathlib.Core.Path.{sym, subst}
use Prim.Native.Nat.{min}
use Rattle.matching.proofs.largest.Goals as goal

pub invariant_of-graph : goal.invariant_of-graph
invariant_of-graph c =
    let A = c.args in
    record { symmetric = subst Symmetric (sym c.complement.ensures) (complement_sym (min A.n 16) (adjacent A.bits) (omega arith) (adjacent_sym A.bits)) }

pub returns : goal.returns
returns c =
    let A = c.args in
    answer_is (min A.n 16) (adjacent A.bits) (omega arith) _ _ _ c.complement.ensures c.below.ensures c.first_largest.ensures
