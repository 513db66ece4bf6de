-- `complement` meets its contract.
use Rattle.graph.specs.Neighbour.{missing}
use Rattle.graph.specs.Bits.{adjacent}
use Rattle.graph.proofs.Laws.{missing_16}
use Rattle.matching.specs.Answer.{complement}
use Rattle.lists.proofs.Fills.{filled_none, fill_more, fill_end}
use lib.ListN.{replicate}
use native.Mathlib.Omega.{arith}
use mathlib.Core.Path.{sym, ◌∙◌}
use Prim.Native.Nat.{min}
use Rattle.matching.proofs.complement.Goals as goal

pub loop-i-init : goal.loop-i-init
loop-i-init c = sym (filled_none _ _)

pub loop-i-preserved : goal.loop-i-preserved
loop-i-preserved c =
    let A = c.args in
    fill_more (missing (min A.n 16) (adjacent A.bits)) c.loop-i.i (replicate 16 0) c.loop-i.row-items c.missing_row.result (omega arith) c.loop-i.invariant
    (c.missing_row.ensures ∙ missing_16 A.bits A.n c.loop-i.i)

pub returns : goal.returns
unfolding complement
returns c = fill_end _ _ _ _ c.loop-i.invariant (omega arith)
