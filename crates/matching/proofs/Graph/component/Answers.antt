-- `Graph::component` meets its contract.
use Rattle.matching.proofs.Steps.{grow_start, grow_more, grow_less, grow_done}
use Rattle.matching.proofs.Graph.component.Goals as goal

pub loop-x-init : goal.loop-x-init
loop-x-init c = grow_start _ _ _ c.ranges.s.fits _ c.requires c.insert-c.ensures

pub loop-x-smaller : goal.loop-x-smaller
loop-x-smaller c = grow_less _ _ _ c.ranges.s.fits _ _ _ _ _ c.loop-x.invariant c.in-Some.ensures c.remove-unseen.ensures

pub loop-x-preserved : goal.loop-x-preserved
loop-x-preserved c =
    grow_more _ _ _ c.ranges.s.fits _ _ _ _ _ _ _ _ c.loop-x.invariant c.in-Some.ensures c.remove-unseen.ensures c.intersection.ensures c.union-c.ensures
    c.intersection-next.ensures

pub returns : goal.returns
returns c = (c.loop-x.invariant.has, grow_done _ _ _ c.ranges.s.fits _ _ _ c.loop-x.invariant c.in_default.ensures)
