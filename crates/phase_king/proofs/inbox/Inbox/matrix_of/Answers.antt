-- `phase_king::inbox::Inbox::matrix_of` meets its contract.
use Rattle.std.proofs.Common.{sym, arith}
use Rattle.lists.proofs.Fills.{filled_none, fill_more}
use Rattle.phase_king.proofs.inbox.Inbox.matrix_of.Goals as goal

pub loop-r-init : goal.loop-r-init
loop-r-init g c = λ f h. sym (filled_none _ _)

pub loop-r-preserved : goal.loop-r-preserved
loop-r-preserved g c =
    λ f h. fill_more _ _ _ _ _ (omega arith) (c.loop-r.invariant f h) (h c.loop-r.r c.f.result c.loop-r-test.true c.f.ensures)
