-- `update` meets its contract.
use mathlib.Core.Path.{sym}
use native.Mathlib.Omega.{arith}
use lib.ListN.{length, get_or}
use Rattle.lists.proofs.Fills.{filled_none, fill_own, fill_least}
use Rattle.gf256.proofs.update.Goals as goal

pub loop-i-init : goal.loop-i-init
loop-i-init g c = λ h e. sym (filled_none _ _)

pub loop-i-preserved : goal.loop-i-preserved
loop-i-preserved g c =
    let l = c.loop-i in
    λ h e. fill_own (λ j x. h x (get_or c.args.q.now j 0)) 0 l.i c.args.p.now l.p c.f.result (omega arith) (l.invariant h e)
    (e (get_or l.p l.i 0) (get_or c.args.q.now l.i 0) c.f.result (omega arith) (omega (arith, c.type_inv.q l.i)) c.f.ensures)

pub returns : goal.returns
returns g c =
    let l = c.loop-i in
    λ h e. fill_least (λ j. h (get_or c.args.p.now j 0) (get_or c.args.q.now j 0)) l.i (length c.args.q.now) c.args.p.now l.p (l.invariant h e) (omega arith)
