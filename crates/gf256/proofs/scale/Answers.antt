-- `scale` meets its contract.
use mathlib.Core.Path.{sym}
use native.Mathlib.Omega.{arith}
use lib.ListN.{get_or}
use Rattle.lists.proofs.Fills.{filled_none, fill_own, fill_end}
use Rattle.gf256.specs.Field.{gmul}
use Rattle.gf256.proofs.scale.Goals as goal

pub loop-x-init : goal.loop-x-init
loop-x-init c = sym (filled_none _ _)

pub loop-x-preserved : goal.loop-x-preserved
loop-x-preserved c =
    let l = c.loop-x in
    fill_own (λ _. gmul c.args.a) 0 l.x-index c.args.p.now l.p c.bitwise_product.result (omega arith) l.invariant c.bitwise_product.ensures

pub returns : goal.returns
returns c = fill_end (λ j. gmul c.args.a (get_or c.args.p.now j 0)) c.loop-x.x-index c.args.p.now c.loop-x.p c.loop-x.invariant (omega arith)
