-- `digest` meets its contract.
use Rattle.std.proofs.Common.{map, sym, ◌∙◌, arith}
use Rattle.std.proofs.lemmas.List.{at_drop_more, at_drop_all}
use Rattle.cases.specs.Random.{digested}
use Rattle.cases.proofs.digest.Goals as goal

pub loop-x-preserved : goal.loop-x-preserved
unfolding digested
loop-x-preserved g c =
    rw (c.mix-r.ensures, c.value.ensures, c.x-item.is)
    (sym (at_drop_more (λ l. digested c.loop-x.r (map g.T.Unsigned.value l)) c.args.s.now c.loop-x.x-index c.x-item.result (omega arith))
    ∙ c.loop-x.invariant)

pub returns : goal.returns
unfolding digested
returns g c =
    sym (at_drop_all (λ l. digested c.loop-x.r (map g.T.Unsigned.value l)) c.args.s.now c.loop-x.x-index (omega arith)) ∙ c.loop-x.invariant
