-- `Pair::combine` meets its contract.
use Rattle.interpolation.specs.Interpolation.{ratio}
use Rattle.interpolation.proofs.Laws.{combine_pair}
use mathlib.Core.Path.{sym, ap₂, ◌∙◌}
use Rattle.interpolation.proofs.Pair.combine.Goals as goal

pub returns-clause-ratio : goal.returns-clause-ratio
returns-clause-ratio c =
    let p = c.args.self.now in
    let r = c.args.other.now in
    ap₂ ratio c.combine.ensures c.combine-2.ensures ∙ sym (combine_pair c.args.a c.args.b p.q.now p.e.now r.q.now r.e.now)
