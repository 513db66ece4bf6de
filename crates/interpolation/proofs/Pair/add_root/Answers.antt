-- `Pair::add_root` meets its contract.
use Rattle.interpolation.specs.Interpolation.{ratio}
use Rattle.interpolation.proofs.Laws.{root_pair}
use mathlib.Core.Path.{sym, ap₂, ◌∙◌}
use Rattle.interpolation.proofs.Pair.add_root.Goals as goal

pub returns-clause-ratio : goal.returns-clause-ratio
returns-clause-ratio c =
    let p = c.args.self.now in
    ap₂ ratio c.times_root.ensures c.times_root-2.ensures ∙ sym (root_pair c.args.x p.q.now p.e.now)
