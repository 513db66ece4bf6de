-- `Pair::wrong_by` meets its contract.
use Rattle.interpolation.proofs.Laws.{wrong-values}
use Rattle.gf256.specs.Field.{gadd, gmul}
use mathlib.Core.Path.{sym, ap, ap₂, ◌∙◌}
use Rattle.interpolation.proofs.Pair.wrong_by.Goals as goal

pub returns : goal.returns
returns c =
    let p = c.args.self.now in
    c.add.ensures ∙ ap₂ gadd c.evaluate.ensures (c.mul.ensures ∙ ap (gmul c.args.y) c.evaluate-2.ensures)
    ∙ sym (wrong-values c.args.y p.q.now p.e.now c.args.x)
