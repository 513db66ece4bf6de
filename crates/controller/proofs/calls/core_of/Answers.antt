-- `controller::core_of` meets its contract.
use Rattle.star.specs.Star.{Star}
use Rattle.star.proofs.Laws.{star_of_lem, no_sets_lem}
use mathlib.Core.Path.{sym, ap, ◌∙◌}
use Rattle.controller.proofs.calls.core_of.Goals as goal

pub returns-in-Ok : goal.returns-in-Ok
returns-in-Ok c = ap (λ (s : Star). s.e) (star_of_lem c.args.rows.now c.args.n c.args.t _ c.in-Ok.ensures)

pub returns-in-Err : goal.returns-in-Err
returns-in-Err c =
    sym (no_sets_lem _).3 ∙ ap (λ (s : Star). s.e) (star_of_lem c.args.rows.now c.args.n c.args.t _ c.in-Err.ensures)
