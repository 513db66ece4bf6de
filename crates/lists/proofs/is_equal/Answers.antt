-- `is_equal` meets its contract.
use Rattle.lists.proofs.Sames.{same_pointwise}
use mathlib.Core.Path.{◌∙◌}
use Rattle.lists.proofs.is_equal.Goals as goal

pub returns : goal.returns
returns c = c.eq.ensures ∙ same_pointwise c.args.a.now c.args.b.now
