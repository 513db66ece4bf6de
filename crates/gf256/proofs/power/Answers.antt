-- `power` meets its contract. The table's rule: it is the list `orbit 255 1`, which antt computes, and `get_or-orbit` says what stands at each
-- place of that list.
use mathlib.Core.Path.{ap, sym, ◌∙◌}
use borrow.Author.Rules.{rules}
use Rattle.gf256.specs.Field.{gmul, gpow, orbit}
use Rattle.gf256.proofs.Powers.{gpow-order, get_or-orbit}
use Rattle.gf256.proofs.power.Goals as goal

pub returns-then-e-eq255 : goal.returns-then-e-eq255
returns-then-e-eq255 c = sym (ap (gpow 2) c.if-e-eq255.true ∙ gpow-order)

pub returns-else-e-eq255 : goal.returns-else-e-eq255
unfolding gmul orbit
returns-else-e-eq255 c = get_or-orbit 255 c.args.e (search rules)
