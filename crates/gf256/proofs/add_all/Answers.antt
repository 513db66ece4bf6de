-- `add_all` meets its contract.
use borrow.Author.Rules.{rules}
use Rattle.gf256.specs.Field.{gadd}
use Rattle.gf256.proofs.add_all.Goals as goal

pub returns : goal.returns
returns c = c.update.ensures gadd (λ x y r hx hy h. search rules)
