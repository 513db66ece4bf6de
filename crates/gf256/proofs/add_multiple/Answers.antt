-- `add_multiple` meets its contract.
use borrow.Author.Rules.{rules}
use Rattle.gf256.specs.Field.{gadd, gmul}
use Rattle.gf256.proofs.add_multiple.Goals as goal

pub returns : goal.returns
returns c = c.update.ensures (λ x y. gadd x (gmul c.args.b y)) (λ x y r hx hy h. search rules)
