-- `horner_at_points` meets its contract.
use borrow.Author.Rules.{rules}
use Rattle.gf256.specs.Field.{gadd, gmul}
use Rattle.gf256.proofs.horner_at_points.Goals as goal

pub returns : goal.returns
returns c = c.update.ensures (λ y x. gadd c.args.c (gmul x y)) (λ y x r hy hx h. search rules)
