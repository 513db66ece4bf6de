-- `evaluate` meets its contract.
use Rattle.std.specs.Prelude.{reverse}
use Rattle.std.specs.List.{fold}
use Rattle.gf256.specs.Field.{gadd, gmul}
use Rattle.interpolation.proofs.Loops.{horner-fold}
use borrow.Author.Rules.{rules}
use mathlib.Core.Path.{◌≡◌, ◌∙◌}
use Rattle.interpolation.proofs.evaluate.Goals as goal

pub returns : goal.returns
returns c =
    let x = c.args.x in
    let p = c.args.p.now in
    let e : c.fold.result ≡ fold (λ r c. gadd c (gmul x r)) 0 (reverse p) = search rules in
    e ∙ horner-fold x p
