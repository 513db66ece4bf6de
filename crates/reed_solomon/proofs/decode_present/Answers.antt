-- `decode_present` meets its contract.
use Rattle.std.proofs.Common.{◌≡◌, ℕ, ◌-◌, Option, None, sym, subst, arith, rules}
use Rattle.reed_solomon.specs.Steps.{Rebuilds}
use Rattle.reed_solomon.proofs.Mending.{none_at}
use Rattle.reed_solomon.proofs.decode_present.Goals as goal

pub returns-in_err-choice : goal.returns-in_err-choice
returns-in_err-choice c =
    let p = c.args.pieces.now in
    let is : c.from_residual.result ≡ None = search rules in
    subst (λ (r : Option ℕ). Rebuilds p.n p.t p.layout p.slots.now r c.args.block.now) (sym is)
    (none_at p.n p.t p.layout p.slots.now p.points.now p.lent (p.layout.length - 1) (omega (arith, p.lent.coded.k_least)) c.in_err-choice.ensures)
