-- `wire::row_length` meets its contract: a row of the table of factors gives the length, and no sum overflows.
use Rattle.std.proofs.Common.{List, ℕ, ap, ◌∙◌}
use Rattle.wire.proofs.Factors.{total, row_value, row_none}
use Rattle.wire.proofs.length.row_length.Goals as goal

pub returns-in-Some : goal.returns-in-Some
returns-in-Some c =
    let a = c.args in
    ap (λ (l : List ℕ). total l a.n a.t a.k) c.in-Some.ensures ∙ row_value a.kind a.n a.t a.k

pub returns-in-None : goal.returns-in-None
returns-in-None c = row_none c.args.kind c.args.n c.args.t c.args.k c.in-None.ensures
