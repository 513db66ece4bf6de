-- `wire::kind_length` meets its contract.
use Rattle.std.proofs.Common.{sym, ◌∙◌, arith}
use Rattle.settings.proofs.Laws.{lengths_0, row_least}
use Rattle.wire.proofs.Lengths.{kind_length_is, kind_length_none}
use Rattle.wire.proofs.length.kind_length.Goals as goal

pub row_length-requires : goal.row_length-requires
row_length-requires c = lengths_0 _ _ _ (sym c.in-Ok.ensures)

pub returns-in-Ok : goal.returns-in-Ok
returns-in-Ok c = c.row_length.ensures ∙ sym (kind_length_is (lengths_0 _ _ _ (sym c.in-Ok.ensures)) c.args.kind)

pub returns-in-Err : goal.returns-in-Err
returns-in-Err c =
    let a = c.args in
    sym (kind_length_none a.n a.t a.k a.kind (λ e. omega (arith, row_least c.in-Err.field-0, c.in-Err.ensures)))
