-- `state_bytes::put_field` meets its contract, field by field.
use Rattle.state_bytes.proofs.Fields.{matrix_field, weak-field, rows_put}
use Rattle.state_bytes.proofs.put_field.Goals as goal

pub returns-in-7 : goal.returns-in-7
returns-in-7 c =
    let a = c.args in
    rows_put a.s a.i c.write_rows.new.out a.s.matrix a.bytes.now (matrix_field a.s a.i c.in-7.is) c.requires.1 c.write_rows.ensures

pub returns-in-8 : goal.returns-in-8
returns-in-8 c =
    let a = c.args in
    rows_put a.s a.i c.write_rows-in-8.new.out a.s.weak a.bytes.now (weak-field a.s a.i c.in-8.is) c.requires.1 c.write_rows-in-8.ensures
