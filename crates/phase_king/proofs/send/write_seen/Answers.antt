-- `phase_king::send::write_seen` meets its contract: one matrix behind the other.
use Rattle.phase_king.proofs.Writes.{seen_written}
use Rattle.phase_king.proofs.send.write_seen.Goals as goal

pub returns : goal.returns
returns c =
    let a = c.args in
    seen_written a.n c.rows_length-start.result a.zeros.now a.ones.now a.m.now c.write_rows.new.out
    c.write_rows-2.new.out
    c.rows_length-start.ensures c.requires c.write_rows.ensures c.write_rows-2.ensures
