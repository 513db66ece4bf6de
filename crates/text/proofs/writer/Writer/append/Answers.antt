-- `Writer::append` meets its contract.
use Rattle.std.proofs.Common.{arith, length, refl}
use Rattle.text.proofs.Buffers.{append_part}
use Rattle.text.proofs.writer.Writer.append.Goals as goal

pub returns-clause-written : goal.returns-clause-written
returns-clause-written c =
    let w = c.args.self.now in
    rw (c.copy_from_slice.ensures.after) (append_part w.end c.args.s.now w.out.now (length c.args.s.now) refl (omega arith))
