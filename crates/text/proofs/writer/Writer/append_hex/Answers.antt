-- `Writer::append_hex` meets its contract.
use Rattle.std.proofs.Common.{sym, arith, length, ◌*◌}
use Rattle.text.specs.Write.{hexadecimal}
use Rattle.text.proofs.Digits.{length-hexadecimal}
use Rattle.text.proofs.Buffers.{append_part, appended_full, end_full}
use Rattle.text.proofs.writer.Writer.append_hex.Goals as goal
use Rattle.text.proofs.writer.Writer.append_hex.Goals.{then-len-self-via-then-len-self, then-len-self-via-else-len-self+then-len-self-2}

pub returns-then-len-self-clause-written : goal.returns-then-len-self-clause-written
returns-then-len-self-clause-written c =
    let w = c.args.self.now in
    let n = length-hexadecimal c.args.s.now in
    elim c.then-len-self.branch [
      | then-len-self-via-then-len-self v ↦ sym (appended_full w.end (hexadecimal c.args.s.now) w.out.now (omega arith))
      | then-len-self-via-else-len-self+then-len-self-2 v ↦ sym (appended_full w.end (hexadecimal c.args.s.now) w.out.now (omega arith))
    ]

pub returns-then-len-self-clause-end : goal.returns-then-len-self-clause-end
returns-then-len-self-clause-end c =
    let w = c.args.self.now in
    let n = length-hexadecimal c.args.s.now in
    elim c.then-len-self.branch [
      | then-len-self-via-then-len-self v ↦ sym (end_full w.end (hexadecimal c.args.s.now) w.out.now (omega arith))
      | then-len-self-via-else-len-self+then-len-self-2 v ↦ sym (end_full w.end (hexadecimal c.args.s.now) w.out.now (omega arith))
    ]

pub returns-clause-written : goal.returns-clause-written
returns-clause-written c =
    let w = c.args.self.now in
    let s = c.args.s.now in
    rw (c.write_hex.ensures) (append_part w.end (hexadecimal s) w.out.now (2 * length s) (sym (length-hexadecimal s)) (omega arith))
