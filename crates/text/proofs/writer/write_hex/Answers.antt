-- `writer::write_hex` meets its contract.
use Rattle.std.proofs.Common.{arith, ap, ◌∙◌, ◌+◌, ◌*◌, List, ℕ}
use lib.ListN.{set}
use Rattle.text.proofs.Buffers.{hex_turn, hex_end}
use Rattle.text.proofs.writer.write_hex.Goals as goal

pub loop-i-preserved : goal.loop-i-preserved
loop-i-preserved c =
    let i = c.loop-i.i in
    ap (λ (l : List ℕ). set (set l (2 * i) c.hex_byte.result) (2 * i + 1) c.hex_byte-in-loop-i.result) c.loop-i.invariant
    ∙ hex_turn c.args.s.now c.args.out.now i c.hex_byte.result c.hex_byte-in-loop-i.result c.requires (omega arith) c.hex_byte.ensures
    c.hex_byte-in-loop-i.ensures

pub returns : goal.returns
returns c = c.loop-i.invariant ∙ hex_end c.args.s.now c.args.out.now c.loop-i.i c.requires (omega arith)
