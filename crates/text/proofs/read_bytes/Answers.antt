-- `read_bytes` meets its contract.
use Rattle.std.proofs.Common.{arith, sym, ap₂, ◌∙◌, List, ℕ}
use lib.ListN.{set}
use Rattle.lists.proofs.Parts.{copy_more}
use Rattle.text.specs.Read.{bytes_of}
use Rattle.text.proofs.Bytes.{bytes_half, get_or-bytes, read_end}
use Rattle.text.proofs.read_bytes.Goals as goal

pub loop-i-preserved : goal.loop-i-preserved
loop-i-preserved c =
    let f = c.args.f.now in
    let i = c.loop-i.i in
    ap₂ (λ (l : List ℕ) (v : ℕ). set l i v) c.loop-i.invariant (c.byte.ensures ∙ sym (get_or-bytes f i (omega arith)))
    ∙ copy_more i (bytes_of f) c.args.out.now (omega (arith, bytes_half f)) (omega arith)

pub returns : goal.returns
returns c =
    let f = c.args.f.now in
    c.loop-i.invariant ∙ read_end (bytes_of f) c.args.out.now c.loop-i.i (omega (arith, c.min-n.ensures, bytes_half f))
