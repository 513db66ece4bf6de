-- `guess_rest` is safe: each part that is lent has the stated length.
use mathlib.Core.Path.{◌≡◌, sym, ap, ◌∙◌}
use Prim.Native.Nat.{◌+◌, ◌-◌, ◌*◌}
use native.Mathlib.Nat.{mul_comm}
use native.Mathlib.Omega.{arith}
use borrow.Author.Rules.{rules}
use lib.ListN.{length, take, length-drop}
use lib.Seq.{length-take-le}
use Rattle.lists.proofs.Parts.{part_rest}
use Rattle.reed_solomon.proofs.Stripes.{rest_size, block-most}
use Rattle.reed_solomon.proofs.guess_rest.Goals as goal

pub guess-requires : goal.guess-requires
guess-requires c =
    let a = c.args in
    let p = a.pieces.now in
    let w = p.t + 1 in
    let rows = p.layout.length - a.from in
    let z = rest_size p.layout.length a.from w c.requires.0 in
    let most = block-most p.layout.length p.t p.lent.coded.k_most p.lent.pointed.few-faulty in
    let long : length a.cols.now ≡ 768 = search rules in
    let long' : length a.tmp.now ≡ 128 = search rules in
    let tall : length (take rows a.tmp.now) ≡ rows = length-take-le rows a.tmp.now (omega (arith, long', p.lent.coded.k_most)) in
    let swap : w * length (take rows a.tmp.now) ≡ rows * w = ap (λ n. w * n) tall ∙ mul_comm w rows in (
      omega (arith, tall, p.lent.coded.k_most),
      length-take-le (rows * w) a.cols.now (omega (arith, long, most, z)) ∙ sym swap,
      ap length (part_rest (a.from * w) a.block.now) ∙ omega (arith, length-drop (a.from * w) a.block.now, z, c.requires.1, swap),
    )
