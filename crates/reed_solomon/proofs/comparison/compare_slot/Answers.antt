-- `compare_slot` meets its contract: the piece is that of the columns, and the message is that of the slot.
use mathlib.Core.Path.{ap, ap₂, ◌∙◌}
use mathlib.Core.Bool.{not}
use mathlib.Core.List.{List}
use Prim.Native.Nat.{ℕ}
use native.Mathlib.Omega.{arith}
use lib.ListN.{length}
use Rattle.lists.specs.Same.{same}
use Rattle.reed_solomon.specs.Steps.{row_values, counted}
use Rattle.reed_solomon.proofs.Counts.{message_le}
use Rattle.reed_solomon.proofs.comparison.compare_slot.Goals as goal

pub count_different-requires : goal.count_different-requires
count_different-requires c =
    let p = c.args.pieces.now in
    let size = ap length c.message-m.ensures in
    let le = message_le p.layout p.slots.now c.args.j in
    (omega (arith, size, le, c.values.auto.out, c.requires.1), omega (arith, size, le, c.requires.2), c.requires.4)

-- written out, so that another point is seen to be false
pub returns : goal.returns
returns c =
    let a = c.args in
    let p = a.pieces.now in
    let m = c.message-m.ensures in
    let v = c.values.ensures ∙ ap (λ n. row_values n p.t a.cols.now a.j) c.requires.1 in
    (ap not (c.is_equal.ensures ∙ ap₂ same m v), c.count_different.ensures ∙ ap₂ (λ (x y : List ℕ). counted x y a.counts.now) m v)
