-- `mend` meets its contract: stripe s is the one that was settled, and what stands before it stays.
use mathlib.Core.Path.{◌≡◌, ap, ◌∙◌}
use Prim.Native.Nat.{◌+◌, ◌-◌, ◌*◌, ◌≤◌}
use native.Mathlib.Omega.{arith}
use borrow.Rule.Slice.PartMut.{put_mid}
use lib.ListN.{length}
use Rattle.lists.proofs.Parts.{slot_within, front_put, length-lent}
use Rattle.reed_solomon.specs.Encode.{stripe}
use Rattle.reed_solomon.specs.Steps.{column, is_right}
use Rattle.reed_solomon.proofs.Stripes.{stripe_put, stripe_front, front_less}
use Rattle.reed_solomon.proofs.mend.Goals as goal

pub returns : goal.returns
returns c =
    let a = c.args in
    let p = a.pieces.now in
    let w = p.t + 1 in
    let z = a.s * w in
    let m = c.settle.new.m in
    let b = a.block.now in
    let wide : z + w ≤ length b = omega (arith, slot_within p.layout.length w a.s c.requires.0, c.requires.1) in
    let long : length m ≡ w = c.settle.auto.m ∙ length-lent z w b wide in
    let after = c.guess_rest.new.block in
    let front = c.guess_rest.ensures in
    let placed = put_mid z (z + w - z) b m in
    let is : stripe p.t after a.s ≡ m =
    stripe_front p.t after placed (a.s + 1) front a.s (omega arith) ∙ stripe_put p.layout.length p.t b m a.s c.requires.1 c.requires.0 long in (
      ap (is_right p.t p.points.now (column p.layout p.slots.now a.s p.points.now)) is ∙ c.in_ok-choice.ensures,
      front_less w after placed a.s (a.s + 1) front (omega arith) ∙ front_put z b _ (omega (arith, wide)),
    )
