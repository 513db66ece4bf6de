-- `mend_all` meets its contract. The invariant: the stripes before the wrong one are right, and the marks are those of the block.
use mathlib.Core.Path.{◌≡◌}
use Prim.Native.Nat.{◌+◌, ◌*◌}
use lib.ListN.{length}
use Rattle.polynomial.specs.Polynomial.{Bytes}
use Rattle.reed_solomon.specs.Steps.{Checked}
use Rattle.reed_solomon.proofs.Mending.{left}
use Rattle.reed_solomon.proofs.mend_all.Given as goal

abbrev pub invariant-loop-compared : goal.invariant-loop-compared
invariant-loop-compared l =
    let p = l.pieces in
    Checked p.n p.t p.layout p.slots.now (length p.points.now) l.block 0 l.compared.named l.compared.wrong × (length l.block ≡ p.layout.length * (p.t + 1)) × Bytes l.block

abbrev pub decreases-loop-compared : goal.decreases-loop-compared
decreases-loop-compared l = left l.pieces.layout.length l.compared.wrong
