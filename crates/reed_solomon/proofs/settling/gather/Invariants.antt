-- `gather` meets its contract. The invariant: the first i values are written.
use Rattle.reed_solomon.specs.Decode.{received}
use Rattle.lists.specs.Fill.{filled}
use lib.ListN.{get_or}
use mathlib.Core.Path.{◌≡◌}
use Rattle.reed_solomon.proofs.settling.gather.Given as goal

abbrev pub invariant-loop-i : goal.invariant-loop-i
invariant-loop-i l =
    let p = l.pieces in
    l.ys ≡ filled (λ j. received p.layout p.slots.now l.s (get_or p.points.now j 0)) l.i l.initial.ys
