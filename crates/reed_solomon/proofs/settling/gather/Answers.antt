-- `gather` meets its contract.
use Rattle.reed_solomon.specs.Decode.{received}
use Rattle.reed_solomon.specs.Steps.{column}
use Rattle.lists.proofs.Fills.{filled_none, fill_more, fill_end}
use Rattle.lists.specs.Fill.{tabulate}
use lib.ListN.{get_or}
use native.Mathlib.Omega.{arith}
use Prim.Native.Nat.{ℕ}
use mathlib.Core.Path.{sym, ap, ◌∙◌}
use Rattle.reed_solomon.proofs.settling.gather.Goals as goal

pub loop-i-init : goal.loop-i-init
loop-i-init c = sym (filled_none _ _)

pub loop-i-preserved : goal.loop-i-preserved
loop-i-preserved c =
    let a = c.args in
    let p = a.pieces.now in
    let l = c.loop-i in
    fill_more (λ j. received p.layout p.slots.now a.s (get_or p.points.now j 0)) l.i a.ys.now l.ys c.received.result (omega arith) l.invariant
    c.received.ensures

pub returns : goal.returns
unfolding column
returns c =
    let a = c.args in
    let p = a.pieces.now in
    let f : ℕ → ℕ = λ j. received p.layout p.slots.now a.s (get_or p.points.now j 0) in
    fill_end f c.loop-i.i a.ys.now c.loop-i.ys c.loop-i.invariant (omega arith) ∙ ap (tabulate f) c.requires
