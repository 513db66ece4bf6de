-- `take_column` meets its contract.
use mathlib.Core.Path.{refl, sym}
use Prim.Native.Nat.{ℕ, ◌+◌, ◌*◌}
use native.Mathlib.Omega.{arith}
use lib.ListN.{get_or}
use Rattle.lists.proofs.Fills.{filled_none, fill_more, fill_end}
use Rattle.reed_solomon.specs.Steps.{every}
use Rattle.reed_solomon.proofs.columns.take_column.Goals as goal

pub loop-s-init : goal.loop-s-init
loop-s-init c = sym (filled_none _ _)

pub loop-s-preserved : goal.loop-s-preserved
loop-s-preserved c =
    let a = c.args in
    let l = c.loop-s in
    let f : ℕ → ℕ = λ i. get_or a.l.now (i * a.w + a.j) 0 in fill_more f l.s a.out.now l.out (f l.s) (omega arith) l.invariant refl

pub returns : goal.returns
unfolding every
returns c =
    let a = c.args in
    let l = c.loop-s in
    fill_end (λ i. get_or a.l.now (i * a.w + a.j) 0) l.s a.out.now l.out l.invariant (omega arith)
