-- `candidate` meets its contract.
use Rattle.interpolation.proofs.Equations.{into_uneven, into_none, into_many, into_candidate}
use lib.ListN.{length}
use borrow.Author.Rules.{rules}
use borrow.Author.Tests.{eqb-true}
use native.Mathlib.Omega.{arith}
use Prim.Native.Nat.{◌-◌, ◌≤◌}
use mathlib.Core.Path.{sym, ◌∙◌}
use Rattle.interpolation.proofs.candidate.Goals as goal
use Rattle.interpolation.proofs.candidate.Goals.{else-ys-xs-via-then-ys-xs+then-not-is_empty+then-m-le-MOST+else-xs-m}
use Rattle.interpolation.proofs.candidate.Goals.{else-ys-xs-via-then-ys-xs+then-not-is_empty+else-m-le-MOST, else-ys-xs-via-then-ys-xs+else-not-is_empty}
use Rattle.interpolation.proofs.candidate.Goals.{else-ys-xs-via-else-ys-xs}

pub returns-then-xs-m : goal.returns-then-xs-m
returns-then-xs-m c =
    let a = c.args in
    let some : 1 ≤ length a.m.now = search rules in
    c.recover.ensures ∙ sym (into_candidate a.xs.now a.ys.now a.m.now (length a.m.now - 1) c.if-ys-xs.true (omega arith) (omega arith))

pub returns-else-ys-xs : goal.returns-else-ys-xs
returns-else-ys-xs c =
    let a = c.args in
    sym (elim c.else-ys-xs.branch [
      | else-ys-xs-via-then-ys-xs+then-not-is_empty+then-m-le-MOST+else-xs-m w ↦ into_many a.xs.now a.ys.now a.m.now (omega arith)
      | else-ys-xs-via-then-ys-xs+then-not-is_empty+else-m-le-MOST w ↦ into_many a.xs.now a.ys.now a.m.now (omega arith)
      | else-ys-xs-via-then-ys-xs+else-not-is_empty w ↦
          into_none a.xs.now a.ys.now a.m.now (eqb-true (length a.m.now) 0 (sym w.is_empty.ensures ∙ w.if-not-is_empty.false))
      | else-ys-xs-via-else-ys-xs w ↦ into_uneven a.xs.now a.ys.now a.m.now w.if-ys-xs.false
    ])
