-- `fill` meets its contract.
use native.Mathlib.Omega.{arith}
use lib.ListN.{get_or}
use mathlib.Core.Bool.{cond}
use mathlib.Core.Path.{◌≡◌, sym, ap, ◌∙◌}
use Prim.Native.Nat.{ℕ, ◌+◌}
use Rattle.lists.specs.Fill.{filled}
use Rattle.lists.proofs.Tests.{cond_yes, cond_no}
use Rattle.lists.proofs.Fills.{filled_none, fill_own}
use Rattle.system_file.specs.Steps.{is_to}
use Rattle.system_file.proofs.Rows.{row_filled}
use Rattle.system_file.proofs.table.fill.Goals as goal
use Rattle.system_file.proofs.table.fill.Goals.{then-is_to, else-is_to}

pub loop-j-init : goal.loop-j-init
loop-j-init c =
    let a = c.args in
    sym (filled_none (λ i. cond (is_to a.to (i + 1)) a.place (get_or a.row.now i 0)) a.row.now)

pub loop-j-preserved : goal.loop-j-preserved
loop-j-preserved c =
    let a = c.args in
    elim c.if-is_to.branch [
      | then-is_to w ↦ w.row-is ∙ fill_own (λ i x. cond (is_to a.to (i + 1)) a.place x) 0 c.loop-j.j a.row.now c.loop-j.row _ (omega (arith, c.requires)) c.loop-j.invariant
          (sym (cond_yes _ a.place _ (sym c.is_to.ensures ∙ w.if-is_to.true)))
      | else-is_to w ↦ w.row-is ∙ fill_own (λ i x. cond (is_to a.to (i + 1)) a.place x) 0 c.loop-j.j a.row.now c.loop-j.row _ (omega (arith, c.requires)) c.loop-j.invariant
          (sym (cond_no _ a.place _ (sym c.is_to.ensures ∙ w.if-is_to.false)))
    ]

pub returns : goal.returns
returns c =
    let a = c.args in
    let q : c.loop-j.j ≡ 16 = omega arith in
    c.loop-j.invariant ∙ ap (λ (x : ℕ). filled (λ i. cond (is_to a.to (i + 1)) a.place (get_or a.row.now i 0)) x a.row.now) q
    ∙ row_filled a.row.now a.to a.place c.requires
