-- `select` meets its contract.
use Rattle.std.proofs.Common.{ℕ, sym, ◌∙◌, ap, arith}
use Rattle.bitset.specs.Set.{inserted}
use Rattle.bitset.proofs.Sets.{set_none, insert_next, insert_skip}
use Rattle.bitset.proofs.select.Goals as goal
use Rattle.bitset.proofs.select.Goals.{then-test, else-test}

pub loop-i-init : goal.loop-i-init
loop-i-init g c = λ p h. sym (set_none p)

pub loop-i-preserved : goal.loop-i-preserved
loop-i-preserved g c =
    λ p h. let before = c.loop-i.invariant p h in
    let says = h c.loop-i.i c.test.result (omega arith) c.test.ensures in
    elim c.if-test.branch [
      | then-test w ↦ w.s-is ∙ w.insert-s.ensures ∙ ap (λ (s : ℕ). inserted s c.loop-i.i) before ∙ insert_next c.loop-i.i p (omega arith) (sym says ∙ w.if-test.true)
      | else-test w ↦ w.s-is ∙ before ∙ insert_skip c.loop-i.i p (sym says ∙ w.if-test.false)
    ]
