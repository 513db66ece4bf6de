-- `controller::refusal::step_refusal` meets its contract: 7, 8 and 6 are tried in this order.
use Rattle.controller.proofs.Refused.{ok_valid, err_refused}
use Rattle.protocol.proofs.Laws.{7_settings, 7_next, 8_step, lengths_decide}
use native.Mathlib.Omega.{arith}
use mathlib.Core.Bool.{Bool, cond, not}
use mathlib.Core.Logic.{inl, inr}
use mathlib.Core.Path.{sym, ap, ◌∙◌}
use Rattle.controller.proofs.refusal.step_refusal.Goals.{then-s-lt1-via-then-s-lt1, then-s-lt1-via-else-s-lt1+then-finished-s}
use Rattle.controller.proofs.refusal.step_refusal.Goals as goal

pub returns-then-is_err : goal.returns-then-is_err
returns-then-is_err c =
    let a = c.args in
    sym (7_settings a.s a.b a.i a.o (err_refused _ _ _ c.state_refusal.ensures c.if-is_err.ensures.negation))

pub overflow_mul-finished : goal.overflow_mul-finished
overflow_mul-finished c = omega (arith, ok_valid _ _ _ c.state_refusal.ensures c.if-is_err.ensures.negation)

pub overflow_add-finished : goal.overflow_add-finished
overflow_add-finished c = omega (arith, ok_valid _ _ _ c.state_refusal.ensures c.if-is_err.ensures.negation)

pub returns-then-s-lt1 : goal.returns-then-s-lt1
returns-then-s-lt1 c =
    let a = c.args in
    elim c.then-s-lt1.branch [
      | then-s-lt1-via-then-s-lt1 w ↦ sym (7_next a.s a.b a.i a.o (inl w.if-s-lt1.true))
      | then-s-lt1-via-else-s-lt1+then-finished-s w ↦ sym (7_next a.s a.b a.i a.o (inr w.if-finished-s.true))
    ]

pub returns-then-s-finished : goal.returns-then-s-finished
returns-then-s-finished c =
    let a = c.args in
    sym (8_step a.s a.b a.i a.o (ok_valid _ _ _ c.state_refusal.ensures c.if-is_err.ensures.negation) c.if-s-finished.true)

pub lengths_fit-requires : goal.lengths_fit-requires
lengths_fit-requires c = ok_valid _ _ _ c.state_refusal.ensures c.if-is_err.ensures.negation

pub returns-then-not-lengths_fit : goal.returns-then-not-lengths_fit
returns-then-not-lengths_fit c =
    let a = c.args in
    sym (lengths_decide a.s a.b a.i a.o (ok_valid _ _ _ c.state_refusal.ensures c.if-is_err.ensures.negation) (omega (arith, c.if-s-lt1.false))
    (omega (arith, c.if-finished-s.false)) c.if-s-finished.false
    ∙ ap (λ (x : Bool). cond (not x) 6 0) (sym c.lengths_fit.ensures ∙ c.if-not-lengths_fit.true))

pub returns : goal.returns
returns c =
    let a = c.args in
    sym (lengths_decide a.s a.b a.i a.o (ok_valid _ _ _ c.state_refusal.ensures c.if-is_err.ensures.negation) (omega (arith, c.if-s-lt1.false))
    (omega (arith, c.if-finished-s.false)) c.if-s-finished.false
    ∙ ap (λ (x : Bool). cond (not x) 6 0) (sym c.lengths_fit.ensures ∙ c.if-not-lengths_fit.false))
