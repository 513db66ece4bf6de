-- `controller::refusal::lengths_fit` meets its contract.
use Rattle.protocol.proofs.Laws.{fits-not-block, fits-not-inbox, fits-outbox}
use borrow.Author.Tests.{eqb-true, eqb-false}
use lib.Dec.{eqb}
use mathlib.Core.Path.{sym, ap, ◌∙◌}
use Rattle.controller.proofs.refusal.lengths_fit.Goals.{then-b-block_length, else-b-block_length}
use Rattle.controller.proofs.refusal.lengths_fit.Goals as goal

pub returns-then-i-inbox_length : goal.returns-then-i-inbox_length
returns-then-i-inbox_length c =
    let a = c.args in
    elim c.if-b-block_length.branch [
      | then-b-block_length w ↦ ap (eqb a.o) c.outbox_length.ensures
          ∙ sym (fits-outbox a.s a.b a.i a.o c.requires (w.if-b-block_length.true ∙ c.block_length.ensures)
          (eqb-true a.i _ (sym w.value-is ∙ c.if-i-inbox_length.true) ∙ w.inbox_length.ensures))
      | else-b-block_length w ↦ absurd (w.if-b-block_length.false (eqb-true a.b _ (sym w.value-is ∙ c.if-i-inbox_length.true)))
    ]

pub returns-else-i-inbox_length : goal.returns-else-i-inbox_length
returns-else-i-inbox_length c =
    let a = c.args in
    elim c.if-b-block_length.branch [
      | then-b-block_length w ↦ c.if-i-inbox_length.false
          ∙ sym (fits-not-inbox a.s a.b a.i a.o
          (λ e. eqb-false a.i _ (sym w.value-is ∙ c.if-i-inbox_length.false) (e ∙ sym w.inbox_length.ensures)))
      | else-b-block_length w ↦ c.if-i-inbox_length.false
          ∙ sym (fits-not-block a.s a.b a.i a.o c.requires (λ e. w.if-b-block_length.false (e ∙ sym c.block_length.ensures)))
    ]
