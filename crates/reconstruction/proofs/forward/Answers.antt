-- `forward` meets its contract.
use Rattle.reed_solomon.proofs.Laws.{ready_yes}
use borrow.Author.Tests.{eqb-true}
use Rattle.reconstruction.proofs.Rounds.{kind_forward}
use Rattle.wire.specs.declared.slot.Layout.{Layout}
use mathlib.Core.Path.{sym, ap, ◌∙◌}
use Rattle.reconstruction.proofs.forward.Goals as goal

pub send_coding-requires : goal.send_coding-requires
send_coding-requires c =
    let a = c.args in
    let r = ready_yes a.s.n a.s.t a.s.k a.own a.block.now c.holds_exactly-fits.result
    (sym c.is_ready.ensures ∙ c.if-is_ready.true) in (
      r.0.coded,
      r.0.size,
      ap (λ (l : Layout). l.length) c.kind_layout-layout.ensures ∙ kind_forward r.0.coded,
      eqb-true _ _ (sym c.holds_exactly-fits.ensures ∙ r.1),
    )
