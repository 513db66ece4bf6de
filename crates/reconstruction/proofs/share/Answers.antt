-- `share` meets its contract.
use Rattle.reed_solomon.proofs.Laws.{ready_yes}
use Rattle.reconstruction.proofs.Rounds.{kind_rebuild}
use Rattle.wire.specs.declared.slot.Layout.{Layout}
use mathlib.Core.Path.{sym, ap, ◌∙◌}
use Rattle.reconstruction.proofs.share.Goals as goal

pub share_own-requires : goal.share_own-requires
share_own-requires c =
    let a = c.args in
    let r = ready_yes a.s.n a.s.t a.s.k a.own a.block.now c.holds_exactly-fits.result (sym c.is_ready.ensures ∙ c.if-not-is_ready.false) in
    (r.0, ap (λ (l : Layout). l.length) c.kind_layout-out.ensures ∙ kind_rebuild r.0.coded)

pub invariant_of-offers : goal.invariant_of-offers
invariant_of-offers c =
    let a = c.args in
    record {
      quorum =
          (ready_yes a.s.n a.s.t a.s.k a.own a.block.now c.holds_exactly-fits.result (sym c.is_ready.ensures ∙ c.if-not-is_ready.false)).0.coded.quorum;
    }
