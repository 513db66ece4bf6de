-- `send_pieces` meets its contract.
use Rattle.reed_solomon.proofs.Laws.{ready_yes}
use Rattle.dispersal.proofs.Steps.{kind_pieces}
use Rattle.wire.specs.declared.slot.Layout.{Layout}
use Rattle.wire.specs.Slot.{width}
use lib.ListN.{length}
use borrow.Author.Tests.{eqb-true}
use Prim.Native.Nat.{◌*◌}
use mathlib.Core.Path.{sym, ap, ◌∙◌}
use Rattle.dispersal.proofs.send_pieces.Goals as goal

pub send_pairs-requires : goal.send_pairs-requires
send_pairs-requires c =
    let a = c.args in
    let e = c.in-Some.ensures in
    let r = ready_yes a.s.n a.s.t a.s.k a.own a.block.now c.holds_exactly-fits.result e.0 in
    rw (e.1, e.3) (
      ap (λ (l : Layout). l.length) c.kind_layout-layout.ensures ∙ kind_pieces r.0.coded,
      eqb-true (length a.outbox.now) (a.s.n * width c.kind_layout-layout.result) (sym c.holds_exactly-fits.ensures ∙ r.1),
    )
