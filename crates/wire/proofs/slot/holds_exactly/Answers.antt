-- `wire::slot::holds_exactly` meets its contract: the last slot ends where the box does.
use Rattle.std.proofs.Common.{sym, ap, ◌∙◌, ◌*◌, length, arith}
use Rattle.lists.proofs.Tests.{eqb_comm}
use borrow.Author.Tests.{ne_eqb}
use lib.Dec.{eqb}
use Rattle.wire.specs.Slot.{width}
use Rattle.wire.proofs.Slots.{ends_at, holds_no}
use Rattle.wire.proofs.slot.holds_exactly.Goals as goal

pub returns-in-Some : goal.returns-in-Some
returns-in-Some c =
    let l = length c.args.slots.now in
    eqb_comm c.in-Some.last.end l ∙ ap (eqb l) (ends_at _ _ _ _ _ c.in-Some.ensures)

pub returns-else-n-eq0 : goal.returns-else-n-eq0
returns-else-n-eq0 c =
    let a = c.args in
    ne_eqb a.n 0 c.if-n-eq0.false
    ∙ sym (ne_eqb (length a.slots.now) (a.n * width a.layout) (λ e. omega (arith, holds_no a.slots.now a.layout a.n (omega arith) c.in-None.ensures)))
