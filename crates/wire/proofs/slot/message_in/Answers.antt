-- `wire::slot::message_in` meets its contract.
use Rattle.std.proofs.Common.{sym, ◌∙◌, arith}
use Rattle.wire.specs.Slot.{width}
use Rattle.wire.proofs.Slots.{none_held, none_present, message_there, length_part}
use Rattle.wire.proofs.slot.message_in.Goals as goal

pub returns-in_err-start : goal.returns-in_err-start
returns-in_err-start c = rw c.from_residual.ensures (none_held _ _ _ c.in_err-start.ensures)

pub is_present-requires : goal.is_present-requires
unfolding width
is_present-requires c = omega (arith, length_part _ _ _ _ _ c.in_ok-start.ensures)

pub returns-then-not-is_present : goal.returns-then-not-is_present
returns-then-not-is_present c = none_present _ _ _ _ _ c.in_ok-start.ensures (sym c.is_present.ensures ∙ c.if-not-is_present.true)

pub returns : goal.returns
returns c = message_there _ _ _ _ _ c.in_ok-start.ensures (sym c.is_present.ensures ∙ c.if-not-is_present.false)
