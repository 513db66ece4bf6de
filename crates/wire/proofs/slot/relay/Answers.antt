-- `wire::slot::relay` meets its contract.
use Rattle.std.proofs.Common.{sym}
use Rattle.wire.proofs.Slots.{relay_no_target, relay_no_source, relay_there}
use Rattle.wire.proofs.slot.relay.Goals as goal

pub returns-in_default : goal.returns-in_default
returns-in_default c = sym (relay_no_target _ _ _ _ _ c.in_default.ensures)

pub returns-in_default-slot_in : goal.returns-in_default-slot_in
returns-in_default-slot_in c = sym (relay_no_source _ _ _ _ _ c.in_default-slot_in.ensures)

pub returns : goal.returns
returns c = relay_there _ _ _ _ _ _ _ _ _ _ c.in-Some.ensures c.in-Some-slot_in.ensures c.copy_from_slice.ensures.after
