-- `wire::slot::send_one` meets its contract.
use Rattle.std.proofs.Common.{sym}
use Rattle.wire.proofs.Slots.{put_none, put_other, put_there}
use Rattle.wire.proofs.slot.send_one.Goals as goal

pub returns-then-m-layout : goal.returns-then-m-layout
returns-then-m-layout c = sym (put_other _ _ _ _ c.if-m-layout.true)

pub returns-in-Some : goal.returns-in-Some
returns-in-Some c = put_there _ _ _ _ _ c.in-Some.ensures c.args.m.now _ c.if-m-layout.false c.put_slot.ensures

pub returns-in_default : goal.returns-in_default
returns-in_default c = sym (put_none _ _ _ _ c.in_default.ensures)
