-- `wire::slot::fill_slots` meets its contract: the loop writes slot after slot.
use Rattle.wire.specs.Slot.{width, bytes, slots}
use Rattle.std.proofs.Common.{◌≡◌, ◌*◌, ◌++◌, drop}
use Rattle.wire.proofs.slot.fill_slots.Given as goal

abbrev pub invariant-loop-j : goal.invariant-loop-j
invariant-loop-j l = l.outbox ≡ slots l.layout (λ _. bytes l.m) l.j ++ drop (l.j * width l.layout) l.initial.outbox
