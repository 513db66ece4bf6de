-- `send_coding` meets its contract: the loop writes slot after slot.
use Rattle.reconstruction.proofs.Pieces.{pieces}
use Rattle.wire.specs.Slot.{width, slots}
use lib.ListN.{length, drop}
use Prim.Native.Nat.{◌*◌}
use mathlib.Core.List.{◌++◌}
use mathlib.Core.Path.{◌≡◌}
use Rattle.reconstruction.proofs.send_coding.Given as goal

abbrev pub invariant-loop-j : goal.invariant-loop-j
invariant-loop-j l =
    (length l.piece ≡ l.k) × (l.outbox ≡ slots l.layout (pieces l.k l.t l.block) l.j ++ drop (l.j * width l.layout) l.initial.outbox)
