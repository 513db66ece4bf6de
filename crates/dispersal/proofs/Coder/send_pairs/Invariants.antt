-- `Coder::send_pairs` meets its contract: m begins with the own piece, and the loop writes slot after slot.
use Rattle.dispersal.specs.Dispersal.{two_pieces}
use Rattle.reed_solomon.specs.Encode.{piece_of}
use Rattle.wire.specs.Slot.{width, slots}
use lib.ListN.{length, take, drop}
use Prim.Native.Nat.{◌*◌}
use mathlib.Core.List.{◌++◌}
use mathlib.Core.Path.{◌≡◌}
use Rattle.dispersal.proofs.Coder.send_pairs.Given as goal

abbrev pub invariant-loop-j : goal.invariant-loop-j
invariant-loop-j l =
    (length l.m ≡ l.layout.length)
    × (take l.self.k l.m ≡ piece_of l.self.k l.self.t l.self.block.now l.self.own)
    × (l.outbox ≡ slots l.layout (two_pieces l.self.k l.self.t l.self.own l.self.block.now) l.j ++ drop (l.j * width l.layout) l.initial.outbox)
