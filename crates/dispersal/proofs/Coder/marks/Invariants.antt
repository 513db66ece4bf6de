-- `Coder::marks` meets its contract: m begins with the own piece, and the loop makes the set of those marked.
use Rattle.dispersal.specs.Dispersal.{is_marked}
use Rattle.reed_solomon.specs.Encode.{piece_of}
use Rattle.bitset.specs.Set.{set_of}
use lib.ListN.{length, take}
use Prim.Native.Nat.{◌+◌, ◌*◌}
use mathlib.Core.Path.{◌≡◌}
use Rattle.dispersal.proofs.Coder.marks.Given as goal

abbrev pub invariant-loop-i : goal.invariant-loop-i
invariant-loop-i l =
    (length l.m ≡ 2 * l.self.k)
    × (take l.self.k l.m ≡ piece_of l.self.k l.self.t l.self.block.now l.self.own)
    × (l.set ≡ set_of l.i (λ j. is_marked l.self.k l.self.t l.self.own l.inbox l.layout l.self.block.now (j + 1)))
