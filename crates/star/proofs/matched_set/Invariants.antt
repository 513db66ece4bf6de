-- `star::matched_set` meets its contract: pair after pair, the last one first.
use Rattle.std.specs.Prelude.{◌≡◌, reverse, take}
use Rattle.matching.specs.Matching.{matched}
use Rattle.bitset.specs.Set.{set_of}
use Rattle.star.proofs.matched_set.Given as goal

abbrev pub invariant-loop-p : goal.invariant-loop-p
invariant-loop-p l = l.s ≡ set_of 16 (matched (reverse (take l.p-index l.pairs)))
