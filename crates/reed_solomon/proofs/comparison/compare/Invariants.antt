-- `compare` meets its contract. The invariant: the first i slots are compared.
use mathlib.Core.Path.{◌≡◌}
use Prim.Native.Nat.{◌+◌}
use Rattle.bitset.specs.Set.{set_of}
use Rattle.reed_solomon.specs.Decode.{is_named}
use Rattle.reed_solomon.proofs.Counts.{counts_of}
use Rattle.reed_solomon.proofs.comparison.compare.Given as goal

abbrev pub invariant-loop-i : goal.invariant-loop-i
invariant-loop-i l =
    let p = l.pieces in
    (l.named ≡ set_of l.i (λ j. is_named p.t p.layout p.slots.now l.block (j + 1))) × (l.counts ≡ counts_of p.t p.layout p.slots.now l.block l.i)
