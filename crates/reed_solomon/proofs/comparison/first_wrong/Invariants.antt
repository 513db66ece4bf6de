-- `first_wrong` meets its contract. The invariant: the stripes from `from` to s are right.
use Prim.Native.Nat.{ℕ, ◌+◌, ◌*◌, ◌≤◌, ◌<◌}
use lib.ListN.{get_or}
use Rattle.reed_solomon.proofs.comparison.first_wrong.Given as goal

abbrev pub invariant-loop-s : goal.invariant-loop-s
invariant-loop-s l = (i : ℕ) → l.from ≤ i → i < l.s → 2 * get_or l.counts i 0 + l.t + 1 ≤ l.present
