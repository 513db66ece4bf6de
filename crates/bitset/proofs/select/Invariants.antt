-- `bitset::select` meets its contract: of the indices passed, those are in the set that pass the test.
use Rattle.std.proofs.Common.{◌≡◌, ℕ, Bool, ◌<◌, min}
use Rattle.bitset.specs.Set.{set_of}
use Rattle.bitset.proofs.select.Given as goal

abbrev pub invariant-loop-i : goal.invariant-loop-i
invariant-loop-i g l =
    (p : ℕ → Bool) → ((i : ℕ) (b : Bool) → i < min l.n 16 → goal.F-post g l.test i b → b ≡ p i) → l.s ≡ set_of l.i p
