-- For the contracts of private functions; a reader of the public contracts needs none of it.
--   Below n M  the pairs of M are of indices below n
use Rattle.std.specs.Prelude.{ℕ, List, ◌<◌}
use Rattle.graph.specs.Pairs.{Pair}
use Rattle.matching.specs.Matching.{Each}

abbrev pub Below : ℕ → List Pair → Type 0
Below n = Each (λ p. (p.0 < n) × (p.1 < n))
