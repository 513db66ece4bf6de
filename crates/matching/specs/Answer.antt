-- The form in which a matching is answered, and what the answer is.
--   complement n adj        row i has those with whom i makes a missing pair: 16 rows, empty from n on
--   slots M                 the pairs of M, the first one last, then zeros: 8 in all
--   stored M                the matching M as it is answered
--   pairs_of m              the pairs of an answer, the first one first
--   IsFirstLargest n adj r  the pairs of r are the first largest matching among 0 .. n - 1, and r is how they are answered
--   OneAnswer               no two answers are so: the relation determines every byte (proofs/One: `one_answer`)
use Rattle.std.specs.Prelude.{◌≡◌, List, [], ◌∷◌, Bool, ℕ, length, set, replicate, take, reverse}
use Rattle.lists.specs.Fill.{tabulate}
use Rattle.graph.specs.Neighbour.{missing}
use Rattle.graph.specs.Pairs.{Pair}
use Rattle.matching.specs.Matching.{FirstLargest, Missing}
use Rattle.matching.specs.declared.Matching.{Matching}

unfoldable pub complement : ℕ → (ℕ → ℕ → Bool) → List ℕ
complement n adj = tabulate (missing n adj) 16

unfoldable pub slots : List Pair → List Pair
slots [] = replicate 8 (0, 0)
slots (p ∷ M) = set (slots M) (length M) p

unfoldable pub stored : List Pair → Matching
stored M = record { count = length M; pairs = slots M }

abbrev pub pairs_of : Matching → List Pair
pairs_of m = reverse (take m.count m.pairs)

pub record IsFirstLargest (n : ℕ) (adj : ℕ → ℕ → Bool) (r : Matching) : Type 0 where
  pub first_largest : FirstLargest (Missing n adj) (pairs_of r)
  pub answered : r ≡ stored (pairs_of r)

abbrev pub OneAnswer : Type 0
OneAnswer = (n : ℕ) (adj : ℕ → ℕ → Bool) (r s : Matching) → IsFirstLargest n adj r → IsFirstLargest n adj s → r ≡ s
