-- The 120 pairs of different indices below 16, in the order of document 02, U9: by the smaller and then the larger. Places in it are counted
-- from 0. That places and pairs correspond one to one, and that the order is `Before`, is proved (proofs/Order: `place_pair`, `pair_place`,
-- `order_rises`).
--   Pair               two indices
--   Before p q         p comes before q in dictionary order
--   with_larger i j c  (i, j), (i, j + 1), .. : c pairs
--   pairs_from c i     the pairs of i, .., i + c - 1
--   order              the 120 pairs of 0, .., 15
--   pair_at p          the pair at place p
--   place i j          the place of (i, j), where i < j: 15 - x pairs have the smaller index x, and of those of i, j - i - 1 come before j
use Rattle.std.specs.Prelude.{◌≡◌, ◌⊎◌, List, [], ◌∷◌, ◌++◌, ℕ, zero, suc, ◌+◌, ◌-◌, ◌<◌, get_or}
use Rattle.lists.specs.Sum.{sum}

abbrev pub Pair : Type 0
Pair = ℕ × ℕ

abbrev pub Before : Pair → Pair → Type 0
Before p q = (p.0 < q.0) ⊎ ((p.0 ≡ q.0) × (p.1 < q.1))

unfoldable pub with_larger : ℕ → ℕ → ℕ → List Pair
with_larger i j zero = []
with_larger i j (suc c) = (i, j) ∷ with_larger i (suc j) c

unfoldable pub pairs_from : ℕ → ℕ → List Pair
pairs_from zero i = []
pairs_from (suc c) i = with_larger i (suc i) c ++ pairs_from c (suc i)

unfoldable pub order : List Pair
order = pairs_from 16 0

unfoldable pub pair_at : ℕ → Pair
pair_at p = get_or order p (0, 0)

unfoldable pub place : ℕ → ℕ → ℕ
place i j = sum i (λ x. 15 - x) + (j - i - 1)
