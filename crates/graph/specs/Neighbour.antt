-- The neighbour graph of 16 rows of marks (document 01, 'Rounds', call 3t + 7, and 'Star and core'). Index i stands for
-- controller i + 1. Below, `adj i j` says whether i and j are neighbours, in a graph however it is given.
--   neighbour rows i j  i and j mark each other, or are the same
--   missing n adj i     the set of those with whom i makes a missing pair: both are below n, and they are not neighbours
use Rattle.std.specs.Prelude.{Bool, not, ◌&&◌, ◌||◌, List, ℕ, eqb, ltb, get_or}
use Rattle.bitset.specs.Set.{member, set_of}

unfoldable pub neighbour : List ℕ → ℕ → ℕ → Bool
neighbour rows i j = eqb i j || (member (get_or rows i 0) j && member (get_or rows j 0) i)

unfoldable pub missing : ℕ → (ℕ → ℕ → Bool) → ℕ → ℕ
missing n adj i = set_of n (λ j. ltb i n && not (adj i j))
