-- The neighbour graph as missing pairs (document 02, U9): 120 bits, one for each pair in its order, set where both indices are below n and
-- are not neighbours. 120 bits are 15 bytes, with none to spare: place p is bit p % 8 of byte p / 8, the bit worth 1 first.
--   bit bits p          the bit at place p
--   missing_at n adj p  the pair at place p is missing: the larger index is below n, hence both are, and they are not neighbours
--   bits_of n adj       the 120 bits of a graph
--   adjacent bits i j   i and j are neighbours by any 120 bits: they are the same, or the bit of their pair is not set. An index past 15 is in no pair
use Rattle.std.specs.Prelude.{Bool, not, ◌&&◌, ◌||◌, List, ℕ, ◌+◌, ◌*◌, ◌/◌, ◌%◌, min, max, eqb, ltb, get_or}
use Rattle.lists.specs.Fill.{tabulate}
use Rattle.bitset.specs.Set.{member, set_of}
use Rattle.graph.specs.Pairs.{pair_at, place}

unfoldable pub bit : List ℕ → ℕ → Bool
bit bits p = member (get_or bits (p / 8) 0) (p % 8)

unfoldable pub missing_at : ℕ → (ℕ → ℕ → Bool) → ℕ → Bool
missing_at n adj p = ltb (pair_at p).1 n && not (adj (pair_at p).0 (pair_at p).1)

unfoldable pub bits_of : ℕ → (ℕ → ℕ → Bool) → List ℕ
bits_of n adj = tabulate (λ b. set_of 8 (λ k. missing_at n adj (8 * b + k))) 15

unfoldable pub adjacent : List ℕ → ℕ → ℕ → Bool
adjacent bits i j = eqb i j || not (ltb (max i j) 16 && bit bits (place (min i j) (max i j)))
