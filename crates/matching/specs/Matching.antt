-- Matchings, and which of them the star uses (document 01, 'Star and core': of the largest matchings among the pairs that are
-- not neighbours, the first in dictionary order; pairs with the smaller number first, listed in rising order).
--   Each P M          every pair of M passes P
--   Disjoint p q      p and q have no end in common
--   Rising M          the pairs of M are disjoint and in rising order
--   IsMatching P M    M is a matching of pairs that pass P
--   NotAfter M N      M does not come after N in dictionary order
--   FirstLargest P M  of the largest matchings of pairs that pass P, M is the first in dictionary order
--   OneMatching       no two lists meet `FirstLargest P`: the relation determines the matching (proofs/One: `one_matching`)
--   Missing n adj p   p is a pair of 0 .. n - 1, the smaller end first, that are not neighbours
--   any_pair R M      some pair of M passes the test R
--   is_end i p        i is an end of p
--   matched M i       i is an end of a pair of M
use Rattle.std.specs.Prelude.{◌≡◌, ◌⊎◌, List, [], ◌∷◌, Bool, false, ◌||◌, ℕ, ◌≤◌, ◌<◌, eqb, length}
use Rattle.graph.specs.Pairs.{Pair, Before}

abbrev pub Each : (Pair → Type 0) → List Pair → Type 0
Each P [] = Unit {0}
Each P (p ∷ M) = P p × Each P M

abbrev pub Disjoint : Pair → Pair → Type 0
Disjoint p q = (p.0 ≡ q.0 → ⊥) × (p.0 ≡ q.1 → ⊥) × (p.1 ≡ q.0 → ⊥) × (p.1 ≡ q.1 → ⊥)

abbrev pub Rising : List Pair → Type 0
Rising [] = Unit {0}
Rising (p ∷ M) = Each (Before p) M × Each (Disjoint p) M × Rising M

abbrev pub IsMatching : (Pair → Type 0) → List Pair → Type 0
IsMatching P M = Each P M × Rising M

abbrev pub NotAfter : List Pair → List Pair → Type 0
NotAfter [] N = Unit {0}
NotAfter (p ∷ M) [] = ⊥
NotAfter (p ∷ M) (q ∷ N) = Before p q ⊎ ((p ≡ q) × NotAfter M N)

pub record FirstLargest (P : Pair → Type 0) (M : List Pair) : Type 0 where
  pub matches : IsMatching P M
  pub largest : (N : List Pair) → IsMatching P N → length N ≤ length M
  pub first : (N : List Pair) → IsMatching P N → length N ≡ length M → NotAfter M N

abbrev pub OneMatching : Type 1
OneMatching = (P : Pair → Type 0) (M N : List Pair) → FirstLargest P M → FirstLargest P N → M ≡ N

abbrev pub Missing : ℕ → (ℕ → ℕ → Bool) → Pair → Type 0
Missing n adj p = (p.0 < p.1) × (p.1 < n) × (adj p.0 p.1 ≡ false)

abbrev pub any_pair : (Pair → Bool) → List Pair → Bool
any_pair R [] = false
any_pair R (p ∷ M) = R p || any_pair R M

abbrev pub is_end : ℕ → Pair → Bool
is_end i p = eqb i p.0 || eqb i p.1

unfoldable pub matched : List Pair → ℕ → Bool
matched M i = any_pair (is_end i) M
