-- A function that meets the relation `FirstLargest`, for callers that need one: no contract here speaks of it. That `matching_of n adj` meets
-- the relation is `MatchingFirst`; that nothing else does is `OneMatching` (specs/Matching).
--   first_found f u w       the first of f w, f (w + 1), .., u of them, that is not none
--   of_size adj u v free k  the first matching of k pairs among those of v .. v + u - 1 that are free; none where there is none
--   or_list r M             the list of r, or M where r is none
--   up_to adj n k           the first largest of the matchings of at most k pairs among 0 .. n - 1
--   matching_of n adj       the first largest matching among 0 .. n - 1
--   MatchingFirst           it is the first largest matching (proofs/First: `matching_first`)
use Rattle.std.specs.Prelude.{List, [], Bool, true, cond, not, ◌&&◌, ℕ, zero, suc, eqb}
use Rattle.std.proofs.Math.Option.{Option, none, some}
use Rattle.lists.specs.Options.{or_else, front}
use Rattle.graph.specs.Pairs.{Pair}
use Rattle.matching.specs.Matching.{FirstLargest, Missing}

unfoldable pub first_found : (ℕ → Option (List Pair)) → ℕ → ℕ → Option (List Pair)
first_found f zero w = none
first_found f (suc u) w = or_else (f w) (first_found f u (suc w))

-- v takes its first partner with which the others have k pairs, or is left out
unfoldable pub of_size : (ℕ → ℕ → Bool) → ℕ → ℕ → (ℕ → Bool) → ℕ → Option (List Pair)
of_size adj zero v free zero = some []
of_size adj zero v free (suc k) = none
of_size adj (suc u) v free zero = some []
of_size adj (suc u) v free (suc k) =
    or_else
    (first_found (λ w. cond (free v && (free w && not (adj v w))) (front (v, w) (of_size adj u (suc v) (λ x. free x && not (eqb x w)) k)) none) u (suc v))
    (of_size adj u (suc v) free (suc k))

abbrev pub or_list : Option (List Pair) → List Pair → List Pair
or_list none M = M
or_list (some M) _ = M

unfoldable pub up_to : (ℕ → ℕ → Bool) → ℕ → ℕ → List Pair
up_to adj n zero = []
up_to adj n (suc k) = or_list (of_size adj n 0 (λ _. true) (suc k)) (up_to adj n k)

unfoldable pub matching_of : ℕ → (ℕ → ℕ → Bool) → List Pair
matching_of n adj = up_to adj n n

abbrev pub MatchingFirst : Type 0
MatchingFirst = (n : ℕ) (adj : ℕ → ℕ → Bool) → FirstLargest (Missing n adj) (matching_of n adj)
