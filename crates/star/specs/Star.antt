-- The star and the core (document 01, 'Star and core'; source 001, Find-STAR and its quadruple). Index i stands for controller i + 1;
-- `adj i j` says whether i and j are neighbours; M is the matching used, of pairs below n that are not neighbours.
--   struck adj M i       i is a non-neighbour of both ends of one pair of M
--   set_C n adj M        C: the unmatched, without those struck
--   lacks n adj s i      i has a non-neighbour in the set s
--   set_D n adj M        D: all but B, the matched with a non-neighbour in C
--   at_least n adj s k   those with at least k neighbours in the set s
--   set_F n t adj M      F: those with at least t + 1 neighbours in C
--   set_e n t adj M      E: those with at least 2t + 1 neighbours in F
--   Star                 the number of a refusal, or 0, and the four sets
--   sets_from n t adj M  the four sets
--   no_sets r            four empty sets, with the refusal's number
--   is_large n t s       C has at least n - 2t members, D at least n - t, F and E at least 2t + 1
--   star_with n t adj M  the four sets if they are large enough, else none
--   refusal_for n t      the number with which the star refuses n and t; 0 where it does not
--   IsStar n t adj s     s is the star of the graph: refused, the number and no sets; else the star with the matching that, of the largest ones, is the
--                        first in dictionary order (`FirstLargest`)
--   found s              the core is found: E is not empty
-- What the code answers, as such a record; no two answers are the same one (law `one_sets`):
--   four s               four sets
--   sets_of r            the sets, or the refusal and no sets
-- The star as a function, for callers that need one:
--   star_from n t adj      the star with `matching_of n adj`
--   star_for n t adj       the star of the graph
--   star_of rows n t       of the graph of rows of marks
--   star_of_bits bits n t  of the graph of any 120 bits (document 02, U9)
--   StarIsOne              the relation holds of what the function answers and of nothing else (proofs/Same: `star_is_one`)
--   StarOfBits             the star of the bits of the rows is the star of the rows (proofs/Same: `star_of_bits_lem`)
use Rattle.std.specs.Prelude.{◌≡◌, List, Bool, cond, not, ◌&&◌, ℕ, ◌+◌, ◌-◌, ◌*◌, eqb, ltb, leb, Result, Ok, Err}
use Rattle.lists.specs.Sum.{count}
use Rattle.bitset.specs.Set.{member, set_of, size_of}
use Rattle.settings.specs.Refusal.{star_refusal}
use Rattle.settings.specs.Number.{row_of}
use Rattle.settings.specs.declared.Refusal.{Refusal}
use Rattle.graph.specs.Neighbour.{neighbour}
use Rattle.graph.specs.Pairs.{Pair}
use Rattle.graph.specs.Bits.{bits_of, adjacent}
use Rattle.matching.specs.Matching.{FirstLargest, Missing, any_pair, matched}
use Rattle.matching.specs.First.{matching_of}
use Rattle.star.specs.declared.Sets.{Sets}

unfoldable pub struck : (ℕ → ℕ → Bool) → List Pair → ℕ → Bool
struck adj M i = any_pair (λ p. not (adj p.0 i) && not (adj p.1 i)) M

unfoldable pub set_C : ℕ → (ℕ → ℕ → Bool) → List Pair → ℕ
set_C n adj M = set_of n (λ i. not (matched M i) && not (struck adj M i))

unfoldable pub lacks : ℕ → (ℕ → ℕ → Bool) → ℕ → ℕ → Bool
lacks n adj s i = ltb 0 (count n (λ x. member s x && not (adj i x)))

unfoldable pub set_D : ℕ → (ℕ → ℕ → Bool) → List Pair → ℕ
set_D n adj M = set_of n (λ i. not (matched M i && lacks n adj (set_C n adj M) i))

unfoldable pub at_least : ℕ → (ℕ → ℕ → Bool) → ℕ → ℕ → ℕ
at_least n adj s k = set_of n (λ i. leb k (count n (λ x. member s x && adj i x)))

unfoldable pub set_F : ℕ → ℕ → (ℕ → ℕ → Bool) → List Pair → ℕ
set_F n t adj M = at_least n adj (set_C n adj M) (t + 1)

unfoldable pub set_e : ℕ → ℕ → (ℕ → ℕ → Bool) → List Pair → ℕ
set_e n t adj M = at_least n adj (set_F n t adj M) (2 * t + 1)

pub record Star : Type 0 where
  pub refusal : ℕ
  pub c : ℕ
  pub d : ℕ
  pub f : ℕ
  pub e : ℕ

unfoldable pub sets_from : ℕ → ℕ → (ℕ → ℕ → Bool) → List Pair → Star
sets_from n t adj M = record { refusal = 0; c = set_C n adj M; d = set_D n adj M; f = set_F n t adj M; e = set_e n t adj M }

unfoldable pub no_sets : ℕ → Star
no_sets r = record { refusal = r; c = 0; d = 0; f = 0; e = 0 }

unfoldable pub is_large : ℕ → ℕ → Star → Bool
is_large n t s =
    leb (n - 2 * t) (size_of s.c) && (leb (n - t) (size_of s.d) && (leb (2 * t + 1) (size_of s.f) && leb (2 * t + 1) (size_of s.e)))

abbrev pub star_with : ℕ → ℕ → (ℕ → ℕ → Bool) → List Pair → Star
star_with n t adj M = cond (is_large n t (sets_from n t adj M)) (sets_from n t adj M) (no_sets 0)

unfoldable pub refusal_for : ℕ → ℕ → ℕ
refusal_for n t = star_refusal n t

pub record IsStar (n t : ℕ) (adj : ℕ → ℕ → Bool) (s : Star) : Type 0 where
  pub refused : (refusal_for n t ≡ 0 → ⊥) → s ≡ no_sets (refusal_for n t)
  pub carried : refusal_for n t ≡ 0 → (M : List Pair) × FirstLargest (Missing n adj) M × (s ≡ star_with n t adj M)

unfoldable pub found : Star → Bool
found s = ltb 0 s.e

abbrev pub four : Sets → Star
four s = record { refusal = 0; c = s.c; d = s.d; f = s.f; e = s.e }

abbrev pub sets_of : Result Sets Refusal → Star
sets_of (Ok s) = four s
sets_of (Err r) = no_sets (row_of r)

unfoldable pub star_from : ℕ → ℕ → (ℕ → ℕ → Bool) → Star
star_from n t adj = star_with n t adj (matching_of n adj)

abbrev pub star_for : ℕ → ℕ → (ℕ → ℕ → Bool) → Star
star_for n t adj = cond (eqb (refusal_for n t) 0) (star_from n t adj) (no_sets (refusal_for n t))

unfoldable pub star_of : List ℕ → ℕ → ℕ → Star
star_of rows n t = star_for n t (neighbour rows)

unfoldable pub star_of_bits : List ℕ → ℕ → ℕ → Star
star_of_bits bits n t = star_for n t (adjacent bits)

abbrev pub StarIsOne : Type 0
StarIsOne = (n t : ℕ) (adj : ℕ → ℕ → Bool) (s : Star) → (IsStar n t adj s → s ≡ star_for n t adj) × (s ≡ star_for n t adj → IsStar n t adj s)

abbrev pub StarOfBits : Type 0
StarOfBits = (rows : List ℕ) (n t : ℕ) → star_of_bits (bits_of n (neighbour rows)) n t ≡ star_of rows n t
