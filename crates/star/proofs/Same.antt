-- The star as a relation and as a function: they say the same (`star_is_one`), of the graph only who are neighbours below n counts
-- (`same_is_star`, `same_star`, `same_bits`), and the star of the bits of the rows is the star of the rows (`star_of_bits_lem`).
use mathlib.Core.Path.{◌≡◌, refl, ap, subst, ◌∙◌}
use mathlib.Core.List.{List}
use mathlib.Core.Bool.{Bool, true, false, cond}
use Prim.Native.Nat.{ℕ, ◌<◌}
use borrow.Author.Tests.{eq-eqb, ne_eqb, eqb-true, eqb-false}
use lib.Dec.{eqb}
use lib.ListN.{get_or}
use Rattle.lists.proofs.Tests.{cond_yes, cond_no}
use Rattle.bitset.specs.Set.{member}
use Rattle.settings.specs.Valid.{Quorum}
use Rattle.graph.specs.Neighbour.{neighbour}
use Rattle.graph.specs.Pairs.{place}
use Rattle.graph.specs.Bits.{bit, bits_of, adjacent}
use Rattle.graph.proofs.Laws.{neighbour_sym, neighbour_self, neighbour_same, adjacent_of, adjacent_same}
use Rattle.matching.specs.Matching.{Missing}
use Rattle.matching.specs.First.{matching_of}
use Rattle.matching.proofs.Laws.{one_matching, matching_first, same_graph}
use Rattle.star.specs.Star.{Star, no_sets, is_large, star_with, refusal_for, IsStar, star_from, star_for, star_of, star_of_bits, StarIsOne, StarOfBits}
use Rattle.star.proofs.Parts.{sets_same}
use Rattle.star.proofs.Answer.{refusal_0, ends-below}

-- ---- the relation and the function
pub star_is_one : StarIsOne
unfolding star_from
star_is_one n t adj s = (to, from)
  where
    to : IsStar n t adj s → s ≡ star_for n t adj
    to r = go (eqb (refusal_for n t) 0) refl
      where
        go : (b : Bool) → eqb (refusal_for n t) 0 ≡ b → s ≡ cond b (star_from n t adj) (no_sets (refusal_for n t))
        go true e =
            let m = r.carried (eqb-true (refusal_for n t) 0 e) in
            m.2 ∙ ap (star_with n t adj) (one_matching (Missing n adj) m.0 (matching_of n adj) m.1 (matching_first n adj))
        go false e = r.refused (eqb-false (refusal_for n t) 0 e)

    from : s ≡ star_for n t adj → IsStar n t adj s
    from e =
        record {
          refused = λ ne. e ∙ cond_no (eqb (refusal_for n t) 0) (star_from n t adj) (no_sets (refusal_for n t)) (ne_eqb (refusal_for n t) 0 ne);
          carried = λ z. (
            matching_of n adj,
            matching_first n adj,
            e
                ∙ cond_yes (eqb (refusal_for n t) 0) (star_from n t adj) (no_sets (refusal_for n t)) (eq-eqb (refusal_for n t) 0 z),
          );
        }

pub star_of_lem : (rows : List ℕ) (n t : ℕ) (s : Star) → IsStar n t (neighbour rows) s → s ≡ star_of rows n t
unfolding star_of
star_of_lem rows n t s = (star_is_one n t (neighbour rows) s).0

pub star_of-pairs : (bits : List ℕ) (n t : ℕ) (s : Star) → IsStar n t (adjacent bits) s → s ≡ star_of_bits bits n t
unfolding star_of_bits
star_of-pairs bits n t s = (star_is_one n t (adjacent bits) s).0

-- ---- only who are neighbours below n counts, and that only where the settings are valid
module _ (n t : ℕ) (adj nadj : ℕ → ℕ → Bool) (same : Quorum n t → (i j : ℕ) → i < n → j < n → adj i j ≡ nadj i j) where
  pub same_is_star : (s : Star) → IsStar n t adj s → IsStar n t nadj s
  same_is_star s r =
      record {
        refused = r.refused;
        carried = λ z.
            let m = r.carried z in
            let e = same (refusal_0 n t z) in (
              m.0,
              same_graph n adj nadj e m.0 m.1,
              m.2 ∙ ap (λ (x : Star). cond (is_large n t x) x (no_sets 0)) (sets_same n adj nadj e t m.0 (ends-below n adj m.0 m.1)),
            );
      }

  same_for : star_for n t adj ≡ star_for n t nadj
  same_for = (star_is_one n t nadj (star_for n t adj)).0 (same_is_star (star_for n t adj) ((star_is_one n t adj (star_for n t adj)).1 refl))

pub same_star : (rows nrows : List ℕ) (n t : ℕ) → ((i j : ℕ) → i < n → j < n → neighbour rows i j ≡ neighbour nrows i j) → star_of rows n t ≡ star_of nrows n t
unfolding star_of
same_star rows nrows n t same = same_for n t (neighbour rows) (neighbour nrows) (λ _. same)

pub same_rows : (rows nrows : List ℕ) (n t : ℕ) → ((i j : ℕ) → i < n → j < n → member (get_or rows i 0) j ≡ member (get_or nrows i 0) j)
    → star_of rows n t ≡ star_of nrows n t
same_rows rows nrows n t same = same_star rows nrows n t (λ i j li lj. neighbour_same rows nrows i j (same i j li lj) (same j i lj li))

-- bits of indices past n are not read
pub same_bits : (a b : List ℕ) (n t : ℕ) → ((i j : ℕ) → i < j → j < n → bit a (place i j) ≡ bit b (place i j)) → star_of_bits a n t ≡ star_of_bits b n t
unfolding star_of_bits
same_bits a b n t same = same_for n t (adjacent a) (adjacent b) (λ q. adjacent_same n a b q.n_most same)

-- ---- the star of the bits of the rows is the star of the rows
bits_say : (rows : List ℕ) (n t : ℕ) → Quorum n t → (i j : ℕ) → i < n → j < n → adjacent (bits_of n (neighbour rows)) i j ≡ neighbour rows i j
bits_say rows n t q = adjacent_of n (neighbour rows) (neighbour_self rows) (neighbour_sym rows) q.n_most

pub bits_star : (rows : List ℕ) (n t : ℕ) (bits : List ℕ) (s : Star) → bits ≡ bits_of n (neighbour rows) → IsStar n t (adjacent bits) s
    → IsStar n t (neighbour rows) s
bits_star rows n t bits s e r =
    same_is_star n t (adjacent (bits_of n (neighbour rows))) (neighbour rows) (bits_say rows n t) s (subst (λ (b : List ℕ). IsStar n t (adjacent b) s) e r)

pub star_of_bits_lem : StarOfBits
unfolding star_of star_of_bits
star_of_bits_lem rows n t = same_for n t (adjacent (bits_of n (neighbour rows))) (neighbour rows) (bits_say rows n t)

pub core_of_bits : (rows : List ℕ) (n t : ℕ) → (star_of_bits (bits_of n (neighbour rows)) n t).e ≡ (star_of rows n t).e
core_of_bits rows n t = ap (λ (s : Star). s.e) (star_of_bits_lem rows n t)
