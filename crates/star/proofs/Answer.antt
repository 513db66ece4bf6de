-- From what the code finds to what it answers: `refused`, `answered` and `not-large`, with what the matching gives; `one_sets`: the record determines the
-- answer.
use mathlib.Core.Path.{◌≡◌, sym, ap, subst, ◌∙◌}
use mathlib.Core.List.{List}
use mathlib.Core.Bool.{Bool, true, false}
use Prim.Native.Nat.{ℕ, ◌≤◌, ◌<◌, min}
use native.Mathlib.Omega.{arith}
use Rattle.lists.proofs.Tests.{cond_yes, cond_no}
use Rattle.settings.specs.Valid.{Quorum}
use Rattle.settings.specs.Number.{row_of}
use Rattle.settings.specs.declared.Refusal.{Refusal}
use Rattle.settings.proofs.Laws.{star_0, 0_star, row_least, one_answer}
use Rattle.std.proofs.Common.{Result, Ok, Err}
use Rattle.star.specs.declared.Sets.{Sets}
use Rattle.graph.specs.Pairs.{Pair}
use Rattle.graph.specs.Bits.{adjacent}
use Rattle.matching.specs.Matching.{Each, FirstLargest, Missing}
use Rattle.matching.specs.declared.Matching.{Matching}
use Rattle.matching.specs.Answer.{pairs_of, IsFirstLargest}
use Rattle.matching.proofs.Laws.{each_map}
use Rattle.star.specs.Star.{Star, sets_from, no_sets, is_large, star_with, refusal_for, IsStar, sets_of}
use Rattle.star.specs.Steps.{Below}

module _ (n t : ℕ) where
  pub refusal_0 : refusal_for n t ≡ 0 → Quorum n t
  unfolding refusal_for
  refusal_0 e = star_0 n t e

  pub 0_refusal : Quorum n t → refusal_for n t ≡ 0
  unfolding refusal_for
  0_refusal q = 0_star n t q

-- the pairs of the matching used are below n
pub ends-below : (n : ℕ) (adj : ℕ → ℕ → Bool) (M : List Pair) → FirstLargest (Missing n adj) M → Each (λ p. (p.0 < n) × (p.1 < n)) M
ends-below n adj M big = each_map (λ p m. (omega (arith, m.0, m.1), m.1)) M big.matches.0

module _ (bits : List ℕ) (n t : ℕ) where
  abbrev adj : ℕ → ℕ → Bool
  adj = adjacent bits

  pub refused : (r : Refusal) → row_of r ≡ refusal_for n t → IsStar n t adj (no_sets (row_of r))
  refused r e = record { refused = λ _. ap no_sets e; carried = λ z. absurd (omega (arith, row_least r, e, z)) }

  module _ (taken : refusal_for n t ≡ 0) (most : n ≤ 16) (m : Matching) (largest : IsFirstLargest (min n 16) adj m) where
    big : FirstLargest (Missing n adj) (pairs_of m)
    big = let same : min n 16 ≡ n = omega arith in subst (λ (x : ℕ). FirstLargest (Missing x adj) (pairs_of m)) same largest.first_largest

    pub below : Below n (pairs_of m)
    below = ends-below n adj (pairs_of m) big

    carry : (r : Star) → r ≡ star_with n t adj (pairs_of m) → IsStar n t adj r
    carry r e = record { refused = λ z. absurd (z taken); carried = λ _. (pairs_of m, big, e) }

    pub answered : (s : Star) → s ≡ sets_from n t adj (pairs_of m) → is_large n t s ≡ true → IsStar n t adj s
    answered s e y =
        let S = sets_from n t adj (pairs_of m) in carry s (e ∙ sym (cond_yes (is_large n t S) S (no_sets 0) (subst (λ (x : Star). is_large n t x ≡ true) e y)))

    pub not-large : (s r : Star) → s ≡ sets_from n t adj (pairs_of m) → is_large n t s ≡ false → r ≡ no_sets 0 → IsStar n t adj r
    not-large s r e y h =
        let S = sets_from n t adj (pairs_of m) in
        carry r (h ∙ sym (cond_no (is_large n t S) S (no_sets 0) (subst (λ (x : Star). is_large n t x ≡ false) e y)))

-- ---- the record determines the answer
row_in : Refusal → Result (Unit {0}) Refusal → Refusal
row_in r (Ok u) = r
row_in r (Err q) = q

same_row : (r q : Refusal) → row_of r ≡ row_of q → r ≡ q
unfolding row_in
same_row r q e = ap (row_in r) (one_answer (Err r) (Err q) e)

pub one_sets : (a b : Result Sets Refusal) → sets_of a ≡ sets_of b → a ≡ b
unfolding no_sets
one_sets (Ok s) (Ok u) e = ap (λ (z : Star). Ok (record { c = z.c; d = z.d; f = z.f; e = z.e })) e
one_sets (Ok s) (Err r) e = absurd (omega (arith, row_least r, ap (λ (z : Star). z.refusal) e))
one_sets (Err r) (Ok u) e = absurd (omega (arith, row_least r, ap (λ (z : Star). z.refusal) e))
one_sets (Err r) (Err q) e = ap Err (same_row r q (ap (λ (z : Star). z.refusal) e))
