-- There is one first largest matching (`one_matching`), so one answer (`one_answer`), and of the graph only who are neighbours below n
-- counts (`same_graph`).
use mathlib.Core.Path.{◌≡◌, refl, sym, ap, ap₂, subst, ◌∙◌}
use mathlib.Core.Logic.{⊎_elim}
use mathlib.Core.List.{List, [], ◌∷◌}
use mathlib.Core.Bool.{Bool}
use Prim.Native.Nat.{ℕ, ◌<◌}
use native.Mathlib.Omega.{arith}
use lib.ListN.{length}
use Rattle.graph.specs.Pairs.{Pair, Before}
use Rattle.matching.specs.Matching.{NotAfter, FirstLargest, OneMatching, Missing}
use Rattle.matching.specs.Answer.{stored, pairs_of, OneAnswer}
use Rattle.matching.proofs.Sizes.{same_largest}

-- of two lists neither comes after the other only where they are the same
no_ties : (M N : List Pair) → NotAfter M N → NotAfter N M → M ≡ N
no_ties [] [] a b = refl
no_ties [] (q ∷ N) a b = absurd b
no_ties (p ∷ M) [] a b = absurd a
no_ties (p ∷ M) (q ∷ N) a b =
    ⊎_elim
    (λ l. absurd (⊎_elim (λ k. apart p q l k) (λ k. apart p q l (inr_refl p q k.0 l)) b))
    (λ l. ⊎_elim
    (λ k. absurd (apart q p k (inr_refl q p l.0 k)))
    (λ k. ap₂ (λ (x : Pair) (y : List Pair). x ∷ y) l.0 (no_ties M N l.1 k.1))
    b)
    a
  where
    apart : (p q : Pair) → Before p q → Before q p → ⊥
    apart p q l k =
        ⊎_elim (λ x. ⊎_elim (λ y. omega arith) (λ y. omega (arith, y.0)) k)
        (λ x. ⊎_elim (λ y. omega (arith, x.0)) (λ y. omega (arith, x.1, y.1)) k) l

    -- of equal pairs each comes before the other if one does
    inr_refl : (p q : Pair) → q ≡ p → Before p q → Before q p
    inr_refl p q e l = subst (λ (x : Pair). Before q x) e (subst (λ (x : Pair). Before x q) (sym e) l)

-- there is one first largest matching
pub one_matching : OneMatching
one_matching P M N a b =
    let l : length N ≡ length M = omega (arith, a.largest N b.matches, b.largest M a.matches) in
    no_ties M N (a.first N b.matches l) (b.first M a.matches (sym l))

pub one_answer : OneAnswer
one_answer n adj r s a b =
    a.answered ∙ ap stored (one_matching (Missing n adj) (pairs_of r) (pairs_of s) a.first_largest b.first_largest) ∙ sym b.answered

-- only who are neighbours below n counts
pub same_graph : (n : ℕ) (adj nadj : ℕ → ℕ → Bool) → ((i j : ℕ) → i < n → j < n → adj i j ≡ nadj i j) → (M : List Pair)
    → FirstLargest (Missing n adj) M → FirstLargest (Missing n nadj) M
same_graph n adj nadj same = same_largest (Missing n adj) (Missing n nadj) out back
  where
    out : (p : Pair) → Missing n adj p → Missing n nadj p
    out p m = (m.0, m.1, sym (same p.0 p.1 (omega (arith, m.0, m.1)) m.1) ∙ m.2)

    back : (p : Pair) → Missing n nadj p → Missing n adj p
    back p m = (m.0, m.1, same p.0 p.1 (omega (arith, m.0, m.1)) m.1 ∙ m.2)
