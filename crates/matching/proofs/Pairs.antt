-- Laws of lists of pairs. The main ones: a part of a matching is a matching (`keep_matching`), and how many pairs there are:
-- `two_each` (two ends each) and `one_each` (at least one end each in a set).
use mathlib.Core.Path.{◌≡◌, refl, sym, ap}
use mathlib.Core.Logic.{◌⊎◌, inl, inr, ⊎_elim}
use mathlib.Core.List.{List, [], ◌∷◌}
use mathlib.Core.Bool.{Bool, true, false, not, ◌&&◌, cond}
use Prim.Native.Nat.{ℕ, suc, ◌+◌, ◌*◌, ◌≤◌, ◌<◌}
use native.Mathlib.Omega.{arith}
use borrow.Author.Tests.{ne_eqb}
use lib.Dec.{eqb}
use lib.ListN.{length}
use Rattle.lists.specs.Sum.{count}
use Rattle.lists.proofs.Tests.{and_both, same_or_not, lt_or_le}
use Rattle.lists.proofs.Sums.{count_without}
use Rattle.graph.specs.Pairs.{Pair, Before}
use Rattle.matching.specs.Matching.{Each, Disjoint, Rising, IsMatching}

pub tri : (a b : ℕ) → (a < b) ⊎ ((a ≡ b) ⊎ (b < a))
tri a b = ⊎_elim (λ (h : a < b). inl h) (λ (h : b ≤ a). ⊎_elim (λ e. inr (inl e)) (λ n. inr (inr (omega arith))) (same_or_not a b)) (lt_or_le a b)

pub each_map : {P Q : Pair → Type 0} → ((p : Pair) → P p → Q p) → (M : List Pair) → Each P M → Each Q M
each_map f [] h = tt
each_map f (p ∷ M) h = (f p h.0, each_map f M h.1)

pub each_both : {P Q R : Pair → Type 0} → ((p : Pair) → P p → Q p → R p) → (M : List Pair) → Each P M → Each Q M → Each R M
each_both f [] h g = tt
each_both f (p ∷ M) h g = (f p h.0 g.0, each_both f M h.1 g.1)

pub disjoint_sym : (p q : Pair) → Disjoint p q → Disjoint q p
disjoint_sym p q d = ((λ e. d.0 (sym e)), (λ e. d.2 (sym e)), (λ e. d.1 (sym e)), λ e. d.3 (sym e))

-- the pairs of a matching may be judged by a wider test
pub widen : {P Q : Pair → Type 0} → ((p : Pair) → P p → Q p) → (M : List Pair) → IsMatching P M → IsMatching Q M
widen f M m = (each_map f M m.0, m.1)

-- ---- a part of a matching
unfoldable pub keep : (Pair → Bool) → List Pair → List Pair
keep t [] = []
keep t (p ∷ M) = cond (t p) (p ∷ keep t M) (keep t M)

module _ (t : Pair → Bool) where
  keep_each : (P : Pair → Type 0) (M : List Pair) → Each P M → Each P (keep t M)
  unfolding keep
  keep_each P [] h = tt
  keep_each P (p ∷ M) h = go (t p) (keep_each P M h.1)
    where
      go : (b : Bool) → Each P (keep t M) → Each P (cond b (p ∷ keep t M) (keep t M))
      go true r = (h.0, r)
      go false r = r

  keep_passes : (M : List Pair) → Each (λ p. t p ≡ true) (keep t M)
  unfolding keep
  keep_passes [] = tt
  keep_passes (p ∷ M) = go (t p) refl (keep_passes M)
    where
      go : (b : Bool) → t p ≡ b → Each (λ p. t p ≡ true) (keep t M) → Each (λ p. t p ≡ true) (cond b (p ∷ keep t M) (keep t M))
      go true e r = (e, r)
      go false e r = r

  keep_rising : (M : List Pair) → Rising M → Rising (keep t M)
  unfolding keep
  keep_rising [] h = tt
  keep_rising (p ∷ M) h = go (t p) (keep_rising M h.2)
    where
      go : (b : Bool) → Rising (keep t M) → Rising (cond b (p ∷ keep t M) (keep t M))
      go true r = (keep_each (Before p) M h.0, keep_each (Disjoint p) M h.1, r)
      go false r = r

  -- the pairs of a matching that pass a test are a matching
  pub keep_matching : (P : Pair → Type 0) (M : List Pair) → IsMatching P M → IsMatching (λ p. P p × (t p ≡ true)) (keep t M)
  keep_matching P M m = (each_both (λ p a b. (a, b)) (keep t M) (keep_each P M m.0) (keep_passes M), keep_rising M m.1)

-- a pair passes or fails
pub keep_split : (t : Pair → Bool) (M : List Pair) → length M ≡ length (keep t M) + length (keep (λ p. not (t p)) M)
unfolding keep
keep_split t [] = refl
keep_split t (p ∷ M) = go (t p) (keep_split t M)
  where
    go : (b : Bool) → length M ≡ length (keep t M) + length (keep (λ p. not (t p)) M)
        → suc (length M) ≡ length (cond b (p ∷ keep t M) (keep t M)) + length (cond (not b) (p ∷ keep (λ p. not (t p)) M) (keep (λ p. not (t p)) M))
    go true e = omega arith
    go false e = omega arith

-- ---- how many
-- a set without v
abbrev less : (ℕ → Bool) → ℕ → ℕ → Bool
less s v x = s x && not (eqb x v)

less_in : (s : ℕ → Bool) (v x : ℕ) → s x ≡ true → (v ≡ x → ⊥) → less s v x ≡ true
less_in s v x h n = and_both (s x) (not (eqb x v)) h (ap not (ne_eqb x v (λ e. n (sym e))))

-- a matching has two members of s for each pair
pub two_each : (n : ℕ) (s : ℕ → Bool) (M : List Pair) → Rising M
    → Each (λ p. (p.0 < n) × (p.1 < n) × (s p.0 ≡ true) × (s p.1 ≡ true) × (p.0 ≡ p.1 → ⊥)) M → 2 * length M ≤ count n s
two_each n s [] r h = omega arith
two_each n s (p ∷ M) r h =
    let a = h.0 in
    let b : less s p.0 p.1 ≡ true = less_in s p.0 p.1 a.3 a.4 in
    omega (
      arith,
      count_without n s p.0 a.0 a.2,
      count_without n (less s p.0) p.1 a.1 b,
      two_each n (less (less s p.0) p.1) M r.2
          (each_both (λ q d c. (
            c.0,
            c.1,
            less_in (less s p.0) p.1 q.0 (less_in s p.0 q.0 c.2 d.0) d.2,
            less_in (less s p.0) p.1 q.1 (less_in s p.0 q.1 c.3 d.1) d.3,
            c.4,
          )) M r.1 h.1),
    )

-- a matching whose pairs each have an end in s has no more pairs than s has members
pub one_each : (n : ℕ) (s : ℕ → Bool) (M : List Pair) → Rising M
    → Each (λ p. ((p.0 < n) × (s p.0 ≡ true)) ⊎ ((p.1 < n) × (s p.1 ≡ true))) M → length M ≤ count n s
one_each n s [] r h = omega arith
one_each n s (p ∷ M) r h =
    ⊎_elim
    (λ a. omega (
      arith,
      count_without n s p.0 a.0 a.1,
      one_each n (less s p.0) M r.2
          (each_both (λ q d c. ⊎_elim (λ b. inl (b.0, less_in s p.0 q.0 b.1 d.0)) (λ b. inr (b.0, less_in s p.0 q.1 b.1 d.1)) c) M
          r.1 h.1),
    ))
    (λ a. omega (
      arith,
      count_without n s p.1 a.0 a.1,
      one_each n (less s p.1) M r.2
          (each_both (λ q d c. ⊎_elim (λ b. inl (b.0, less_in s p.1 q.0 b.1 d.2)) (λ b. inr (b.0, less_in s p.1 q.1 b.1 d.3)) c) M
          r.1 h.1),
    ))
    h.0
