-- How a search for a matching goes from a set of vertices to a smaller one. E says which pairs may be matched, S who is left, v
-- is the least of S. `step_found`: v has a partner. `step_drop` and `step_none`: it has none. Then bounds on how many pairs a
-- matching has: `take_out` (one vertex less costs at most one pair) and `split_off` (a closed part has half its members at most).
use mathlib.Core.Path.{◌≡◌, refl, sym, ap, subst, ◌∙◌}
use mathlib.Core.Logic.{inl, inr, ⊎_elim}
use mathlib.Core.List.{List, [], ◌∷◌}
use mathlib.Core.Bool.{Bool, true, false, not, ◌||◌}
use Prim.Native.Nat.{ℕ, suc, ◌+◌, ◌*◌, ◌≤◌, ◌<◌}
use native.Mathlib.Omega.{arith}
use borrow.Author.Tests.{eqb-true, eqb-false, not-true}
use lib.Dec.{eqb}
use lib.ListN.{length}
use Rattle.lists.specs.Sum.{count}
use Rattle.lists.proofs.Tests.{or_cases, or_neither, same_or_not}
use Rattle.lists.proofs.Sums.{count_le, count_one}
use Rattle.graph.specs.Pairs.{Pair}
use Rattle.matching.specs.Matching.{IsMatching, NotAfter, FirstLargest, Missing}
use Rattle.matching.specs.Steps.{Joined, AtMost, NoneOfSize, FirstOfSize}
use Rattle.matching.proofs.Pairs.{tri, each_map, each_both, widen, keep, keep_matching, keep_split, two_each, one_each}

-- S without v
abbrev pub Minus : (ℕ → Type 0) → ℕ → ℕ → Type 0
Minus S v x = S x × (x ≡ v → ⊥)

-- what holds of one test of pairs holds of another that passes the same pairs
module _ (P Q : Pair → Type 0) (to : (p : Pair) → P p → Q p) (from : (p : Pair) → Q p → P p) where
  pub same_first : (k : ℕ) (M : List Pair) → FirstOfSize P k M → FirstOfSize Q k M
  same_first k M r = record { matches = widen to M r.matches; size = r.size; first = λ N m l. r.first N (widen from N m) l }

  pub same_none : (k : ℕ) → NoneOfSize P k → NoneOfSize Q k
  unfolding NoneOfSize
  same_none k r N m l = r N (widen from N m) l

  pub same_largest : (M : List Pair) → FirstLargest P M → FirstLargest Q M
  same_largest M r =
      record {
        matches = widen to M r.matches;
        largest = λ N m. r.largest N (widen from N m);
        first = λ N m l. r.first N (widen from N m) l;
      }

pub first_zero : (P : Pair → Type 0) → FirstOfSize P 0 []
first_zero P = record { matches = (tt, tt); size = refl; first = λ N m e. tt }

-- within an empty set there is no pair
no_pairs : (E : ℕ → ℕ → Type 0) (S : ℕ → Type 0) → ((x : ℕ) → S x → ⊥) → (N : List Pair) → IsMatching (Joined E S) N → length N ≡ 0
no_pairs E S bare [] m = refl
no_pairs E S bare (q ∷ N) m = absurd (bare q.0 m.0.0.0)

pub none_empty : (E : ℕ → ℕ → Type 0) (S : ℕ → Type 0) (k : ℕ) → ((x : ℕ) → S x → ⊥) → NoneOfSize (Joined E S) (suc k)
unfolding NoneOfSize
none_empty E S k bare N m l = omega (arith, no_pairs E S bare N m)

-- no matching of more than k + 1 pairs and none of k + 1: none of more than k
pub fewer : (P : Pair → Type 0) (k : ℕ) → AtMost P (suc k) → NoneOfSize P (suc k) → AtMost P k
unfolding AtMost NoneOfSize
fewer P k h q N m = ⊎_elim (λ l. omega arith) (⊎_elim (λ l. absurd (q N m l)) (λ l. absurd (omega (arith, h N m)))) (tri (length N) (suc k))

-- two indices for each pair
pub matching_half : (n : ℕ) (adj : ℕ → ℕ → Bool) (N : List Pair) → IsMatching (Missing n adj) N → 2 * length N ≤ n
matching_half n adj N m =
    let two : 2 * length N ≤ count n (λ _. true) =
    two_each n (λ _. true) N m.1 (each_map (λ p a. (omega (arith, a.0, a.1), a.1, refl, refl, λ e. omega (arith, a.0))) N m.0) in
    omega (arith, count_le n (λ _. true))

module _ (E : ℕ → ℕ → Type 0) where
  pub joined-map : (S T : ℕ → Type 0) → ((x : ℕ) → S x → T x) → (p : Pair) → Joined E S p → Joined E T p
  joined-map S T f p j = (f p.0 j.0, f p.1 j.1, j.2, j.3)

  module _ (S : ℕ → Type 0) (v : ℕ) where
    -- the pairs after one that begins with v
    head_is : (q : Pair) (N : List Pair) → IsMatching (Joined E S) (q ∷ N) → q.0 ≡ v → IsMatching (Joined E (Minus (Minus S v) q.1)) N
    head_is q N m h = (
      each_both (λ r d j. (
        ((j.0, λ e. d.0 (h ∙ sym e)), λ e. d.2 (sym e)),
        ((j.1, λ e. d.1 (h ∙ sym e)), λ e. d.3 (sym e)),
        j.2,
        j.3,
      )) N m.1.1 m.0.1,
      m.1.2,
    )

    module _ (least : (x : ℕ) → S x → v ≤ x) where
      -- a matching whose first pair does not begin with v leaves v out
      head_not : (q : Pair) (N : List Pair) → IsMatching (Joined E S) (q ∷ N) → (q.0 ≡ v → ⊥) → IsMatching (Joined E (Minus S v)) (q ∷ N)
      head_not q N m n =
          let a = m.0.0 in
          let l : v < q.0 = omega (arith, least q.0 a.0) in (
            (
              ((a.0, n), (a.1, λ e. omega (arith, a.2)), a.2, a.3),
              each_both (λ r b j.
                  let g : v < r.0 = ⊎_elim (λ x. omega arith) (λ x. omega (arith, x.0)) b in
                  ((j.0, λ e. omega arith), (j.1, λ e. omega (arith, j.2)), j.2, j.3)) N m.1.0 m.0.1,
            ),
            m.1,
          )

      -- v has a partner: the first such that the others have k pairs
      pub step_found : (k w : ℕ) (M : List Pair) → S v → S w → v < w → E v w
          → ((b : ℕ) → b < w → v < b → S b → E v b → NoneOfSize (Joined E (Minus (Minus S v) b)) k)
          → FirstOfSize (Joined E (Minus (Minus S v) w)) k M → FirstOfSize (Joined E S) (suc k) ((v, w) ∷ M)
      unfolding NoneOfSize
      step_found k w M sv sw lt e none r = record { matches = whole; size = ap suc r.size; first = go }
        where
          whole : IsMatching (Joined E S) ((v, w) ∷ M)
          whole = (
            ((sv, sw, lt, e), each_map (joined-map (Minus (Minus S v) w) S (λ x a. a.0.0)) M r.matches.0),
            (
              each_map (λ q j. inl (omega (arith, least q.0 j.0.0.0, j.0.0.1))) M r.matches.0,
              each_map (λ q j. ((λ h. j.0.0.1 (sym h)), (λ h. j.1.0.1 (sym h)), (λ h. j.0.1 (sym h)), λ h. j.1.1 (sym h))) M r.matches.0,
              r.matches.1,
            ),
          )

          go : (N : List Pair) → IsMatching (Joined E S) N → length N ≡ suc k → NotAfter ((v, w) ∷ M) N
          go [] m l = omega arith
          go (q ∷ N) m l =
              ⊎_elim (λ h. inl (inl h))
              (⊎_elim
              (λ h. ⊎_elim (λ g. inl (inr (h, g)))
              (⊎_elim
              (λ g. inr (
                (λ i. (h i, g i)),
                r.first N (subst (λ (x : ℕ). IsMatching (Joined E (Minus (Minus S v) x)) N) (sym g) (head_is q N m (sym h))) (omega arith),
              ))
              (λ g. absurd (none q.1 g (omega (arith, m.0.0.2)) m.0.0.1 (subst (λ (x : ℕ). E x q.1) (sym h) m.0.0.3) N
              (head_is q N m (sym h)) (omega arith))))
              (tri w q.1))
              (λ h. absurd (omega (arith, least q.0 m.0.0.0))))
              (tri v q.0)

      module _ (k : ℕ) (none : (b : ℕ) → v < b → S v → S b → E v b → NoneOfSize (Joined E (Minus (Minus S v) b)) k) where
        -- v has no partner with which the others have k pairs: every matching of k + 1 pairs leaves v out
        left_out : (N : List Pair) → IsMatching (Joined E S) N → length N ≡ suc k → IsMatching (Joined E (Minus S v)) N
        unfolding NoneOfSize
        left_out [] m l = (tt, tt)
        left_out (q ∷ N) m l =
            ⊎_elim
            (λ e. absurd (none q.1 (omega (arith, m.0.0.2)) (subst S e m.0.0.0) m.0.0.1 (subst (λ (x : ℕ). E x q.1) e m.0.0.3) N
            (head_is q N m e) (omega arith)))
            (λ n. head_not q N m n)
            (same_or_not q.0 v)

        -- then the first one without v is the first one, and if there is none without v there is none
        pub step_drop : (M : List Pair) → FirstOfSize (Joined E (Minus S v)) (suc k) M → FirstOfSize (Joined E S) (suc k) M
        step_drop M r =
            record {
              matches = widen (joined-map (Minus S v) S (λ x a. a.0)) M r.matches;
              size = r.size;
              first = λ N m l. r.first N (left_out N m l) l;
            }

        pub step_none : NoneOfSize (Joined E (Minus S v)) (suc k) → NoneOfSize (Joined E S) (suc k)
        unfolding NoneOfSize
        step_none r N m l = r N (left_out N m l) l

  -- ---- bounds
  pub at_most_empty : (S : ℕ → Type 0) → ((x : ℕ) → S x → ⊥) → AtMost (Joined E S) 0
  unfolding AtMost
  at_most_empty S bare N m = omega (arith, no_pairs E S bare N m)

  -- one vertex more is at most one pair more
  pub take_out : (S : ℕ → Type 0) (v b : ℕ) → AtMost (Joined E (Minus S v)) b → AtMost (Joined E S) (b + 1)
  unfolding AtMost
  take_out S v b h N m =
      let ends : Pair → Bool = λ p. eqb p.0 v || eqb p.1 v in
      let few : length (keep ends N) ≤ count (suc v) (λ x. eqb x v) =
      one_each (suc v) (λ x. eqb x v) (keep ends N) (keep_matching ends (Joined E S) N m).1
      (each_map (λ p j. ⊎_elim (λ e. inl (omega (arith, eqb-true p.0 v e), e)) (λ e. inr (omega (arith, eqb-true p.1 v e), e))
      (or_cases (eqb p.0 v) (eqb p.1 v) j.1))
      (keep ends N) (keep_matching ends (Joined E S) N m).0) in
      let others : IsMatching (Joined E (Minus S v)) (keep (λ p. not (ends p)) N) =
      widen (λ p j.
      let a = j.0 in
      let n = or_neither (eqb p.0 v) (eqb p.1 v) (not-true (ends p) j.1) in
      ((a.0, eqb-false p.0 v n.0), (a.1, eqb-false p.1 v n.1), a.2, a.3))
      (keep (λ p. not (ends p)) N) (keep_matching (λ p. not (ends p)) (Joined E S) N m) in
      omega (arith, keep_split ends N, count_one (suc v) v (omega arith), h (keep (λ p. not (ends p)) N) others)

  -- a part that no pair leaves has half its members at most
  pub split_off : (S : ℕ → Type 0) (n : ℕ) (C : ℕ → Bool) (b c : ℕ) → ((x : ℕ) → S x → x < n) → ((x y : ℕ) → S x → S y → E x y → C x ≡ C y)
      → count n C ≤ 2 * c + 1 → AtMost (Joined E (λ x. S x × (C x ≡ false))) b → AtMost (Joined E S) (b + c)
  unfolding AtMost
  split_off S n C b c small closed few h N m =
      let inside : Pair → Bool = λ p. C p.0 in
      let two : 2 * length (keep inside N) ≤ count n C =
      two_each n C (keep inside N) (keep_matching inside (Joined E S) N m).1
      (each_map (λ p j.
      let a = j.0 in
      (small p.0 a.0, small p.1 a.1, j.1, sym (closed p.0 p.1 a.0 a.1 a.3) ∙ j.1, λ e. omega (arith, a.2)))
      (keep inside N) (keep_matching inside (Joined E S) N m).0) in
      let others : IsMatching (Joined E (λ x. S x × (C x ≡ false))) (keep (λ p. not (inside p)) N) =
      widen (λ p j.
      let a = j.0 in
      let e = not-true (C p.0) j.1 in
      ((a.0, e), (a.1, sym (closed p.0 p.1 a.0 a.1 a.3) ∙ e), a.2, a.3))
      (keep (λ p. not (inside p)) N) (keep_matching (λ p. not (inside p)) (Joined E S) N m) in
      omega (arith, keep_split inside N, h (keep (λ p. not (inside p)) N) others)
